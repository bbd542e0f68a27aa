use Rattle.std.proofs.Common.{◌<◌, length, sym, arith, ◌∙◌, rules}
use Rattle.std.proofs.lemmas.List.{drop_all}
use Rattle.pk_tree.specs.Layouts.{StepsFit}
use Rattle.pk_tree.proofs.LayoutLemmas.{tree-on, tree-off, reach-on, reach-off, reach-none, steps_left, none_read}
use Rattle.pk_tree.proofs.layout.read_steps.Goals as goal

pub loop-step-init : goal.loop-step-init
unfolding StepsFit
loop-step-init c = search rules

pub loop-step-preserved : goal.loop-step-preserved
loop-step-preserved c =
    let steps = c.args.steps.now in
    let inside : c.loop-step.step-index < length c.args.steps.now = omega arith in
    let left = steps_left steps c.loop-step.step-index c.step-item.result inside c.step-item.is in
    let on = sym c.is_all.ensures.value ∙ c.if-not-is_all.false in
    let goes = rw left at c.loop-step.invariant.tree_goes in
    let reaches = rw left at c.loop-step.invariant.reach_goes in
    let fits = rw left at c.loop-step.invariant.rest_fits in
    record {
      tree_goes = tree-on c.args.tree.now c.loop-step.tree c.read_step.new.tree c.args.span steps _ c.step-item.result c.in_ok-reach.reach goes c.loop-step.invariant.same_buffers on c.in_ok-reach.ensures.why c.in_ok-reach.ensures.tree;
      reach_goes = sym (reach-on c.args.span.len c.step-item.result _ c.in_ok-reach.reach on c.in_ok-reach.ensures.why) ∙ reaches;
      same_buffers = c.in_ok-reach.ensures.buffers ∙ c.loop-step.invariant.same_buffers;
      same_count = c.in_ok-reach.ensures.count ∙ c.loop-step.invariant.same_count;
      same_last = c.in_ok-reach.ensures.last ∙ c.loop-step.invariant.same_last;
      rest_fits = fits.1;
    }

pub returns-then-not-is_all-clause-tree : goal.returns-then-not-is_all-clause-tree
returns-then-not-is_all-clause-tree c =
    let steps = c.args.steps.now in
    let inside : c.loop-step.step-index < length c.args.steps.now = omega arith in
    let left = steps_left steps c.loop-step.step-index c.step-item.result inside c.step-item.is in
    let off = sym c.is_all.ensures.value ∙ c.if-not-is_all.true in
    let goes = rw left at c.loop-step.invariant.tree_goes in
    tree-off c.args.tree.now c.loop-step.tree c.read_step.new.tree c.args.span steps _ c.step-item.result c.in_ok-reach.reach goes c.loop-step.invariant.same_buffers off c.in_ok-reach.ensures.why c.in_ok-reach.ensures.tree

pub returns-then-not-is_all-clause-why : goal.returns-then-not-is_all-clause-why
returns-then-not-is_all-clause-why c =
    let steps = c.args.steps.now in
    let inside : c.loop-step.step-index < length c.args.steps.now = omega arith in
    let left = steps_left steps c.loop-step.step-index c.step-item.result inside c.step-item.is in
    let off = sym c.is_all.ensures.value ∙ c.if-not-is_all.true in
    let reaches = rw left at c.loop-step.invariant.reach_goes in
    sym (reach-off c.args.span.len c.step-item.result _ c.in_ok-reach.reach off c.in_ok-reach.ensures.why) ∙ reaches

pub returns-clause-tree : goal.returns-clause-tree
returns-clause-tree c =
    let none = drop_all c.loop-step.step-index c.args.steps.now c.loop-step-test.false in
    sym (none_read c.args.tree.now.buffers c.args.span c.loop-step.tree) ∙ rw none at c.loop-step.invariant.tree_goes

pub returns-clause-why : goal.returns-clause-why
returns-clause-why c =
    let none = drop_all c.loop-step.step-index c.args.steps.now c.loop-step-test.false in
    sym (reach-none c.args.span.len) ∙ rw none at c.loop-step.invariant.reach_goes
