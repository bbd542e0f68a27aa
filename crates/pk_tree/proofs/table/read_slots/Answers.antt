use Rattle.std.proofs.Common.{◌<◌, length, get_or, sym, arith, ◌∙◌}
use Rattle.std.proofs.lemmas.List.{drop_all, drop_more}
use Rattle.pk_tree.specs.declared.table.Slot.TheVariants.{Row}
use Rattle.pk_tree.specs.Layouts.{StepsFit}
use Rattle.pk_tree.specs.Tables.{step_of, steps_of}
use Rattle.pk_tree.proofs.LayoutLemmas.{tree-on, tree-off, reach-on, reach-off, reach-none, none_read}
use Rattle.pk_tree.proofs.table.read_slots.Goals as goal

pub read_slot-requires-clause-fits : goal.read_slot-requires-clause-fits
unfolding StepsFit steps_of
read_slot-requires-clause-fits c =
    let inside : c.loop-slot.slot-index < length c.args.slots.now = omega arith in
    let left = drop_more c.args.slots.now c.loop-slot.slot-index (Row 0 0) inside in
    let fits = rw left at c.loop-slot.invariant.rest_fits in
    rw c.loop-slot.invariant.same_last fits.0

pub loop-slot-preserved : goal.loop-slot-preserved
unfolding StepsFit steps_of
loop-slot-preserved c =
    let inside : c.loop-slot.slot-index < length c.args.slots.now = omega arith in
    let slot = get_or c.args.slots.now c.loop-slot.slot-index (Row 0 0) in
    let left = drop_more c.args.slots.now c.loop-slot.slot-index (Row 0 0) inside in
    let on = sym c.is_all.ensures.value ∙ c.if-not-is_all.false in
    let goes = rw left at c.loop-slot.invariant.tree_goes in
    let reaches = rw left at c.loop-slot.invariant.reach_goes in
    let fits = rw left at c.loop-slot.invariant.rest_fits in
    record {
      tree_goes = tree-on c.args.tree.now c.loop-slot.tree c.read_slot.new.tree c.args.span (steps_of c.args.holds.now c.args.sizes.now c.args.slots.now) _ (step_of c.args.holds.now c.args.sizes.now slot) c.in_ok-reach.reach goes c.loop-slot.invariant.same_buffers on c.in_ok-reach.ensures.why c.in_ok-reach.ensures.tree;
      reach_goes = sym (reach-on c.args.span.len (step_of c.args.holds.now c.args.sizes.now slot) _ c.in_ok-reach.reach on c.in_ok-reach.ensures.why) ∙ reaches;
      same_buffers = c.in_ok-reach.ensures.buffers ∙ c.loop-slot.invariant.same_buffers;
      same_count = c.in_ok-reach.ensures.count ∙ c.loop-slot.invariant.same_count;
      same_last = c.in_ok-reach.ensures.last ∙ c.loop-slot.invariant.same_last;
      rest_fits = fits.1;
    }

pub returns-then-not-is_all-clause-tree : goal.returns-then-not-is_all-clause-tree
unfolding steps_of
returns-then-not-is_all-clause-tree c =
    let inside : c.loop-slot.slot-index < length c.args.slots.now = omega arith in
    let slot = get_or c.args.slots.now c.loop-slot.slot-index (Row 0 0) in
    let left = drop_more c.args.slots.now c.loop-slot.slot-index (Row 0 0) inside in
    let off = sym c.is_all.ensures.value ∙ c.if-not-is_all.true in
    let goes = rw left at c.loop-slot.invariant.tree_goes in
    tree-off c.args.tree.now c.loop-slot.tree c.read_slot.new.tree c.args.span (steps_of c.args.holds.now c.args.sizes.now c.args.slots.now) _ (step_of c.args.holds.now c.args.sizes.now slot) c.in_ok-reach.reach goes c.loop-slot.invariant.same_buffers off c.in_ok-reach.ensures.why c.in_ok-reach.ensures.tree

pub returns-then-not-is_all-clause-why : goal.returns-then-not-is_all-clause-why
unfolding steps_of
returns-then-not-is_all-clause-why c =
    let inside : c.loop-slot.slot-index < length c.args.slots.now = omega arith in
    let slot = get_or c.args.slots.now c.loop-slot.slot-index (Row 0 0) in
    let left = drop_more c.args.slots.now c.loop-slot.slot-index (Row 0 0) inside in
    let off = sym c.is_all.ensures.value ∙ c.if-not-is_all.true in
    let reaches = rw left at c.loop-slot.invariant.reach_goes in
    sym (reach-off c.args.span.len (step_of c.args.holds.now c.args.sizes.now slot) _ c.in_ok-reach.reach off c.in_ok-reach.ensures.why) ∙ reaches

pub returns-clause-tree : goal.returns-clause-tree
unfolding steps_of
returns-clause-tree c =
    let none = drop_all c.loop-slot.slot-index c.args.slots.now c.loop-slot-test.false in
    sym (none_read c.args.tree.now.buffers c.args.span c.loop-slot.tree) ∙ rw none at c.loop-slot.invariant.tree_goes

pub returns-clause-why : goal.returns-clause-why
unfolding steps_of
returns-clause-why c =
    let none = drop_all c.loop-slot.slot-index c.args.slots.now c.loop-slot-test.false in
    sym (reach-none c.args.span.len) ∙ rw none at c.loop-slot.invariant.reach_goes
