use Rattle.std.proofs.Common.{◌<◌, length, get_or, sym, arith, ◌∙◌}
use Rattle.std.proofs.lemmas.List.{drop_all, drop_more}
use Rattle.pk_tree.specs.declared.table.Slot.TheVariants.{Row}
use Rattle.pk_tree.specs.Layouts.{StepsFit}
use Rattle.pk_tree.specs.Tables.{step_of, steps_of}
use Rattle.pk_tree.proofs.KnownLemmas.{first_known, known_on}
use Rattle.pk_tree.proofs.LayoutLemmas.{none_read}
use Rattle.pk_tree.proofs.table.put_slots.Goals as goal

pub put_slot-requires-clause-fits : goal.put_slot-requires-clause-fits
unfolding StepsFit steps_of
put_slot-requires-clause-fits c =
    let inside : c.loop-slot.slot-index < length c.args.slots.now = omega arith in
    let left = drop_more c.args.slots.now c.loop-slot.slot-index (Row 0 0) inside in
    let fits = rw left at c.loop-slot.invariant.rest_fits in
    rw c.loop-slot.invariant.same_last fits.0

pub put_slot-requires-clause-known : goal.put_slot-requires-clause-known
unfolding steps_of
put_slot-requires-clause-known c =
    let inside : c.loop-slot.slot-index < length c.args.slots.now = omega arith in
    let slot = get_or c.args.slots.now c.loop-slot.slot-index (Row 0 0) in
    let left = drop_more c.args.slots.now c.loop-slot.slot-index (Row 0 0) inside in
    let known = rw left at c.loop-slot.invariant.rest_known in
    (first_known c.args.span.len (step_of c.args.holds.now c.args.sizes.now slot) _ known).0

pub loop-slot-preserved : goal.loop-slot-preserved
unfolding StepsFit steps_of
loop-slot-preserved c =
    let inside : c.loop-slot.slot-index < length c.args.slots.now = omega arith in
    let slot = get_or c.args.slots.now c.loop-slot.slot-index (Row 0 0) in
    let left = drop_more c.args.slots.now c.loop-slot.slot-index (Row 0 0) inside in
    let goes = rw left at c.loop-slot.invariant.tree_goes in
    let known = rw left at c.loop-slot.invariant.rest_known in
    let fits = rw left at c.loop-slot.invariant.rest_fits in
    let both = first_known c.args.span.len (step_of c.args.holds.now c.args.sizes.now slot) _ known in
    record {
      tree_goes = known_on c.args.tree.now c.loop-slot.tree c.put_slot.new.tree c.args.span (steps_of c.args.holds.now c.args.sizes.now c.args.slots.now) _ (step_of c.args.holds.now c.args.sizes.now slot) goes c.loop-slot.invariant.same_buffers both.0 c.in_ok-put_slot.ensures.tree;
      rest_known = both.1;
      same_buffers = c.in_ok-put_slot.ensures.buffers ∙ c.loop-slot.invariant.same_buffers;
      same_count = c.in_ok-put_slot.ensures.count ∙ c.loop-slot.invariant.same_count;
      same_last = c.in_ok-put_slot.ensures.last ∙ c.loop-slot.invariant.same_last;
      rest_fits = fits.1;
    }

pub returns-clause-tree : goal.returns-clause-tree
unfolding steps_of
returns-clause-tree c =
    let none = drop_all c.loop-slot.slot-index c.args.slots.now c.loop-slot-test.false in
    sym (none_read c.args.tree.now.buffers c.args.span c.loop-slot.tree) ∙ rw none at c.loop-slot.invariant.tree_goes
