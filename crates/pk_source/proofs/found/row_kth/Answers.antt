use Rattle.std.proofs.Common.{◌≡◌, ◌∷◌, [], drop, get_or, ap, refl, ◌∙◌}
use Rattle.std.proofs.lemmas.List.{drop_all}
use Rattle.pk_source.specs.Found.{kth, rows_told, slot_told}
use Rattle.pk_source.proofs.FoundLemmas.{more_at, more_left}
use Rattle.pk_source.proofs.found.row_kth.Goals as goal
use Rattle.pk_tree.specs.declared.table.Slot.TheVariants.{Row}

pub loop-slot-preserved : goal.loop-slot-preserved
loop-slot-preserved c =
    more_left (slot_told c.args.span (c.args.part ∷ []) c.args.field) c.args.slots.now c.loop-slot.slot-index (get_or c.args.slots.now c.loop-slot.slot-index (Row 0 0)) (Row 0 0) c.loop-slot.left c.in-Left.rest _ c.loop-slot-test.true refl (c.in-Left.ensures ∙ ap (λ xs. kth xs c.loop-slot.left) c.slot_told.ensures) c.loop-slot.invariant

pub returns-in-At : goal.returns-in-At
unfolding rows_told
returns-in-At c =
    more_at (slot_told c.args.span (c.args.part ∷ []) c.args.field) c.args.slots.now c.loop-slot.slot-index (get_or c.args.slots.now c.loop-slot.slot-index (Row 0 0)) (Row 0 0) c.loop-slot.left c.in-At.told _ c.loop-slot-test.true refl (c.in-At.ensures ∙ ap (λ xs. kth xs c.loop-slot.left) c.slot_told.ensures) c.loop-slot.invariant

pub returns : goal.returns
unfolding rows_told
returns c =
    let rest : drop c.loop-slot.slot-index c.args.slots.now ≡ [] = drop_all c.loop-slot.slot-index c.args.slots.now c.loop-slot-test.false in
    rw rest at c.loop-slot.invariant
