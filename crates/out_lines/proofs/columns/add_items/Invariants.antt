use Rattle.std.proofs.Common.{◌≡◌, length, take}
use Rattle.out_lines.specs.Places.{HasAdded, own_values}
use Rattle.out_lines.proofs.columns.add_items.Given as goal

abbrev pub invariant-loop-item : goal.invariant-loop-item
invariant-loop-item l =
    HasAdded l.style l.places l.initial.columns l.columns (λ f. own_values f (take l.item-index l.items))
    × (length l.columns ≡ length l.initial.columns)
