use Rattle.std.proofs.Common.{◌≡◌, ◌∷◌, [], drop}
use Rattle.std.specs.List.{flat_map}
use Rattle.pk_source.specs.Found.{kth, slot_told}
use Rattle.pk_source.proofs.found.row_kth.Given as goal

abbrev pub invariant-loop-slot : goal.invariant-loop-slot
invariant-loop-slot l =
    kth (flat_map (slot_told l.span (l.part ∷ []) l.field) (drop l.slot-index l.slots)) l.left ≡ kth (flat_map (slot_told l.span (l.part ∷ []) l.field) l.slots) l.k
