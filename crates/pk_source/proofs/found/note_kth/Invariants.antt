use Rattle.std.proofs.Common.{◌≡◌, drop}
use Rattle.std.specs.List.{flat_map}
use Rattle.pk_source.specs.Found.{kth, note_told}
use Rattle.pk_source.proofs.found.note_kth.Given as goal

abbrev pub invariant-loop-note : goal.invariant-loop-note
invariant-loop-note l =
    kth (flat_map (note_told l.field) (drop l.note-index l.notes)) l.left ≡ kth (flat_map (note_told l.field) l.notes) l.k
