use Rattle.std.proofs.Common.{◌≡◌, drop}
use Rattle.pk_source.specs.Found.{notes_told}
use Rattle.pk_source.proofs.found.only_told.Given as goal

abbrev pub invariant-loop-at : goal.invariant-loop-at
invariant-loop-at l = notes_told l.field (drop l.at l.notes) ≡ notes_told l.field l.notes
