use Rattle.std.proofs.Common.{◌≡◌, drop}
use Rattle.pk_source.specs.Found.{notes_told}
use Rattle.pk_source.proofs.found.is_untold.Given as goal

abbrev pub invariant-loop-note : goal.invariant-loop-note
invariant-loop-note l = notes_told l.field (drop l.note-index l.notes) ≡ notes_told l.field l.notes
