-- What is known once all frames were read that are asked for.
use Rattle.std.specs.Prelude.{◌≤◌, List, Option, Some, None}
use Rattle.capture_read.specs.declared.frame.Frame.{Frame}
use Rattle.capture_write.specs.Kept.{Kept}
use Rattle.capture_write.specs.declared.format.Format.{Format}
use Rattle.dissect.specs.Stands.{DissectorShown, StandsWithin}
use Rattle.run_frames.specs.declared.notes.Notes.{Notes}
use Rattle.run_frames.specs.Chosen.{IsWriting}
use Rattle.run_frames.specs.Job.{Job}
use Rattle.run_frames.specs.Notes.{AreNotes}
use Rattle.pk_base.specs.Limits.{file_limit}

-- a dissector has taken frames, and not more than a file has bytes
abbrev pub HasTaken : DissectorShown → Type 0
HasTaken d = (past : List Frame) × StandsWithin past d × (d.taken ≤ file_limit)

-- what stands behind the lines can be made: of a dissector that has taken these frames and of their notes, or of a writer that has
-- written those chosen of them
abbrev pub CanClose : Option Format → Job → List Frame → DissectorShown → Notes → Kept → Type 0
CanClose None job past d notes kept = StandsWithin past d × AreNotes job past notes
CanClose (Some format) job past d notes kept = IsWriting (Some format) job kept past
