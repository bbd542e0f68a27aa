-- What is known once the frames of a file were read that are asked for.
use Rattle.std.specs.Prelude.{ℕ, List, reverse}
use Rattle.capture_write.specs.Kept.{Kept}
use Rattle.dissect.specs.Stands.{DissectorShown}
use Rattle.run_frames.specs.declared.plan.Plan.{Plan}
use Rattle.run_frames.specs.declared.notes.Notes.{Notes}
use Rattle.run_frames.specs.Accessors.{written_of}
use Rattle.run_frames.specs.Ended.{CanClose}
use Rattle.run_frames.specs.Fitting.{job_of}
use Rattle.run_passes.specs.Reading.{frames_read}

-- what stands behind the lines can be made of the frames that were read
abbrev pub HasRead : Plan → List ℕ → DissectorShown → Notes → Kept → Type 0
HasRead plan file d notes kept =
    CanClose (written_of plan) (job_of plan (frames_read plan file)) (reverse (frames_read plan file).frames) d notes kept
