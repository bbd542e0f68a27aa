-- The file that a plan reads, and what is read of it.
use Rattle.std.specs.Prelude.{ℕ, List, [], length, take, Option, None, Some, Bool, true, false, nat_le}
use Rattle.capture_read.specs.Capture.{Reading, capture_of}
use Rattle.capture_read.specs.declared.ending.Ending.TheVariants.{Whole}
use Rattle.capture_write.specs.Made.{made}
use Rattle.run_frames.specs.declared.plan.Plan.{Plan}
use Rattle.run_frames.specs.declared.source.PlanSource.{PlanSource}
use Rattle.run_frames.specs.declared.source.PlanSource.TheVariants.{Named, Generated}
pub use Rattle.run_frames.specs.Accessors.{name_of}
use Rattle.run_frames.specs.Accessors.{most_of, source_of}
use Rattle.run_frames.specs.Fitting.{FramesRead, fitting}
use Rattle.run_frames.specs.Job.{Job, job_over}

-- the bytes of the file, where the capture tells them, and those of a generated capture
abbrev pub file_by : PlanSource → (List ℕ → Option (List ℕ)) → Option (List ℕ)
file_by (Named name) files = files name
file_by (Generated capture) files = Some (made capture.start capture.frames)

abbrev pub file_of : Plan → (List ℕ → Option (List ℕ)) → Option (List ℕ)
file_of plan files = file_by (source_of plan) files

-- the first so many frames, and what follows them isn't looked at
abbrev pub front_if : Bool → ℕ → Reading → Reading
front_if true most reading = record { frames = take most reading.frames; ending = Whole }
front_if false most reading = reading

-- so many frames at most
abbrev pub limited : Option ℕ → Reading → Reading
limited None reading = reading
limited (Some most) reading = front_if (nat_le most (length reading.frames)) most reading

-- the frames that are read, and how the reading ends
abbrev pub fitting_of : Job → Reading → FramesRead
fitting_of job reading = fitting job [] reading.frames reading.ending

abbrev pub read_of : Plan → Reading → FramesRead
read_of plan reading = fitting_of (job_over plan reading.frames) reading

unfoldable pub frames_read : Plan → List ℕ → FramesRead
frames_read plan file = read_of plan (limited (most_of plan) (capture_of file))
