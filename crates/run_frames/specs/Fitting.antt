-- The frames that are read up to the first that can't be written.
use Rattle.std.specs.Prelude.{Bool, false, List, [], ◌∷◌, Option, Some, None, if◌then◌else◌}
use Rattle.capture_read.specs.declared.ending.Ending.{Ending}
use Rattle.capture_read.specs.declared.frame.Frame.{Frame}
use Rattle.capture_write.specs.declared.format.Format.{Format}
use Rattle.run_frames.specs.declared.plan.Plan.{Plan}
use Rattle.run_frames.specs.declared.run_ending.RunEnding.{RunEnding}
use Rattle.run_frames.specs.declared.run_ending.RunEnding.TheVariants.{Read, Unfit}
use Rattle.run_frames.specs.Accessors.{written_of}
use Rattle.run_frames.specs.Chosen.{is_unfit_in}
use Rattle.run_frames.specs.Job.{Job, Passes, job_in}

-- frames, how their reading ends, and the passes over them
pub record FramesRead : Type 0 where
  pub frames : List Frame
  pub ending : RunEnding
  pub passes : Passes

-- the job of a plan over them
abbrev pub job_of : Plan → FramesRead → Job
job_of plan read = job_in plan read.passes

-- no frame more
abbrev pub over : Job → RunEnding → FramesRead
over job ending = record { frames = []; ending = ending; passes = job.passes }

-- a frame before the others
abbrev pub before : Frame → FramesRead → FramesRead
before frame read = record read { frames = frame ∷ read.frames }

-- a capture is written, and this frame can't be
abbrev pub is_unfit_by : Option Format → Job → List Frame → Frame → Bool
is_unfit_by None job past frame = false
is_unfit_by (Some format) job past frame = is_unfit_in format job past frame

abbrev pub is_unfit : Job → List Frame → Frame → Bool
is_unfit job past frame = is_unfit_by (written_of job.plan) job past frame

-- the frames behind those of the past, and what follows the first that can't be written isn't looked at
abbrev pub fitting : Job → List Frame → List Frame → Ending → FramesRead
fitting job past [] ending = over job (Read ending)
fitting job past (frame ∷ frames) ending =
    if is_unfit job past frame then over job (Unfit frame.number) else before frame (fitting job (frame ∷ past) frames ending)
