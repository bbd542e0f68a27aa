-- What a run does to the bytes that standard output holds.
use Rattle.std.specs.Prelude.{◌≡◌, ℕ, List, [], ◌++◌, reverse, Option, IfSome}
use Rattle.std.specs.Io.KnownBytes.{Appends}
use Rattle.pk_outside.specs.Outside.{AppendsPart}
use Rattle.capture_read.specs.declared.ending.Ending.{Ending}
use Rattle.capture_read.specs.declared.frame.Frame.{Frame}
use Rattle.run_frames.specs.Job.{Passes}
use Rattle.run_frames.specs.declared.plan.Plan.{Plan}
use Rattle.run_frames.specs.Fitting.{FramesRead, job_of}
use Rattle.run_output.specs.Lines.{closing, output_of}
use Rattle.run_frames.specs.Pieces.{pieces}
use Rattle.run_frames.specs.declared.run_ending.RunEnding.{RunEnding}
use Rattle.run_passes.specs.Passed.{kept_read}
use Rattle.run_passes.specs.Reading.{frames_read}

-- the whole output was appended, and nothing else
abbrev pub WroteAll : Plan → FramesRead → Option (List ℕ) → Option (List ℕ) → Type 0
WroteAll plan read old new = Appends old new (output_of (job_of plan read) read.frames)

-- a front of the output was appended, and nothing else
abbrev pub WrotePart : Plan → FramesRead → Option (List ℕ) → Option (List ℕ) → Type 0
WrotePart plan read old new = AppendsPart old new (output_of (job_of plan read) read.frames)

-- all that is written of the frames, and what stands behind it
abbrev pub body_of : Plan → FramesRead → List ℕ
body_of plan read = pieces (job_of plan read) [] read.frames ++ closing (job_of plan read) (reverse read.frames)

-- this was appended, and nothing else
abbrev pub WroteBody : Plan → FramesRead → Option (List ℕ) → Option (List ℕ) → Type 0
WroteBody plan read old new = Appends old new (body_of plan read)

-- a front of it was appended, and nothing else
abbrev pub WroteSomeBody : Plan → FramesRead → Option (List ℕ) → Option (List ℕ) → Type 0
WroteSomeBody plan read old new = AppendsPart old new (body_of plan read)

-- of a file that the capture tells: all that stands behind the opening was written, and the frames end so
abbrev pub HaveBody : Plan → (told old new : Option (List ℕ)) → RunEnding → Type 0
HaveBody plan told old new ending =
    IfSome told (λ file. WroteBody plan (frames_read plan file) old new × (ending ≡ (frames_read plan file).ending))

-- a front of it was
abbrev pub HaveSomeBody : Plan → (told old new : Option (List ℕ)) → Type 0
HaveSomeBody plan told old new = IfSome told (λ file. WroteSomeBody plan (frames_read plan file) old new)

-- the whole output was written, and the frames end so
abbrev pub HaveAll : Plan → (told old new : Option (List ℕ)) → RunEnding → Type 0
HaveAll plan told old new ending =
    IfSome told (λ file. WroteAll plan (frames_read plan file) old new × (ending ≡ (frames_read plan file).ending))

-- a front of it was
abbrev pub HavePart : Plan → (told old new : Option (List ℕ)) → Type 0
HavePart plan told old new = IfSome told (λ file. WrotePart plan (frames_read plan file) old new)

-- the same of kept frames, in such passes
abbrev pub HaveKeptBody : Plan → Passes → List Frame → Ending → (old new : Option (List ℕ)) → RunEnding → Type 0
HaveKeptBody plan passes frames ending old new end =
    WroteBody plan (kept_read plan passes frames ending) old new × (end ≡ (kept_read plan passes frames ending).ending)

abbrev pub HaveSomeKeptBody : Plan → Passes → List Frame → Ending → (old new : Option (List ℕ)) → Type 0
HaveSomeKeptBody plan passes frames ending old new = WroteSomeBody plan (kept_read plan passes frames ending) old new
