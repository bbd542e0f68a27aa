-- What going over frames does to the bytes that standard output holds.
use Rattle.std.specs.Prelude.{ℕ, List, [], Option}
use Rattle.std.specs.Io.KnownBytes.{Appends}
use Rattle.pk_outside.specs.Outside.{AppendsPart}
use Rattle.run_frames.specs.declared.plan.Plan.{Plan}
use Rattle.run_frames.specs.Fitting.{FramesRead, job_of}
use Rattle.run_frames.specs.Pieces.{pieces}

-- all that is written of the frames was appended, and nothing else
abbrev pub WrotePieces : Plan → FramesRead → Option (List ℕ) → Option (List ℕ) → Type 0
WrotePieces plan read old new = Appends old new (pieces (job_of plan read) [] read.frames)

-- a front of this was appended, and nothing else
abbrev pub WroteSomePieces : Plan → FramesRead → Option (List ℕ) → Option (List ℕ) → Type 0
WroteSomePieces plan read old new = AppendsPart old new (pieces (job_of plan read) [] read.frames)
