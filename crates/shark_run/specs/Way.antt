-- How far a run came, by the bytes that it took of its file.
use Rattle.std.specs.Prelude.{◌≡◌, ◌⊎◌, ◌<◌, ℕ, ◌+◌, List, [], ◌++◌, length, reverse, Option, Some, IfSome}
use Rattle.std.specs.Io.KnownBytes.{Appends}
use Rattle.pk_outside.specs.Outside.{AppendsPart}
use Rattle.run_frames.specs.declared.plan.Plan.{Plan}
use Rattle.run_frames.specs.Accessors.{source_of, two_of}
use Rattle.run_frames.specs.Fitting.{job_of}
use Rattle.run_frames.specs.Job.{IfOnce}
use Rattle.run_output.specs.Lines.{closing, opening}
use Rattle.run_frames.specs.Pieces.{pieces}
use Rattle.run_frames.specs.declared.frames.RunFault.{RunFault}
use Rattle.run_frames.specs.declared.frames.RunFault.TheVariants.{ReadFault, WriteFault, NoMemory}
use Rattle.run_passes.specs.Passed.{AreUnread}
use Rattle.run_passes.specs.Reading.{frames_read}
use Rattle.run_passes.specs.SoFar.{IsBrokenBehind, IsFullNearOf, IsNextNearOf, WroteTakenBehind}
use Rattle.run_frames.specs.Source.{IfNamed}

-- where a read fails, the opening and those lines were written
abbrev pub WroteTaken : Plan → List ℕ → Option (List ℕ) → Option (List ℕ) → Option (List ℕ) → Type 0
WroteTaken plan file left old new = WroteTakenBehind (opening plan) plan file left old new

-- behind such a front, all frames' lines were written, and a front of what stands behind them
abbrev pub IsBrokenAtEnd : List ℕ → Plan → List ℕ → Option (List ℕ) → Option (List ℕ) → Type 0
IsBrokenAtEnd start plan file old new =
    (begun : List ℕ) × (rest : List ℕ)
    × (begun ++ rest ≡ closing (job_of plan (frames_read plan file)) (reverse (frames_read plan file).frames))
    × Appends old new (start ++ (pieces (job_of plan (frames_read plan file)) [] (frames_read plan file).frames ++ begun))

-- behind such a front, a write failed: of a frame's line, or behind the lines
abbrev pub IsBrokenFrom : List ℕ → Plan → List ℕ → Option (List ℕ) → Option (List ℕ) → Option (List ℕ) → Type 0
IsBrokenFrom start plan file left old new = IsBrokenBehind start plan file left old new ⊎ IsBrokenAtEnd start plan file old new

-- where the frames are read once, a write failed: of the line of the fields' names, where there is one, before anything was taken of
-- the file, or behind it
abbrev pub IsBrokenOf : Plan → List ℕ → Option (List ℕ) → Option (List ℕ) → Option (List ℕ) → Type 0
IsBrokenOf plan file left old new =
    IfOnce (two_of plan)
    (((0 < length (opening plan)) × (left ≡ Some file) × AppendsPart old new (opening plan))
    ⊎ IsBrokenFrom (opening plan) plan file left old new)

-- the same where a file is read; nothing is taken of one for a generated capture
abbrev pub IsBroken : Plan → List ℕ → Option (List ℕ) → Option (List ℕ) → Option (List ℕ) → Type 0
IsBroken plan file left old new = IfNamed (source_of plan) (IsBrokenOf plan file left old new)

-- where a file is read and has as many frames as are asked for at most, the bytes taken of it end near the last of them; nothing is
-- taken of one for a generated capture
abbrev pub IsFullNear : Plan → List ℕ → Option (List ℕ) → Type 0
IsFullNear plan file left = IfNamed (source_of plan) (IsFullNearOf plan file left)

-- where a file is read, and once, the bytes taken of it end near the first frame that isn't read any more
abbrev pub IsNextNear : Plan → List ℕ → Option (List ℕ) → Type 0
IsNextNear plan file left = IfNamed (source_of plan) (IsNextNearOf plan file left)

-- where a fault ends a run over a file that the capture tells: what was written behind the opening
abbrev pub IsBodyCutOff : Plan → (told left old new : Option (List ℕ)) → RunFault → Type 0
IsBodyCutOff plan told left old new ReadFault = AreUnread plan told left old new
IsBodyCutOff plan told left old new WriteFault = IfSome told (λ file. IfOnce (two_of plan) (IsBrokenFrom [] plan file left old new))
IsBodyCutOff plan told left old new NoMemory = Unit {0}

-- the same with the opening
abbrev pub IsCutOff : Plan → (told left old new : Option (List ℕ)) → RunFault → Type 0
IsCutOff plan told left old new ReadFault = IfSome told (λ file. WroteTaken plan file left old new)
IsCutOff plan told left old new WriteFault = IfSome told (λ file. IsBrokenOf plan file left old new)
IsCutOff plan told left old new NoMemory = Unit {0}
