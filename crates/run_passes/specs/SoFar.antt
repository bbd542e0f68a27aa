-- How far the frames of a file were gone over, by the bytes that were taken of it.
use Rattle.std.specs.Prelude.{Bool, true, false, ◌≡◌, ◌<◌, ◌≤◌, ℕ, suc, ◌+◌, ◌^◌, List, [], ◌∷◌, ◌++◌, length, take, Option, Some, None}
use Rattle.std.specs.Io.KnownBytes.{Appends}
use Rattle.capture_read.specs.Answers.{IsFrontOf, IsNear}
use Rattle.capture_read.specs.Capture.{capture_of}
use Rattle.capture_read.specs.declared.frame.Frame.{Frame}
use Rattle.run_frames.specs.declared.plan.Plan.{Plan}
use Rattle.run_frames.specs.Accessors.{most_of, two_of}
use Rattle.run_frames.specs.Job.{IfOnce, once}
use Rattle.run_frames.specs.Pieces.{piece, pieces, pieces_of}
use Rattle.run_frames.specs.declared.run_ending.RunEnding.{RunEnding}
use Rattle.run_frames.specs.declared.run_ending.RunEnding.TheVariants.{Read, Unfit}
use Rattle.run_passes.specs.Reading.{frames_read}

-- fewer frames than are asked for
abbrev pub IsFewer : Option ℕ → ℕ → Type 0
IsFewer None count = Unit {0}
IsFewer (Some most) count = count < most

-- what is written of the frames of these bytes before more of them are there: nothing, where the frames are read twice
abbrev pub pieces_so_far : Bool → Plan → List ℕ → List ℕ
pieces_so_far false plan bytes = pieces (once plan) [] (capture_of bytes).frames
pieces_so_far true plan bytes = []

-- behind such a front, the lines of the frames were written that the bytes taken of the file hold, as a file by themselves, where
-- the frames are read once; they are fewer than are asked for
pub record IsReadSoFar (front : List ℕ) (plan : Plan) (file left : List ℕ) (old new : Option (List ℕ)) : Type 0 where
  pub taken : List ℕ
  pub whole : file ≡ taken ++ left
  pub fewer : IsFewer (most_of plan) (length (capture_of taken).frames)
  pub wrote : Appends old new (front ++ pieces_so_far (two_of plan) plan taken)

-- the bytes taken of a file hold fewer frames than are asked for
abbrev pub HoldsFewer : Plan → List ℕ → Option (List ℕ) → Type 0
HoldsFewer plan file None = Unit {0}
HoldsFewer plan file (Some left) =
    (taken : List ℕ) × (file ≡ taken ++ left) × IsFewer (most_of plan) (length (capture_of taken).frames)

-- the same where the capture tells what is left of the file
abbrev pub WroteTakenBehind : List ℕ → Plan → List ℕ → Option (List ℕ) → Option (List ℕ) → Option (List ℕ) → Type 0
WroteTakenBehind front plan file None old new = Unit {0}
WroteTakenBehind front plan file (Some left) old new = IsReadSoFar front plan file left old new

-- behind such a front, the lines before a frame's were written, and a piece of its own; the bytes taken of the file end near
-- that frame
pub record IsBrokenBehind (start : List ℕ) (plan : Plan) (file : List ℕ) (left old new : Option (List ℕ)) : Type 0 where
  pub past : List Frame
  pub frame : Frame
  pub front : IsFrontOf (frame ∷ past) file
  pub near : IsNear file past left
  pub begun : List ℕ
  pub rest : List ℕ
  pub line : begun ++ rest ≡ piece (once plan) past frame
  pub wrote : Appends old new (start ++ (pieces_of (once plan) past ++ begun))

-- the bytes taken of a file end near the frame behind so many: a front that ends 65,536 bytes before them holds no frame more
abbrev pub IsNearAfter : List ℕ → ℕ → Option (List ℕ) → Type 0
IsNearAfter file count None = Unit {0}
IsNearAfter file count (Some left) = (front : ℕ) → front + 2 ^ 16 + length left ≤ length file → length (capture_of (take front file)).frames ≤ count

-- where a file has as many frames as are asked for at most, the bytes taken of it end near the last of them
abbrev pub IsFullNearOf : Plan → List ℕ → Option (List ℕ) → Type 0
IsFullNearOf plan file left = (count : ℕ) → most_of plan ≡ Some (suc count) → suc count ≤ length (capture_of file).frames → IsNearAfter file count left

-- where the frames are read once, the bytes taken of the file end near the first frame that isn't read any more
abbrev pub IsNextNearOf : Plan → List ℕ → Option (List ℕ) → Type 0
IsNextNearOf plan file left = IfOnce (two_of plan) (IsNearAfter file (length (frames_read plan file).frames) left)

-- P, where the frames end at one that doesn't fit
abbrev pub IfUnfit : RunEnding → Type 0 → Type 0
IfUnfit (Read ending) P = Unit {0}
IfUnfit (Unfit number) P = P
