-- What a reader answers.
use Rattle.std.specs.Prelude.{◌≡◌, ◌<◌, ◌≤◌, ℕ, ◌+◌, ◌-◌, ◌^◌, List, ◌∷◌, ◌++◌, length, drop, Option, Some, None, IfSome}
use Rattle.pk_base.specs.Limits.{file_limit}
use Rattle.pk_base.specs.declared.found.Found.{Found}
use Rattle.capture_formats.specs.Sections.{IsStepWithin}
use Rattle.capture_formats.specs.declared.step.BlockStep.TheVariants as step
use Rattle.capture_read.specs.Capture.{Reading, capture_of, ended, frame_of}
use Rattle.capture_read.specs.FrameList.{IsTime}
use Rattle.capture_read.specs.Reader.{Reader, ReaderShown, IsPlaced, Stands, StandsFor, HasFew, step_here, with_past}
use Rattle.capture_read.specs.Taken.{TookFew}
use Rattle.capture_read.specs.declared.ending.Ending.{Ending}
use Rattle.capture_read.specs.declared.frame.Frame.{Frame}
use Rattle.capture_read.specs.declared.kind.Phase.{Phase}
use Rattle.capture_read.specs.declared.kind.Phase.TheVariants as phase
use Rattle.capture_read.specs.declared.kind.Seen.{Seen}
use Rattle.capture_read.specs.declared.kind.Seen.TheVariants as seen
use Rattle.capture_read.specs.declared.next_frame.NextFrame.{NextFrame}
use Rattle.capture_read.specs.declared.next_frame.NextFrame.TheVariants as next
use Rattle.capture_read.specs.declared.position.Met.{Met}
use Rattle.capture_read.specs.declared.position.Met.TheVariants as met
use Rattle.capture_read.specs.declared.position.Sight.{Sight}
use Rattle.capture_read.specs.declared.position.Sight.TheVariants as sight
use Rattle.capture_read.specs.declared.position.Turn.{Turn}
use Rattle.capture_read.specs.declared.position.Turn.TheVariants as turn

-- the frames, the newest first, are the first ones of the file
abbrev pub IsFrontOf : List Frame → List ℕ → Type 0
IsFrontOf past file = (rest : Reading) × (capture_of file ≡ with_past past rest)

-- the bytes taken of a file end fewer than 65,536 bytes past the record or block of the frame behind these: a front that
-- ends 65,536 bytes before them holds no frame more. The least front that holds it ends with its record or block
abbrev pub IsNear : List ℕ → List Frame → Option (List ℕ) → Type 0
IsNear file past None = Unit {0}
IsNear file past (Some left) = (front : ℕ) → front + 2 ^ 16 + length left ≤ length file
    → HasFew file past front

-- the bytes taken of a file hold, as a file by themselves, exactly these frames
abbrev pub HoldsExactly : List ℕ → List Frame → Option (List ℕ) → Type 0
HoldsExactly file past None = Unit {0}
HoldsExactly file past (Some left) =
    (taken : List ℕ) × (file ≡ taken ++ left)
    × ((ending : Ending) × (capture_of taken ≡ with_past past (ended ending)))

-- the next frame of each file for which the reader stands, or how the file ends
abbrev pub Answers : NextFrame → ReaderShown → ReaderShown → Option (List ℕ) → Option (List ℕ)
    → Type 0
Answers (next.Frame frame) old new left_old left_new = (file : List ℕ) → (past : List Frame)
    → StandsFor old left_old file past
    → StandsFor new left_new file (frame ∷ past) × IsFrontOf (frame ∷ past) file
    × IsNear file past left_new
Answers (next.End ending) old new left_old left_new = (file : List ℕ) → (past : List Frame)
    → StandsFor old left_old file past
    → StandsFor new left_new file past × (capture_of file ≡ with_past past (ended ending))

-- a read failed: the bytes taken of the file hold exactly the frames answered before
abbrev pub Fails : ReaderShown → Option (List ℕ) → Option (List ℕ) → Type 0
Fails old left_old left_new = (file : List ℕ) → (past : List Frame)
    → StandsFor old left_old file past → HoldsExactly file past left_new

-- however a call ends, at most 2^28 + 1 bytes of the file were taken
abbrev pub TakesFewOf : ReaderShown → Option (List ℕ) → Option (List ℕ) → Type 0
TakesFewOf old left_old left_new = (file : List ℕ) → (past : List Frame)
    → StandsFor old left_old file past → TookFew file left_new

-- frames are numbered one after the other, the place moves on past each one's bytes, and times lie strictly between -2^96
-- and 2^96 nanoseconds
pub record IsCounted (frame : Frame) (old new : Reader) : Type 0 where
  pub number : frame.number ≡ old.number
  pub after : new.number ≡ old.number + 1
  pub bytes : old.at + length frame.bytes ≤ new.at
  pub moved : old.at < new.at
  pub time : IfSome frame.time IsTime

abbrev pub CountsNext : NextFrame → Reader → Reader → Type 0
CountsNext (next.Frame frame) old new = IsCounted frame old new
CountsNext (next.End ending) old new = (new.number ≡ old.number) × (old.at ≤ new.at)

-- where the file's end was answered, it is kept
abbrev pub KeepsEnd : NextFrame → Phase → Type 0
KeepsEnd (next.Frame frame) kept = kept ≡ phase.Open
KeepsEnd (next.End ending) kept = kept ≡ phase.Ended ending

-- one step to the next answer

-- the next frame, which the place is behind
abbrev pub Finds : Frame → Reader → Reader → Option (List ℕ) → Option (List ℕ) → Type 0
Finds frame old new left_old left_new = (file : List ℕ) → (past : List Frame)
    → Stands old left_old file past
    → Stands new left_new file (frame ∷ past) × IsFrontOf (frame ∷ past) file
    × IsNear file past left_new

-- how the file ends
abbrev pub Ends : Ending → Reader → Reader → Option (List ℕ) → Option (List ℕ) → Type 0
Ends ending old new left_old left_new = (file : List ℕ) → (past : List Frame)
    → Stands old left_old file past
    → Stands new left_new file past × (capture_of file ≡ with_past past (ended ending))

-- the reader behind the record or block of a frame
abbrev pub behind_found : Found → Reader → Reader
behind_found found r = record {
  kind = r.kind;
  scope = r.scope;
  number = r.number + 1;
  at = r.at + found.end;
  held = drop found.end r.held;
  seen = r.seen;
}

-- a frame's record or block is at hand, and once it is taken the frame is the next one
pub record IsAtHand (found : Found) (old new : Reader) (left_old left_new : Option (List ℕ))
    : Type 0 where
  pub within : IsStepWithin (step.Item found) (length new.held)
  pub placed : (number : ℕ) → (at : ℕ) → IsPlaced new.kind new.scope number at
  pub finds : Finds (frame_of new.number found new.held) old (behind_found found new) left_old left_new
  pub counts : IsCounted (frame_of new.number found new.held) old (behind_found found new)

-- what is met is a frame, of which it is told where it is, or the file's end
abbrev pub Meets : Met → Found → Reader → Reader → Option (List ℕ) → Option (List ℕ) → Type 0
Meets met.Item found old new left_old left_new = IsAtHand found old new left_old left_new
Meets (met.End ending) found old new left_old left_new = Ends ending old new left_old left_new

abbrev pub CountsMet : Met → Reader → Reader → Type 0
CountsMet met.Item old new = Unit {0}
CountsMet (met.End ending) old new = (new.number ≡ old.number) × (old.at ≤ new.at)

-- the reader stands for the same as before
abbrev pub GoesOn : Reader → Reader → Option (List ℕ) → Option (List ℕ) → Type 0
GoesOn old new left_old left_new = (file : List ℕ) → (past : List Frame)
    → Stands old left_old file past → Stands new left_new file past

abbrev pub FailsAt : Reader → Option (List ℕ) → Option (List ℕ) → Type 0
FailsAt old left_old left_new = (file : List ℕ) → (past : List Frame)
    → Stands old left_old file past → HoldsExactly file past left_new

abbrev pub TakesFew : Reader → Option (List ℕ) → Option (List ℕ) → Type 0
TakesFew old left_old left_new = (file : List ℕ) → (past : List Frame)
    → Stands old left_old file past → TookFew file left_new

-- how much there may be to do before an answer
abbrev pub open_count : Seen → ℕ
open_count seen.Open = 1
open_count seen.Ended = 0
open_count seen.Beyond = 0

abbrev pub work_left : Reader → ℕ
work_left r = (file_limit - r.at) + (file_limit - (r.at + length r.held)) + open_count r.seen

-- a step answers, or goes on with less to do
abbrev pub Turns : Turn → Found → Reader → Reader → Option (List ℕ) → Option (List ℕ) → Type 0
Turns (turn.Next answer) found old new left_old left_new = Meets answer found old new left_old left_new
Turns turn.Again found old new left_old left_new = GoesOn old new left_old left_new

abbrev pub CountsTurn : Turn → Reader → Reader → Type 0
CountsTurn (turn.Next answer) old new = CountsMet answer old new
CountsTurn turn.Again old new =
    (new.number ≡ old.number) × (old.at ≤ new.at) × (work_left new < work_left old)

-- a look at the bytes held: what a step comes to without a read, or that more bytes are needed, which may be there
abbrev pub Sees : Sight → Found → Reader → Reader → Type 0
Sees (sight.Told answer) found old new =
    (left : Option (List ℕ)) → Turns answer found old new left left
Sees (sight.Need need) found old new =
    (new ≡ old) × (old.seen ≡ seen.Open) × (length old.held < need)
    × (step_here old.kind old.scope old.held ≡ step.Need need)

abbrev pub CountsSight : Sight → Reader → Reader → Type 0
CountsSight (sight.Told answer) old new = CountsTurn answer old new
CountsSight (sight.Need need) old new = Unit {0}
