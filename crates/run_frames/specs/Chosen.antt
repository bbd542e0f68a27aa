-- The capture that is written of the frames that a plan's filter lets through.
use Rattle.std.specs.Prelude.{◌≡◌, ℕ, Bool, not, ◌&&◌, List, [], ◌∷◌, Option, Some, None, if◌then◌else◌}
use Rattle.capture_read.specs.declared.frame.Frame.{Frame}
use Rattle.capture_write.specs.Kept.{Kept, Stands, end_at, fits, in_order, kept_of, piece_at}
use Rattle.capture_write.specs.declared.format.Format.{Format}
use Rattle.run_frames.specs.Job.{Job}
use Rattle.run_frames.specs.Trees.{lets_frame}

abbrev pub if_shown : Bool → Frame → List Frame → List Frame
if_shown shown frame others = if shown then frame ∷ others else others

-- the frames behind those of the past whose trees are let through
abbrev pub chosen : Job → List Frame → List Frame → List Frame
chosen job past [] = []
chosen job past (frame ∷ frames) = if_shown (lets_frame job past frame) frame (chosen job (frame ∷ past) frames)

-- the same of the frames of the past, the newest first
abbrev pub chosen_of : Job → List Frame → List Frame
chosen_of job [] = []
chosen_of job (frame ∷ past) = if_shown (lets_frame job past frame) frame (chosen_of job past)

-- a frame is chosen, and the file of those chosen before can't hold it
abbrev pub is_unfit_in : Format → Job → List Frame → Frame → Bool
is_unfit_in format job past frame =
    lets_frame job past frame && not (fits format (in_order (chosen_of job past) (frame ∷ [])))

-- the bytes that a frame brings, behind those of the past
abbrev pub packet_in : Format → Job → List Frame → Frame → List ℕ
packet_in format job past frame =
    if lets_frame job past frame then piece_at (kept_of format (chosen_of job past)) frame else []

-- the bytes at the end, behind the frames of the past
abbrev pub end_in : Format → Job → List Frame → List ℕ
end_in format job past = end_at (kept_of format (chosen_of job past))

-- what is kept of the frames that were written, where a capture is written
abbrev pub IsWriting : Option Format → Job → Kept → List Frame → Type 0
IsWriting None job kept past = Unit {0}
IsWriting (Some format) job kept past = (kept.format ≡ format) × Stands kept (chosen_of job past)
