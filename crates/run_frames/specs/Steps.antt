-- One frame more of a run.
use Rattle.std.specs.Prelude.{◌≡◌, ℕ, Bool, true, false, not, ◌&&◌, List, [], ◌∷◌, Option, Some, None, if◌then◌else◌}
use Rattle.std.specs.Io.KnownBytes.{Appends}
use Rattle.capture_read.specs.declared.frame.Frame.{Frame}
use Rattle.capture_write.specs.Kept.{Kept, Stands, fits, in_order, kept_of, piece_at}
use Rattle.capture_write.specs.declared.format.Format.{Format}
use Rattle.run_frames.specs.declared.notes.Notes.{Notes}
use Rattle.run_frames.specs.Accessors.{written_of}
use Rattle.run_frames.specs.Chosen.{IsWriting, if_shown}
use Rattle.run_frames.specs.Fitting.{is_unfit}
use Rattle.run_frames.specs.Job.{Job}
use Rattle.run_frames.specs.Pieces.{piece}
use Rattle.run_frames.specs.Notes.{AreNotes}

-- the notes of the frames of the past, or what is kept of those that were written
abbrev pub KeepsUp : Option Format → Job → List Frame → Notes → Kept → Type 0
KeepsUp None job past notes kept = AreNotes job past notes
KeepsUp (Some format) job past notes kept = IsWriting (Some format) job kept past

-- what is written of a frame; one that can't be written adds nothing
abbrev pub fit_piece : Job → List Frame → Frame → List ℕ
fit_piece job past frame = if is_unfit job past frame then [] else piece job past frame

-- a frame was written, as far as it is shown
pub record IsWrittenFrame (job : Job) (past : List Frame) (frame : Frame) (notes : Notes) (kept : Kept) (old new : Option (List ℕ)) : Type 0 where
  pub fit : is_unfit job past frame ≡ false
  pub keeps : KeepsUp (written_of job.plan) job (frame ∷ past) notes kept
  pub wrote : Appends old new (piece job past frame)

-- or it can't be written
abbrev pub IsAfterFrame : Bool → Job → List Frame → Frame → Notes → Kept → Option (List ℕ) → Option (List ℕ) → Type 0
IsAfterFrame true job past frame notes kept old new = IsWrittenFrame job past frame notes kept old new
IsAfterFrame false job past frame notes kept old new =
    (is_unfit job past frame ≡ true) × KeepsUp (written_of job.plan) job past notes kept × (new ≡ old)

-- the same of a capture alone, behind those frames that were chosen: this one is shown, and does it fit?
abbrev pub is_unfit_behind : Bool → Format → List Frame → Frame → Bool
is_unfit_behind shown format chosen frame = shown && not (fits format (in_order chosen (frame ∷ [])))

abbrev pub packet_behind : Bool → Format → List Frame → Frame → List ℕ
packet_behind shown format chosen frame = if shown then piece_at (kept_of format chosen) frame else []

abbrev pub fit_packet : Bool → Format → List Frame → Frame → List ℕ
fit_packet shown format chosen frame = if is_unfit_behind shown format chosen frame then [] else packet_behind shown format chosen frame

abbrev pub IsPacked : Bool → Bool → Format → Frame → Kept → List Frame → Option (List ℕ) → Option (List ℕ) → Type 0
IsPacked true shown format frame kept chosen old new =
    (is_unfit_behind shown format chosen frame ≡ false) × (kept.format ≡ format) × Stands kept (if_shown shown frame chosen)
    × Appends old new (packet_behind shown format chosen frame)
IsPacked false shown format frame kept chosen old new =
    (is_unfit_behind shown format chosen frame ≡ true) × (kept.format ≡ format) × Stands kept chosen × (new ≡ old)
