-- What is written of a list of frames.
use Rattle.std.specs.Prelude.{◌≡◌, ℕ, suc, Bool, true, false, List, [], ◌∷◌, ◌++◌, Option, Some, None, if◌then◌else◌}
use Rattle.std.specs.Io.KnownBytes.{Appends}
use Rattle.capture_read.specs.declared.frame.Frame.{Frame}
use Rattle.capture_write.specs.Frames.{AreFrames}
use Rattle.capture_write.specs.Kept.{Kept, nothing_kept, kept_with, fits_at, piece_at, end_at, written}
use Rattle.capture_write.specs.declared.format.Format.{Format}
use Rattle.pk_outside.specs.Outside.{AppendsPart}
use Rattle.merge_caps.specs.declared.place.Entry.{Entry}
use Rattle.merge_caps.specs.Merged.{IsInOrder, frames_of}

-- the frames up to the first that doesn't fit behind those before it
abbrev pub fitting_from : Kept → List Frame → List Frame
fitting_from kept [] = []
fitting_from kept (frame ∷ frames) =
    if fits_at kept frame then frame ∷ fitting_from (kept_with kept frame) frames else []

unfoldable pub fitting : Format → List Frame → List Frame
fitting format frames = fitting_from (nothing_kept format) frames

-- the place of the first that doesn't fit, where the first frame has this number
abbrev pub unfit_from : ℕ → Kept → List Frame → Option ℕ
unfit_from number kept [] = None
unfit_from number kept (frame ∷ frames) =
    if fits_at kept frame then unfit_from (suc number) (kept_with kept frame) frames
    else Some number

-- its number, counted from 1
unfoldable pub first_unfit : Format → List Frame → Option ℕ
first_unfit format frames = unfit_from 1 (nothing_kept format) frames

-- the file of the frames up to the first that doesn't fit
unfoldable pub file_of : Format → List Frame → List ℕ
file_of format frames = written format (fitting format frames)

-- the bytes that these frames bring, up to the first that doesn't fit, and then those of the end
abbrev pub written_from : Kept → List Frame → List ℕ
written_from kept [] = end_at kept
written_from kept (frame ∷ frames) =
    if fits_at kept frame then piece_at kept frame ++ written_from (kept_with kept frame) frames
    else end_at kept

-- the bytes that one frame brings
abbrev pub piece_if : Kept → Frame → List ℕ
piece_if kept frame = if fits_at kept frame then piece_at kept frame else []

-- a frame that fits was written, or nothing
abbrev pub Steps : Bool → Kept → Kept → Frame → Option (List ℕ) → Option (List ℕ) → Type 0
Steps true old new frame before now =
    (fits_at old frame ≡ true) × (new ≡ kept_with old frame)
    × Appends before now (piece_at old frame)
Steps false old new frame before now = (fits_at old frame ≡ false) × (new ≡ old) × (now ≡ before)

-- the file of frames in the order of their places was written, up to the first that doesn't fit
pub record IsWrittenOf (format : Format) (entries : List Entry) (unfit : Option ℕ)
    (old new : Option (List ℕ)) : Type 0 where
  pub order : List Entry
  pub ordered : IsInOrder entries order
  pub wrote : Appends old new (file_of format (frames_of order))
  pub unfit_is : unfit ≡ first_unfit format (frames_of order)
  -- the numbers of those that were written are those of a frame
  pub small : AreFrames (fitting format (frames_of order))

-- a front of it was written
abbrev pub IsPartOf : Format → List Entry → Option (List ℕ) → Option (List ℕ) → Type 0
IsPartOf format entries old new =
    (order : List Entry) × IsInOrder entries order
    × AppendsPart old new (file_of format (frames_of order))
