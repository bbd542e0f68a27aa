-- What is written is read back.
use Rattle.std.specs.Prelude.{◌≡◌, ◌≤◌, ℕ, suc, Bool, true, List, [], ◌∷◌, ◌++◌, length}
use Rattle.pk_base.specs.Limits.{file_limit}
use Rattle.capture_read.specs.Capture.{Reading, capture_of}
use Rattle.capture_read.specs.declared.ending.Ending.TheVariants.{Whole}
use Rattle.capture_read.specs.declared.frame.Frame.{Frame}
use Rattle.capture_write.specs.declared.format.Format.{Format}
use Rattle.capture_write.specs.Frames.{order_of, all_read_back, AreOrdersKept}
use Rattle.capture_write.specs.Kept.{bytes_of, in_order, written, fits}

-- the bytes are those of a file of frames that fit
pub record IsReadBack (format : Format) (frames : List Frame) (bytes : List ℕ) : Type 0 where
  pub file : bytes ≡ written format frames
  pub fit : fits format frames ≡ true
  -- the byte order is kept where a frame's bytes depend on it
  pub orders : AreOrdersKept (order_of frames) frames
  -- the file stands for exactly these frames, numbered from 1 and in the file's byte order, unless it is too large
  pub capture : length bytes ≤ file_limit → capture_of bytes
      ≡ record { frames = all_read_back (order_of frames) 1 frames; ending = Whole }

-- the bytes of these frames, of which the newest stands first, and then those of the end
abbrev pub ReadsBack : Format → List Frame → List ℕ → Type 0
ReadsBack format past bytes = IsReadBack format (in_order past []) (bytes_of format past ++ bytes)

-- what is read of a frame that was written: its captured bytes, time, length on the wire and link type. Its number is lost,
-- and is its place in the file now. Its byte order is lost too, since the file has one, unless its bytes depend on it
pub record IsReadAs (little : Bool) (place : ℕ) (frame read : Frame) : Type 0 where
  pub bytes : read.bytes ≡ frame.bytes
  pub time : read.time ≡ frame.time
  pub original : read.original ≡ frame.original
  pub link : read.link ≡ frame.link
  pub number : read.number ≡ place
  pub order : read.little ≡ little
  pub kept : frame.link ≡ 0 → read.little ≡ frame.little

-- the same of each frame, in order
abbrev pub AreReadAs : Bool → ℕ → List Frame → List Frame → Type 0
AreReadAs little place [] [] = Unit {0}
AreReadAs little place [] (read ∷ reads) = ⊥
AreReadAs little place (frame ∷ frames) [] = ⊥
AreReadAs little place (frame ∷ frames) (read ∷ reads) =
    IsReadAs little place frame read × AreReadAs little (suc place) frames reads

-- a file has exactly these frames in order, numbered from 1, and nothing behind them
pub record IsReadingOf (frames : List Frame) (reading : Reading) : Type 0 where
  pub each : AreReadAs (order_of frames) 1 frames reading.frames
  pub whole : reading.ending ≡ Whole
