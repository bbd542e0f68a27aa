-- What holds of the files of all lists of frames.
use Rattle.std.specs.Prelude.{◌≡◌, ◌≤◌, ◌↔◌, true, List, length}
use Rattle.pk_base.specs.Limits.{file_limit}
use Rattle.capture_read.specs.Capture.{capture_of}
use Rattle.capture_read.specs.declared.frame.Frame.{Frame}
use Rattle.capture_write.specs.declared.format.Format.{Format}
use Rattle.capture_write.specs.Frames.{AreFrames}
use Rattle.capture_write.specs.Held.{AreHeldIn}
use Rattle.capture_write.specs.Kept.{written, fits}
use Rattle.capture_write.specs.ReadBack.{IsReadingOf}

-- frames fit into a file exactly where its format holds each of them
abbrev pub FitWhereHeld : Type 0
FitWhereHeld =
    (format : Format) (frames : List Frame) → (fits format frames ≡ true) ↔ AreHeldIn format frames

-- the file of frames that its format holds is read as exactly these frames, unless it is too large
abbrev pub WrittenIsReadBack : Type 0
WrittenIsReadBack =
    (format : Format) (frames : List Frame) → AreFrames frames → AreHeldIn format frames
    → length (written format frames) ≤ file_limit
    → IsReadingOf frames (capture_of (written format frames))
