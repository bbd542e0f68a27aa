-- Frames that a dissector can take.
use Rattle.std.specs.Prelude.{◌≡◌, ◌<◌, ◌≤◌, ℕ, ◌+◌, ◌^◌, List, [], ◌∷◌, length, IfSome}
use Rattle.capture_read.specs.FrameList.{IsTime}
use Rattle.capture_read.specs.declared.frame.Frame.{Frame}
use Rattle.pk_base.specs.Limits.{file_limit}

-- the next frame of a dissector that took so many, with so many captured bytes
pub record IsTakeable (taken captured : ℕ) (frame : Frame) : Type 0 where
  pub number : frame.number ≡ taken + 1
  pub time : IfSome frame.time IsTime
  pub bytes : captured + length frame.bytes ≤ 2 ^ 28
  pub few : taken < file_limit

-- it can take these, one behind the other
abbrev pub AreTakeable : ℕ → ℕ → List Frame → Type 0
AreTakeable taken captured [] = Unit {0}
AreTakeable taken captured (frame ∷ frames) =
    IsTakeable taken captured frame × AreTakeable (taken + 1) (captured + length frame.bytes) frames
