-- The interfaces of a section have offsets of 64 bits: draft-ietf-opsawg-pcapng, section 4.2 (if_tsoffset). So the times of
-- frames are small.
use Rattle.std.specs.Prelude.{◌^◌, ℤ, pos, neg_ℤ, ◌<ℤ◌, ◌≤ℤ◌, List, [], ◌∷◌, IfSome}
use Rattle.capture_formats.specs.declared.step.BlockStep.{BlockStep}
use Rattle.capture_formats.specs.declared.step.BlockStep.TheVariants as step
use Rattle.capture_read.specs.FrameList.{IsTime}
use Rattle.capture_formats.specs.declared.interface.Interface.{Interface}

-- seconds of 64 bits
abbrev pub IsOffset : ℤ → Type 0
IsOffset seconds = (neg_ℤ (pos (2 ^ 63)) ≤ℤ seconds) × (seconds <ℤ pos (2 ^ 63))

abbrev pub AreInterfaces : List Interface → Type 0
AreInterfaces [] = Unit {0}
AreInterfaces (interface ∷ later) = IsOffset interface.offset × AreInterfaces later

-- a frame's time is small, where the step finds one
abbrev pub IsStepTimely : BlockStep → Type 0
IsStepTimely (step.Need n) = Unit {0}
IsStepTimely (step.Item found) = IfSome found.time IsTime
IsStepTimely (step.Skipped size) = Unit {0}
IsStepTimely (step.Bad reason) = Unit {0}
