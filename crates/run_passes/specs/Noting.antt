-- A frame more that is noted for its links to later ones.
use Rattle.std.specs.Prelude.{◌≡◌, ◌+◌, List, ◌∷◌, length, map}
use Rattle.capture_read.specs.declared.frame.Frame.{Frame}
use Rattle.dissect.specs.Stands.{DissectorShown, StandsWithin}
use Rattle.second_pass.specs.Laws.{kept_noted}
use Rattle.second_pass.specs.Stands.{Stands}
use Rattle.second_pass.specs.declared.links.Links.{Links}
use Rattle.run_frames.specs.Job.{noted_of}

-- a dissector took it, and the links stand for the wanted items of its tree too
pub record HasNotedOne (frame : Frame) (old new : DissectorShown) (before after : Links) : Type 0 where
  pub stands : (past : List Frame) → StandsWithin past old → StandsWithin (frame ∷ past) new
  pub noted : (past : List Frame) → StandsWithin past old → Stands (map (kept_noted old.wanted) (noted_of old.decode.rules past)) before
      → Stands (map (kept_noted old.wanted) (noted_of old.decode.rules (frame ∷ past))) after
  pub taken : new.taken ≡ old.taken + 1
  pub captured : new.captured ≡ old.captured + length frame.bytes
  pub rules : new.decode ≡ old.decode
  pub wanted : new.wanted ≡ old.wanted
  pub sparing : new.sparing ≡ old.sparing
