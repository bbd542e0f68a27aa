use Rattle.std.proofs.Common.{◌≡◌, map, take}
use Rattle.ip_join.proofs.parts.frames_of.Given as goal

abbrev pub invariant-loop-g : goal.invariant-loop-g
invariant-loop-g l = l.frames.items ≡ map (λ g. g.frame) (take l.g-index l.fragments)
