use Rattle.std.proofs.Common.{◌≡◌, ◌==◌, find, drop}
use Rattle.ip_join.proofs.parts.first_next.Given as goal

abbrev pub invariant-loop-g : goal.invariant-loop-g
invariant-loop-g l = find (λ g. g.head.offset == 0) l.fragments ≡ find (λ g. g.head.offset == 0) (drop l.g-index l.fragments)
