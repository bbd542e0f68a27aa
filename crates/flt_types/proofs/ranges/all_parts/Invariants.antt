use Rattle.std.proofs.Common.{◌≡◌, ◌++◌, drop, map}
use Rattle.flt_types.proofs.ranges.all_parts.Given as goal

abbrev pub invariant-loop-range : goal.invariant-loop-range
invariant-loop-range l = l.parts.items ++ map (λ r. r.part) (drop l.range-index l.ranges) ≡ map (λ r. r.part) l.ranges
