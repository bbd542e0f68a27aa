use Rattle.std.proofs.Common.{◌≡◌, ◌≤◌, ◌-◌, max}
use Rattle.range_bytes.specs.Held.{bytes_at}
use Rattle.range_bytes.proofs.pieces.Pieces.gathered.Given as goal

abbrev pub invariant-loop-at : goal.invariant-loop-at
invariant-loop-at l = (l.from ≤ l.at) × (l.at ≤ max l.from l.to) × (l.bytes.items ≡ bytes_at l.self l.from (l.at - l.from))

abbrev pub decreases-loop-at : goal.decreases-loop-at
decreases-loop-at l = l.to - l.at
