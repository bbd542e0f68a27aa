use Rattle.std.proofs.Common.{◌≡◌, ◌≤◌, ◌-◌}
use Rattle.range_bytes.specs.Joined.{front_end, IsInOrder}
use Rattle.range_bytes.proofs.joined_ranges.JoinedRanges.join.Given as goal

abbrev pub invariant-loop-self : goal.invariant-loop-self
invariant-loop-self l = (l.self.held ≡ l.fn.self.held) × (l.self.start ≡ l.fn.self.start) × (front_end l.fn.self ≤ front_end l.self) × IsInOrder l.self

abbrev pub decreases-loop-self : goal.decreases-loop-self
decreases-loop-self l = l.top - front_end l.self
