use Rattle.std.proofs.Common.{◌≡◌, ◌≤◌, ◌-◌}
use Rattle.range_bytes.specs.Held.{put_numbers, frames_at}
use Rattle.range_bytes.proofs.joined_ranges.JoinedRanges.frames.Given as goal

abbrev pub invariant-loop-next : goal.invariant-loop-next
invariant-loop-next l = (l.from ≤ l.next) × (put_numbers l.frames.items (frames_at l.self.held l.next (l.to - l.next)) ≡ frames_at l.self.held l.from (l.to - l.from))

abbrev pub decreases-loop-next : goal.decreases-loop-next
decreases-loop-next l = l.to - l.next
