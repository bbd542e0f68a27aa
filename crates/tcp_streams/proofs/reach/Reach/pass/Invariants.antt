use Rattle.std.proofs.Common.{◌≡◌, ◌+◌, ◌-◌, ◌≤◌}
use Rattle.tcp_streams.specs.Gaps.{AreBetween}
use Rattle.tcp_streams.specs.Numbers.{window}
use Rattle.tcp_streams.specs.Reaches.{IsReachOf, numbers_of}
use Rattle.tcp_streams.specs.Runs.{AreAhead}
use Rattle.tcp_streams.specs.Ways.{WayState, IsWay}
use Rattle.tcp_streams.proofs.ReachLemmas.{PassesOn}
use Rattle.tcp_streams.proofs.reach.Reach.pass.Given as goal

abbrev pub invariant-loop-next : goal.invariant-loop-next
invariant-loop-next l =
    (l.self.origin ≡ l.fn.self.origin) × (l.self.acked ≡ l.fn.self.acked) × AreAhead l.self.end l.self.ahead.entries (l.fn.self.end + window)
    × (l.fn.self.end ≤ l.self.end) × (l.self.end ≤ l.fn.self.end + window) × AreBetween l.fn.self.end l.lost.items l.self.end
    × ((w : WayState) → IsWay w → IsReachOf w (numbers_of l.fn.self) → PassesOn w l.lost.items (numbers_of l.self))

abbrev pub decreases-loop-next : goal.decreases-loop-next
decreases-loop-next l = l.self.acked - l.self.end
