use Rattle.std.proofs.Common.{◌≡◌, ◌-◌, ◌≤◌, length}
use Rattle.range_bytes.specs.Held.{bytes_at}
use Rattle.range_bytes.specs.Joined.{front_end}
use Rattle.tcp_streams.proofs.GapLemmas.{IsPassing}
use Rattle.tcp_streams.proofs.passing.pass.Given as goal

abbrev pub invariant-loop-next : goal.invariant-loop-next
invariant-loop-next l =
    IsPassing l.fn.held.held l.fn.held.start (front_end l.fn.held) l.acked l.passed.lost.items l.passed.left.items l.held.start (front_end l.held)
    × (l.held.held ≡ l.fn.held.held) × (l.held.front ≡ bytes_at l.held.held l.held.start (length l.held.front)) × (l.fn.held.start ≤ l.held.start)

abbrev pub decreases-loop-next : goal.decreases-loop-next
decreases-loop-next l = l.acked - front_end l.held
