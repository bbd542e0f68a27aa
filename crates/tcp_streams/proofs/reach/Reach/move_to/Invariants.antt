use Rattle.std.proofs.Common.{◌≡◌, length}
use Rattle.tcp_streams.proofs.RunLemmas.{AreJoining}
use Rattle.tcp_streams.proofs.reach.Reach.move_to.Given as goal

abbrev pub invariant-loop-end : goal.invariant-loop-end
invariant-loop-end l = (l.self.origin ≡ l.fn.self.origin) × (l.self.acked ≡ l.fn.self.acked) × AreJoining l.fn.self.ahead.entries l.to l.self.ahead.entries l.self.end

abbrev pub decreases-loop-end : goal.decreases-loop-end
decreases-loop-end l = length l.self.ahead.entries
