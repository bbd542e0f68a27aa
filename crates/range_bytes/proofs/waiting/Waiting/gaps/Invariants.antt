use Rattle.std.proofs.Common.{◌-◌}
use Rattle.range_bytes.proofs.Gaps.{AreGapsUpTo}
use Rattle.range_bytes.proofs.waiting.Waiting.gaps.Given as goal

abbrev pub invariant-loop-at : goal.invariant-loop-at
invariant-loop-at l = AreGapsUpTo l.self l.new l.at l.gaps.items

abbrev pub decreases-loop-at : goal.decreases-loop-at
decreases-loop-at l = l.new.end - l.at
