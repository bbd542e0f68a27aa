use Rattle.std.proofs.Common.{◌≤◌, ◌-◌}
use Rattle.range_bytes.specs.Held.{HoldsAll}
use Rattle.range_bytes.proofs.waiting.Waiting.first_free.Given as goal

abbrev pub invariant-loop-at : goal.invariant-loop-at
invariant-loop-at l = (l.from ≤ l.at) × HoldsAll l.self l.from l.at

abbrev pub decreases-loop-at : goal.decreases-loop-at
decreases-loop-at l = l.self-inside.end - l.at
