use Rattle.std.proofs.Common.{◌-◌}
use Rattle.range_bytes.proofs.LettingGo.{IsLettingGo}
use Rattle.range_bytes.proofs.waiting.Waiting.let_go.Given as goal

abbrev pub invariant-loop-from : goal.invariant-loop-from
invariant-loop-from l = IsLettingGo l.fn.self l.below l.from l.self

abbrev pub decreases-loop-from : goal.decreases-loop-from
decreases-loop-from l = l.below - l.from
