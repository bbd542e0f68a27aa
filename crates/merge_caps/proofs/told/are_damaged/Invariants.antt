use Rattle.std.proofs.Common.{◌≡◌, drop}
use Rattle.merge_caps.specs.Statuses.{are_damaged}
use Rattle.merge_caps.proofs.told.are_damaged.Given as goal

abbrev pub invariant-loop-ending : goal.invariant-loop-ending
invariant-loop-ending l = are_damaged l.endings ≡ are_damaged (drop l.ending-index l.endings)
