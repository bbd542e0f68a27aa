use Rattle.std.proofs.Common.{◌≡◌, map, drop}
use Rattle.flt_typed.specs.Positions.{positions, all_positions}
use Rattle.flt_typed.proofs.positions.+positions.Given as goal

abbrev pub invariant-all_positions-loop-i : goal.invariant-all_positions-loop-i
invariant-all_positions-loop-i l = l.total ≡ all_positions (map positions (drop l.i l.subs))
