use Rattle.std.specs.Prelude.{◌≤◌}
use Rattle.cap_stats.specs.Few.{HasFew}
use Rattle.line_rows.proofs.reports.note_all.Given as goal

abbrev pub invariant-loop-layers : goal.invariant-loop-layers
invariant-loop-layers l = (l.count ≤ 100) × HasFew l.count l.stats
