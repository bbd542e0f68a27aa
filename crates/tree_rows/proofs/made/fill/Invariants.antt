use Rattle.std.proofs.Common.{◌≡◌}
use Rattle.tree_rows.proofs.made.fill.Given as goal

abbrev pub invariant-loop-line : goal.invariant-loop-line
invariant-loop-line l = l.builder.buffers ≡ l.initial.builder.buffers
