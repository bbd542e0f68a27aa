use Rattle.std.proofs.Common.{◌≡◌, ◌<◌, ℕ, get_or, length}
use Rattle.out_lines.specs.Columns.{no_column}
use Rattle.out_lines.proofs.columns.clear_columns.Given as goal

abbrev pub invariant-loop-column : goal.invariant-loop-column
invariant-loop-column l =
    ((k : ℕ) → k < l.column-index → get_or l.columns k no_column ≡ no_column)
    × (length l.columns ≡ length l.initial.columns)
