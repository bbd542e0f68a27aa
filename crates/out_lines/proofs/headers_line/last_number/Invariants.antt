use Rattle.std.proofs.Common.{◌<◌, ◌≤◌, ◌-◌, length}
use Rattle.out_lines.specs.Joined.{all_values}
use Rattle.out_lines.proofs.headers_line.last_number.Given as goal

abbrev pub invariant-values : goal.invariant-values
invariant-values l = (0 < l.next) × (l.next - 1 ≤ length (all_values l.outline l.field) - 1)

abbrev pub decreases-values : goal.decreases-values
decreases-values l = length (all_values l.outline l.field) - l.next
