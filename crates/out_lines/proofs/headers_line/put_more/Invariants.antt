use Rattle.std.proofs.Common.{◌≡◌, ◌++◌, ◌-◌, length}
use Rattle.out_lines.specs.Joined.{all_values, further}
use Rattle.out_lines.proofs.headers_line.put_more.Given as goal

abbrev pub invariant-values : goal.invariant-values
invariant-values l =
    l.line ++ further l.aggregator l.field (all_values l.outline l.field) l.k
    ≡ l.initial.line ++ further l.aggregator l.field (all_values l.outline l.field) 1

abbrev pub decreases-values : goal.decreases-values
decreases-values l = length (all_values l.outline l.field) - l.k
