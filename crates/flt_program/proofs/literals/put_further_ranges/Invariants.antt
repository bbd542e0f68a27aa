use Rattle.std.proofs.Common.{◌≡◌, ◌++◌, codes, drop}
use Rattle.std.specs.List.{flat_map}
use Rattle.flt_syntax.specs.declared.ast.RangePart.{RangePart}
use Rattle.flt_program.specs.Literals.{range_shown}
use Rattle.flt_program.proofs.literals.put_further_ranges.Given as goal

abbrev pub invariant-loop-range : goal.invariant-loop-range
invariant-loop-range l =
    l.line.items ++ flat_map (λ (range : RangePart). codes "," ++ range_shown range) (drop l.range-index l.ranges)
    ≡ l.initial.line.items ++ flat_map (λ (range : RangePart). codes "," ++ range_shown range) l.ranges
