use Rattle.std.proofs.Common.{◌≡◌, ◌++◌, codes, drop}
use Rattle.std.specs.List.{flat_map}
use Rattle.pk_base.specs.declared.chosen.LayerRange.{LayerRange}
use Rattle.flt_program.specs.Literals.{layer_range_shown}
use Rattle.flt_program.proofs.literals.put_further_layer_ranges.Given as goal

abbrev pub invariant-loop-range : goal.invariant-loop-range
invariant-loop-range l =
    l.line.items ++ flat_map (λ (range : LayerRange). codes "," ++ layer_range_shown range) (drop l.range-index l.ranges)
    ≡ l.initial.line.items ++ flat_map (λ (range : LayerRange). codes "," ++ layer_range_shown range) l.ranges
