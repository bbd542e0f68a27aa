use Rattle.std.proofs.Common.{◌≡◌, ◌++◌, drop}
use Rattle.std.specs.List.{filter_map}
use Rattle.flt_typed.specs.Slices.{sliced}
use Rattle.flt_lists.proofs.lists.slices.Given as goal

abbrev pub invariant-loop-value : goal.invariant-loop-value
invariant-loop-value l =
    l.slices.items ++ filter_map (λ value. sliced value l.ranges) (drop l.value-index l.values) ≡ filter_map (λ value. sliced value l.ranges) l.values
