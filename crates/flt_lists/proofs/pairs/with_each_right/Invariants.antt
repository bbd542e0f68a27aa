use Rattle.std.proofs.Common.{◌≡◌, ◌++◌, drop}
use Rattle.std.specs.List.{filter_map}
use Rattle.flt_typed.specs.Arithmetic.{calculated}
use Rattle.flt_lists.proofs.pairs.with_each_right.Given as goal

abbrev pub invariant-loop-value : goal.invariant-loop-value
invariant-loop-value l =
    l.answers.items ++ filter_map (λ value. calculated l.operation l.left value) (drop l.value-index l.right) ≡ filter_map (λ value. calculated l.operation l.left value) l.right
