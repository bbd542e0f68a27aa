use Rattle.std.proofs.Common.{◌≡◌, ◌++◌}
use Rattle.std.specs.Slice.Iter.{iter_rest}
use Rattle.std.specs.Iterator.Adapters.{zip_first, zip_second}
use Rattle.std.specs.List.{filter_map, zip}
use Rattle.flt_typed.specs.Arithmetic.{calculated}
use Rattle.flt_lists.proofs.pairs.in_step.Given as goal

abbrev pub invariant-loop-first : goal.invariant-loop-first
invariant-loop-first l =
    l.answers.items ++ filter_map (λ pair. calculated l.operation pair.0 pair.1) (zip (iter_rest (zip_first l.first-iterator)) (iter_rest (zip_second l.first-iterator)))
    ≡ filter_map (λ pair. calculated l.operation pair.0 pair.1) (zip l.left l.right)
