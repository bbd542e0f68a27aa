use Rattle.std.proofs.Common.{◌≡◌, ◌++◌, drop}
use Rattle.std.specs.List.{filter_map}
use Rattle.flt_typed.specs.Calls.{called}
use Rattle.flt_lists.proofs.lists.each_called.Given as goal

abbrev pub invariant-loop-value : goal.invariant-loop-value
invariant-loop-value l =
    l.answers.items ++ filter_map (λ value. called l.function value) (drop l.value-index l.values) ≡ filter_map (λ value. called l.function value) l.values
