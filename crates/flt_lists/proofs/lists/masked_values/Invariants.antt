use Rattle.std.proofs.Common.{◌≡◌, ◌++◌, drop}
use Rattle.std.specs.List.{filter_map}
use Rattle.flt_typed.specs.Calls.{masked}
use Rattle.flt_lists.proofs.lists.masked_values.Given as goal

abbrev pub invariant-loop-value : goal.invariant-loop-value
invariant-loop-value l =
    l.answers.items ++ filter_map (λ value. masked l.mask value) (drop l.value-index l.values) ≡ filter_map (λ value. masked l.mask value) l.values
