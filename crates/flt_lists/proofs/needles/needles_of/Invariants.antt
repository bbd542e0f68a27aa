use Rattle.std.proofs.Common.{◌≡◌, ◌++◌, drop, map}
use Rattle.std.specs.List.{filter_map}
use Rattle.flt_lists.specs.Keys.{key_shown}
use Rattle.flt_lists.specs.Needles.{needle_in}
use Rattle.flt_lists.proofs.needles.needles_of.Given as goal

abbrev pub invariant-loop-value : goal.invariant-loop-value
invariant-loop-value l = map (λ k. key_shown k) l.keys.items ++ filter_map needle_in (drop l.value-index l.values) ≡ filter_map needle_in l.values
