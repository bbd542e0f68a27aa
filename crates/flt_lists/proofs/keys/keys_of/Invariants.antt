use Rattle.std.proofs.Common.{◌≡◌, ◌++◌, drop, map}
use Rattle.flt_lists.specs.Keys.{key_shown, keys_of}
use Rattle.flt_lists.proofs.keys.keys_of.Given as goal

abbrev pub invariant-loop-value : goal.invariant-loop-value
invariant-loop-value l =
    map (λ k. key_shown k) l.keys.items ++ keys_of l.prefix (drop l.value-index l.values) ≡ keys_of l.prefix l.values
