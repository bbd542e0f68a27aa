use Rattle.std.proofs.Common.{◌≡◌, drop}
use Rattle.flt_lists.specs.Keys.{end_of, furthest, key_cmp, key_shown, keys_of}
use Rattle.flt_lists.proofs.ends.end_of.Given as goal

abbrev pub invariant-loop-value : goal.invariant-loop-value
invariant-loop-value l =
    furthest key_cmp l.extreme (key_shown l.end) (keys_of l.prefix (drop l.value-index l.values)) ≡ end_of l.extreme (keys_of l.prefix l.values)
