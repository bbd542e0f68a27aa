use Rattle.std.proofs.Common.{◌≡◌, drop}
use Rattle.std.specs.List.{list_all}
use Rattle.std.specs.Ordering.{is_eq}
use Rattle.flt_lists.specs.Keys.{key_cmp, key_of, key_shown}
use Rattle.flt_lists.proofs.ties.tie_with.Given as goal

abbrev pub invariant-loop-value : goal.invariant-loop-value
invariant-loop-value l = list_all (λ v. is_eq (key_cmp (key_of l.prefix v) (key_shown l.key))) (drop l.value-index l.values) ≡ list_all (λ v. is_eq (key_cmp (key_of l.prefix v) (key_shown l.key))) l.values
