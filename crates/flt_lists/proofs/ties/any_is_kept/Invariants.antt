use Rattle.std.proofs.Common.{◌≡◌, drop}
use Rattle.std.specs.List.{list_any}
use Rattle.std.specs.Ordering.{is_eq}
use Rattle.flt_lists.specs.Keys.{key_cmp, key_of, key_shown}
use Rattle.flt_lists.proofs.ties.any_is_kept.Given as goal

abbrev pub invariant-loop-value : goal.invariant-loop-value
invariant-loop-value l =
    list_any (λ v. list_any (λ k. is_eq (key_cmp (key_of l.prefix v) (key_shown k))) l.keys) (drop l.value-index l.values)
    ≡ list_any (λ v. list_any (λ k. is_eq (key_cmp (key_of l.prefix v) (key_shown k))) l.keys) l.values
