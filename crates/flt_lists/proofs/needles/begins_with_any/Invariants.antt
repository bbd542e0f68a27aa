use Rattle.std.proofs.Common.{◌≡◌, drop, length, take}
use Rattle.std.specs.Prelude.{◌&&◌, nat_le}
use Rattle.std.specs.List.{list_any}
use Rattle.std.specs.Ordering.{is_eq}
use Rattle.flt_lists.specs.Keys.{key_cmp, key_shown}
use Rattle.flt_lists.specs.Needles.{needle_of}
use Rattle.flt_lists.proofs.needles.begins_with_any.Given as goal

abbrev pub invariant-loop-len : goal.invariant-loop-len
invariant-loop-len l =
    list_any (λ n. nat_le n (length l.text) && list_any (λ k. is_eq (key_cmp (needle_of (take n l.text)) (key_shown k))) l.needles) (drop l.len-index l.lengths)
    ≡ list_any (λ n. nat_le n (length l.text) && list_any (λ k. is_eq (key_cmp (needle_of (take n l.text)) (key_shown k))) l.needles) l.lengths
