use Rattle.std.proofs.Common.{◌≡◌, take, true, false}
use Rattle.std.specs.Prelude.{not, nat_eq, IfSome}
use Rattle.std.specs.List.{list_any}
use Rattle.flt_lists.specs.Keys.{key_shown}
use Rattle.flt_lists.specs.Needles.{has_length}
use Rattle.flt_lists.proofs.needles.lengths_of.Given as goal

abbrev pub invariant-loop-needle : goal.invariant-loop-needle
invariant-loop-needle l =
    (list_any (λ k. not (has_length l.lengths.items (key_shown k))) (take l.needle-index l.needles) ≡ false)
    × IfSome l.newest (λ len. list_any (λ n. nat_eq n len) l.lengths.items ≡ true)
