use Rattle.std.proofs.Common.{◌≡◌, ℕ, List, drop}
use Rattle.std.specs.List.{list_any}
use Rattle.flt_lists.specs.Needles.{AreLengths, AreNeedles, has_text}
use Rattle.flt_lists.proofs.inside.any_has_needle.Given as goal

abbrev pub invariant-loop-value : goal.invariant-loop-value
invariant-loop-value l =
    (texts : List (List ℕ)) → AreNeedles texts l.needles → AreLengths l.needles l.lengths
    → list_any (λ v. list_any (λ t. has_text v t) texts) (drop l.value-index l.values) ≡ list_any (λ v. list_any (λ t. has_text v t) texts) l.values
