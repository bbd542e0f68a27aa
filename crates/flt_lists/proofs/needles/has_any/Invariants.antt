use Rattle.std.proofs.Common.{◌≡◌, ℕ, List, drop}
use Rattle.std.specs.List.{list_any}
use Rattle.flt_lists.specs.Needles.{AreLengths, AreNeedles}
use Rattle.flt_typed.specs.Contains.{contains}
use Rattle.flt_lists.proofs.needles.has_any.Given as goal

abbrev pub invariant-loop-at : goal.invariant-loop-at
invariant-loop-at l =
    (texts : List (List ℕ)) → AreNeedles texts l.needles → AreLengths l.needles l.lengths
    → list_any (λ t. contains (drop l.at l.text) t) texts ≡ list_any (λ t. contains l.text t) texts
