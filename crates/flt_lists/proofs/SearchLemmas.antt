-- What a search by halves finds.
use Rattle.std.proofs.Common.{◌≡◌, ◌<◌, ⊎_elim, ℕ, true, false, List, [], ◌∷◌, Result, Ok, Err, length, get_or, sym, ap, ◌∙◌, arith}
use Rattle.std.proofs.lemmas.Bool.{cases_lt}
use Rattle.std.proofs.lemmas.Cmp.{tied_back}
use Rattle.std.proofs.lemmas.List.Folds.{list_any_at, list_any_none}
use Rattle.std.proofs.lemmas.List.Sorted.{searchable_from_sorted}
use Rattle.std.specs.Cmp.{IsTotalOrder}
use Rattle.std.specs.List.{list_any}
use Rattle.std.specs.List.Sorted.{IsBinarySearchResult, IsSearchInRange, IsSortedBy}
use Rattle.std.specs.Ordering.{is_eq, is_lt, ordering_reverse}
use Rattle.std.specs.Result.{is_ok}
use Rattle.std.specs.declared.cmp.Ordering.{Ordering}
use Rattle.std.specs.declared.cmp.Ordering.TheVariants.{Less, Equal, Greater}

module _ {K X : Type 0} {R : K → K → Ordering} (o : IsTotalOrder R) (key : X → K) where
  place_found : (xs : List X) (x : K) (i : ℕ) → i < length xs → ((d : X) → R (key (get_or xs i d)) x ≡ Equal) → true ≡ list_any (λ y. is_eq (R x (key y))) xs
  place_found [] x i inside at = absurd (omega (arith, inside))
  place_found (y ∷ ys) x i inside at =
      sym (list_any_at (λ z. is_eq (R x (key z))) (y ∷ ys) i y inside (ap is_eq (tied_back o (key (get_or (y ∷ ys) i y)) x (at y))))

  below : (k l : K) → R k l ≡ Less → is_eq (R l k) ≡ false
  below k l e = ap is_eq (o.antisymm l k ∙ ap ordering_reverse e)

  above : (k l : K) → R k l ≡ Greater → is_eq (R l k) ≡ false
  above k l e = ap is_eq (o.antisymm l k ∙ ap ordering_reverse e)

  pub search_finds : (xs : List X) (x : K) (r : Result ℕ ℕ) → IsSortedBy (λ a b. is_lt (R (key a) (key b))) xs → IsSearchInRange r (length xs) → IsBinarySearchResult (λ y. R (key y) x) xs r →
      is_ok r ≡ list_any (λ y. is_eq (R x (key y))) xs
  search_finds xs x (Ok i) sorted range found = place_found xs x i range found
  search_finds xs x (Err i) sorted range found =
      let parts = found (searchable_from_sorted o key xs x sorted) in
      sym (list_any_none (λ y. is_eq (R x (key y))) xs
      (λ k d inside. ⊎_elim
      (λ lower. below (key (get_or xs k d)) x (parts.0 k d (omega arith) lower))
      (λ upper. above (key (get_or xs k d)) x (parts.1 k d upper inside))
      (cases_lt k i)))
