-- Numbers in ascending order, each once: put in one after the other, or sorted.
use Rattle.std.proofs.Common.{◌≡◌, ℕ, ◌+◌, ◌<◌, ◌≤◌, Bool, true, false, ◌||◌, List, [], ◌∷◌, ◌++◌, eqb, refl, sym, ap, ◌∙◌, inl, inr, arith}
use Rattle.std.specs.List.{list_any, dedup, dedup_from}
use Rattle.std.specs.List.Sorted.{IsPermutation, IsSorted, IsNonDecreasing}
use Rattle.std.specs.List.Retain.{IsFiltered, DiffersFromLast}
use Rattle.std.specs.Ordering.{nat_cmp}
use Rattle.std.proofs.lemmas.Bool.{false≢true, cond-true, cond-false, lt-ltb, le-ltb, eq-eqb, ne_eqb, cases_eq, cases_order}
use Rattle.std.proofs.lemmas.List.Filters.{dedup_is}
use Rattle.std.proofs.lemmas.List.Sorted.{list_any-IsPermutation, IsNonDecreasingBy-drop, IsNonDecreasingBy-from_sort}
use Rattle.range_bytes.specs.Held.{put_number, put_numbers}

-- numbers put in from the last on
abbrev pub all_put : List ℕ → List ℕ
all_put xs = put_numbers xs []

put_before : (x y : ℕ) (ys : List ℕ) → x < y → put_number x (y ∷ ys) ≡ x ∷ y ∷ ys
put_before x y ys low = cond-true _ _ _ (lt-ltb x y low)

put_same : (x y : ℕ) (ys : List ℕ) → x ≡ y → put_number x (y ∷ ys) ≡ y ∷ ys
put_same x y ys same = cond-false _ _ _ (le-ltb x y (omega arith)) ∙ cond-true _ _ _ (eq-eqb x y same)

put_behind : (x y : ℕ) (ys : List ℕ) → y < x → put_number x (y ∷ ys) ≡ y ∷ put_number x ys
put_behind x y ys high = cond-false _ _ _ (le-ltb x y (omega arith)) ∙ cond-false _ _ _ (ne_eqb x y (λ e. absurd (omega arith)))

-- a number put in twice
pub put_twice : (x : ℕ) (ys : List ℕ) → put_number x (put_number x ys) ≡ put_number x ys
put_twice x [] = put_same x x [] refl
put_twice x (y ∷ ys) = elim (cases_order x y) [
  | inl same ↦ ap (put_number x) (put_same x y ys same)
  | inr (inl low) ↦ ap (put_number x) (put_before x y ys low) ∙ put_same x x (y ∷ ys) refl ∙ sym (put_before x y ys low)
  | inr (inr high) ↦ ap (put_number x) (put_behind x y ys high) ∙ put_behind x y (put_number x ys) high ∙ ap (λ (zs : List ℕ). y ∷ zs) (put_twice x ys) ∙ sym (put_behind x y ys high)
]

-- each number is above the one before it, and the first is not below a number
abbrev pub RisesFrom : ℕ → List ℕ → Type 0
RisesFrom low [] = Unit {0}
RisesFrom low (x ∷ xs) = (low ≤ x) × RisesFrom (x + 1) xs

rises_lower : (low lower : ℕ) (xs : List ℕ) → RisesFrom low xs → lower ≤ low → RisesFrom lower xs
rises_lower low lower [] rises less = tt
rises_lower low lower (x ∷ xs) rises less = (omega (arith, rises.0), rises.1)

rises_put : (low x : ℕ) (ys : List ℕ) → RisesFrom low ys → low ≤ x → RisesFrom low (put_number x ys)
rises_put low x [] rises less = (less, tt)
rises_put low x (y ∷ ys) rises less = elim (cases_order x y) [
  | inl same ↦ rw (put_same x y ys same) rises
  | inr (inl low_x) ↦ rw (put_before x y ys low_x) (less, (omega arith, rises.1))
  | inr (inr high_x) ↦ rw (put_behind x y ys high_x) (rises.0, rises_put (y + 1) x ys rises.1 (omega arith))
]

rises_all : (xs : List ℕ) → RisesFrom 0 (all_put xs)
rises_all [] = tt
rises_all (x ∷ xs) = rises_put 0 x (all_put xs) (rises_all xs) (omega arith)

or_again : (b c : Bool) → (b || (b || c)) ≡ (b || c)
or_again true c = refl
or_again false c = refl

or_swap : (a b c : Bool) → (a || (b || c)) ≡ (b || (a || c))
or_swap true true c = refl
or_swap true false c = refl
or_swap false b c = refl

any_put : (z x : ℕ) (ys : List ℕ) → list_any (eqb z) (put_number x ys) ≡ (eqb z x || list_any (eqb z) ys)
any_put z x [] = refl
any_put z x (y ∷ ys) = elim (cases_order x y) [
  | inl same ↦ ap (list_any (eqb z)) (put_same x y ys same) ∙ sym (or_again (eqb z y) (list_any (eqb z) ys)) ∙ ap (λ (w : ℕ). eqb z w || (eqb z y || list_any (eqb z) ys)) (sym same)
  | inr (inl low) ↦ ap (list_any (eqb z)) (put_before x y ys low)
  | inr (inr high) ↦ ap (list_any (eqb z)) (put_behind x y ys high) ∙ ap (λ (b : Bool). eqb z y || b) (any_put z x ys) ∙ or_swap (eqb z y) (eqb z x) (list_any (eqb z) ys)
]

any_all : (z : ℕ) (xs : List ℕ) → list_any (eqb z) (all_put xs) ≡ list_any (eqb z) xs
any_all z [] = refl
any_all z (x ∷ xs) = any_put z x (all_put xs) ∙ ap (λ (b : Bool). eqb z x || b) (any_all z xs)

none_below : (low z : ℕ) (xs : List ℕ) → RisesFrom low xs → z < low → list_any (eqb z) xs ≡ false
none_below low z [] rises below = refl
none_below low z (x ∷ xs) rises below =
    let first : low ≤ x = rises.0 in
    rw (ne_eqb z x (λ e. absurd (omega arith))) (none_below (x + 1) z xs rises.1 (omega arith))

first_is_in : (x : ℕ) (xs : List ℕ) → list_any (eqb x) (x ∷ xs) ≡ true
first_is_in x xs = rw (eq-eqb x x refl) refl

-- ascending lists of the same numbers are the same
same_rising : (low other : ℕ) (xs ys : List ℕ) → RisesFrom low xs → RisesFrom other ys → ((z : ℕ) → list_any (eqb z) xs ≡ list_any (eqb z) ys) → xs ≡ ys
same_rising low other [] [] r s alike = refl
same_rising low other [] (y ∷ ys) r s alike = absurd (false≢true (alike y ∙ first_is_in y ys))
same_rising low other (x ∷ xs) [] r s alike = absurd (false≢true (sym (alike x) ∙ first_is_in x xs))
same_rising low other (x ∷ xs) (y ∷ ys) r s alike = elim (cases_order x y) [
  | inl same ↦
      let rest : xs ≡ ys = same_rising (x + 1) (y + 1) xs ys r.1 s.1 (λ z. elim (cases_eq z x) [
        | inl is ↦ none_below (x + 1) z xs r.1 (omega arith) ∙ sym (none_below (y + 1) z ys s.1 (omega arith))
        | inr apart ↦
            let here : list_any (eqb z) (x ∷ xs) ≡ list_any (eqb z) xs = rw (ne_eqb z x apart) refl in
            let there : list_any (eqb z) (y ∷ ys) ≡ list_any (eqb z) ys = rw (ne_eqb z y (λ e. apart (e ∙ sym same))) refl in
            sym here ∙ alike z ∙ there
      ]) in
      rw (same, rest) refl
  | inr (inl less) ↦ absurd (false≢true (sym (none_below y x (y ∷ ys) (omega arith, s.1) less) ∙ sym (alike x) ∙ first_is_in x xs))
  | inr (inr more) ↦ absurd (false≢true (sym (none_below x y (x ∷ xs) (omega arith, r.1) more) ∙ alike y ∙ first_is_in y ys))
]

all_permuted : (xs ys : List ℕ) → IsPermutation xs ys → all_put xs ≡ all_put ys
all_permuted xs ys permuted = same_rising 0 0 (all_put xs) (all_put ys) (rises_all xs) (rises_all ys)
    (λ z. any_all z xs ∙ list_any-IsPermutation (eqb z) xs ys permuted ∙ sym (any_all z ys))

put_below : (low x : ℕ) (ys : List ℕ) → RisesFrom low ys → x < low → put_number x ys ≡ x ∷ ys
put_below low x [] rises below = refl
put_below low x (y ∷ ys) rises below = let first : low ≤ y = rises.0 in put_before x y ys (omega arith)

next_above : (x y : ℕ) (ys : List ℕ) → IsNonDecreasing (x ∷ y ∷ ys) → x ≤ y
next_above x y ys sorted = sorted 0 1 0 (omega arith) (omega arith)

rest_sorted : (x : ℕ) (xs : List ℕ) → IsNonDecreasing (x ∷ xs) → IsNonDecreasing xs
rest_sorted x xs sorted = IsNonDecreasingBy-drop (λ n. n) 1 (x ∷ xs) sorted

rises_sorted : (x : ℕ) (xs : List ℕ) → IsNonDecreasing (x ∷ xs) → RisesFrom x (all_put xs)
rises_sorted x [] sorted = tt
rises_sorted x (y ∷ ys) sorted =
    let next : x ≤ y = next_above x y ys sorted in
    rises_put x y (all_put ys) (rises_lower y x (all_put ys) (rises_sorted y ys (rest_sorted x (y ∷ ys) sorted)) next) next

sorted_from : (x : ℕ) (xs : List ℕ) → IsNonDecreasing (x ∷ xs) → put_number x (all_put xs) ≡ dedup_from eqb x xs
sorted_from x [] sorted = refl
sorted_from x (y ∷ ys) sorted =
    let rest = rest_sorted x (y ∷ ys) sorted in
    let later : put_number y (all_put ys) ≡ dedup_from eqb y ys = sorted_from y ys rest in
    let next : x ≤ y = next_above x y ys sorted in
    elim (cases_eq y x) [
      | inl same ↦
          let both : put_number x (put_number y (all_put ys)) ≡ put_number y (all_put ys) =
          ap (λ (n : ℕ). put_number n (put_number y (all_put ys))) (sym same) ∙ put_twice y (all_put ys) in
          both ∙ later ∙ ap (λ (n : ℕ). dedup_from eqb n ys) same ∙ sym (cond-true _ _ _ (eq-eqb y x same))
      | inr apart ↦
          put_below y x (put_number y (all_put ys)) (rises_put y y (all_put ys) (rises_sorted y ys rest) (omega arith)) (omega (arith, apart))
          ∙ ap (λ (zs : List ℕ). x ∷ zs) later ∙ sym (cond-false _ _ _ (ne_eqb y x apart))
    ]

all_sorted : (xs : List ℕ) → IsNonDecreasing xs → all_put xs ≡ dedup eqb xs
all_sorted [] sorted = refl
all_sorted (x ∷ xs) sorted = sorted_from x xs sorted

-- what a sort and a `dedup` leave
pub sorted_is : (xs sorted numbers : List ℕ) → IsPermutation xs sorted → IsSorted nat_cmp sorted → IsFiltered (DiffersFromLast eqb) [] sorted numbers → numbers ≡ all_put xs
sorted_is xs sorted numbers permuted in_order filtered =
    dedup_is eqb sorted numbers filtered
    ∙ sym (all_sorted sorted (IsNonDecreasingBy-from_sort (λ n. n) sorted in_order))
    ∙ sym (all_permuted xs sorted permuted)

pub put_push : (xs : List ℕ) (x : ℕ) (ys : List ℕ) → put_numbers (xs ++ x ∷ []) ys ≡ put_numbers xs (put_number x ys)
put_push [] x ys = refl
put_push (first ∷ xs) x ys = ap (put_number first) (put_push xs x ys)
