-- The first place in a table by the first places in its halves.
use Rattle.std.proofs.Common.{◌≡◌, ◌≢◌, ◌==◌, ℕ, ◌+◌, ◌<◌, ◌≤◌, Bool, true, false, not, cond, List, ◌++◌, take, drop, length, Option, Some, None, refl, sym, ◌∙◌, ap, arith, length-append}
use Rattle.std.specs.List.{position, position_or_len}
use Rattle.std.proofs.Math.Dec.{ltb}
use Rattle.std.proofs.lemmas.Bool.{eqb-true, eqb-false, lt-ltb, ltb-true, ltb-false}
use Rattle.std.proofs.lemmas.List.{take-append-drop, length-take-le}
use Rattle.std.proofs.lemmas.List.Folds.{prefix_len-append}
use Rattle.std.proofs.lemmas.List.Sums.{prefix_len-le-length}
use Rattle.pk_fields.specs.Halves.{joined}

ltb-no : (n m : ℕ) → m ≤ n → ltb n m ≡ false
ltb-no n m most = by_test (ltb n m) refl
  where
    by_test : (test : Bool) → ltb n m ≡ test → ltb n m ≡ false
    by_test true is = absurd (omega (arith, ltb-true n m is))
    by_test false is = is

found_at : ℕ → ℕ → Option ℕ
found_at place len = cond (ltb place len) (Some place) None

-- of two lists one behind the other, by the lengths a and b and the places n and m where the test first fails
joined_places : (a b n m : ℕ) → n ≤ a → m ≤ b → found_at (cond (n == a) (a + m) n) (a + b) ≡ joined a (found_at n a) (found_at m b)
unfolding found_at
joined_places a b n m first other = by_first (n == a) refl
  where
    by_other : n ≡ a → (test : Bool) → ltb m b ≡ test → cond (ltb (a + m) (a + b)) (Some (a + m)) None ≡ joined a None (cond (ltb m b) (Some m) None)
    by_other same true is = rw (is, lt-ltb (a + m) (a + b) (omega (arith, ltb-true m b is))) refl
    by_other same false is = rw (is, ltb-no (a + m) (a + b) (omega (arith, ltb-false m b is))) refl

    by_first : (test : Bool) → (n == a) ≡ test → cond (ltb (cond (n == a) (a + m) n) (a + b)) (Some (cond (n == a) (a + m) n)) None ≡ joined a (cond (ltb n a) (Some n) None) (cond (ltb m b) (Some m) None)
    by_first true is =
        let same : n ≡ a = eqb-true n a is in
        rw (is, ltb-no n a (omega arith)) (by_other same (ltb m b) refl)
    by_first false is =
        let below : n < a = let other : n ≢ a = eqb-false n a is in omega arith in
        rw (is, lt-ltb n a below, lt-ltb n (a + b) (omega arith)) refl

pub position-append : {X : Type 0} (test : X → Bool) (xs ys : List X) → position test (xs ++ ys) ≡ joined (length xs) (position test xs) (position test ys)
unfolding found_at
position-append test xs ys =
    rw (prefix_len-append (λ x. not (test x)) xs ys, length-append xs ys) (joined_places (length xs) (length ys) (position_or_len test xs) (position_or_len test ys) (prefix_len-le-length (λ x. not (test x)) xs) (prefix_len-le-length (λ x. not (test x)) ys))

pub position_halves : {X : Type 0} (test : X → Bool) (half : ℕ) (xs : List X) → half ≤ length xs → position test xs ≡ joined half (position test (take half xs)) (position test (drop half xs))
position_halves test half xs most =
    sym (ap (position test) (take-append-drop half xs)) ∙ position-append test (take half xs) (drop half xs) ∙ ap (λ n. joined n (position test (take half xs)) (position test (drop half xs))) (length-take-le half xs most)
