-- A test that every row passes holds at each number.
use Rattle.std.proofs.Common.{◌≡◌, ℕ, zero, suc, ◌<◌, Bool, true, List, [], ◌∷◌, length, get_or, arith}
use Rattle.std.specs.List.{list_all}
use Rattle.std.proofs.lemmas.Bool.{and_parts}

-- at a number that is no row's, the row in its place passes
pub passes_at : {X : Type 0} (test : X → Bool) (xs : List X) (i : ℕ) (d : X) → list_all test xs ≡ true → test d ≡ true → test (get_or xs i d) ≡ true
passes_at test [] i d all default = default
passes_at test (x ∷ xs) zero d all default = (and_parts (test x) (list_all test xs) all).0
passes_at test (x ∷ xs) (suc i) d all default = passes_at test xs i d (and_parts (test x) (list_all test xs) all).1 default

-- below the length no such row is needed
pub passes_inside : {X : Type 0} (test : X → Bool) (xs : List X) (i : ℕ) (d : X) → list_all test xs ≡ true → i < length xs → test (get_or xs i d) ≡ true
passes_inside test [] i d all inside = absurd (omega arith)
passes_inside test (x ∷ xs) zero d all inside = (and_parts (test x) (list_all test xs) all).0
passes_inside test (x ∷ xs) (suc i) d all inside =
    passes_inside test xs i d (and_parts (test x) (list_all test xs) all).1 (omega arith)
