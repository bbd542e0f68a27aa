-- The keys under which something was noted, each once.
use Rattle.std.specs.Prelude.{ℕ, zero, suc, ◌==◌, ◌&&◌, Bool, if◌then◌else◌, List, [], ◌∷◌, ◌++◌}
use Rattle.std.specs.declared.cmp.Ordering.{Ordering}
use Rattle.std.specs.Cmp.Lexicographic.{slice_cmp}
use Rattle.std.specs.List.{list_any}
use Rattle.std.specs.Ordering.{nat_cmp, is_eq, is_lt, ordering_then}
use Rattle.std.specs.Str.{bytes_eq}

-- a new key among others: before the first that is above it
abbrev pub place : {K : Type 0} → (K → K → Ordering) → K → List K → List K
place cmp key [] = key ∷ []
place cmp key (next ∷ keys) =
    if is_lt (cmp key next) then key ∷ next ∷ keys else next ∷ place cmp key keys

-- the keys in their order
abbrev pub rising : {K F : Type 0} → (K → K → Bool) → (K → K → Ordering) → List (K × F) → List K
rising same cmp [] = []
rising same cmp (note ∷ notes) =
    let keys = rising same cmp notes in
    if list_any (same note.0) keys then keys else place cmp note.0 keys

-- the keys in the order of the first notes
abbrev pub in_turn : {K F : Type 0} → (K → K → Bool) → List (K × F) → List K
in_turn same [] = []
in_turn same (note ∷ notes) =
    let keys = in_turn same notes in
    if list_any (same note.0) keys then keys else keys ++ note.0 ∷ []

-- numbers, by their size
abbrev pub same_number : ℕ → ℕ → Bool
same_number one other = is_eq (nat_cmp one other)

unfoldable pub numbers_in : {F : Type 0} → List (ℕ × F) → List ℕ
numbers_in notes = rising same_number nat_cmp notes

-- the numbers below one
abbrev pub below : ℕ → List ℕ
below zero = []
below (suc number) = below number ++ number ∷ []

-- texts, by their bytes
unfoldable pub texts_in : {F : Type 0} → List (List ℕ × F) → List (List ℕ)
texts_in notes = rising bytes_eq (slice_cmp nat_cmp) notes

-- pairs, in turn
abbrev pub same_pair : ℕ × ℕ → ℕ × ℕ → Bool
same_pair one other = one.0 == other.0 && one.1 == other.1

unfoldable pub pairs_in : {F : Type 0} → List ((ℕ × ℕ) × F) → List (ℕ × ℕ)
pairs_in notes = in_turn same_pair notes

-- the order by which pairs are looked for
abbrev pub pair_cmp : ℕ × ℕ → ℕ × ℕ → Ordering
pair_cmp one other = ordering_then (nat_cmp one.0 other.0) (nat_cmp one.1 other.1)
