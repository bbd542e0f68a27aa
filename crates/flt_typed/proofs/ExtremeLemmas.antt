-- The least and the greatest of numbers, one value after the other.
use Rattle.std.proofs.Common.{◌≡◌, ◌⊎◌, inl, inr, ⊎_elim, ◌<◌, ◌≤◌, ◌+◌, ℕ, suc, List, [], ◌∷◌, Option, Some, None, length, drop, get_or, add-one, drop-cons, refl, sym, ap, subst, arith}
use Rattle.std.proofs.lemmas.Bool.{cases_lt}
use Rattle.std.proofs.lemmas.List.{drop_all}
use Rattle.std.proofs.lemmas.List.Elements.{All-cons, All-nil}
use Rattle.std.specs.List.{All, Contains}
use Rattle.flt_typed.specs.Arithmetic.{IsExtreme, IsWithin, extreme_number, nearer, nearer_of, number_in}
use Rattle.flt_typed.specs.declared.arithmetic.Extreme.{Extreme}
use Rattle.flt_typed.specs.declared.arithmetic.Extreme.TheVariants.{Least, Greatest}
use Rattle.pk_base.specs.declared.value.Value.{Value}
use Rattle.pk_base.specs.declared.value.Value.TheVariants as values

-- three numbers from the left, and from the right
regroup_numbers : (e : Extreme) (a b c : ℕ) → nearer e a (nearer e b c) ≡ nearer e (nearer e a b) c
regroup_numbers Least a b c = omega arith
regroup_numbers Greatest a b c = omega arith

regroup : (e : Extreme) (a b c : Option ℕ) → nearer_of e a (nearer_of e b c) ≡ nearer_of e (nearer_of e a b) c
regroup e None b c = refl
regroup e (Some a) None c = refl
regroup e (Some a) (Some b) None = refl
regroup e (Some a) (Some b) (Some c) = ap Some (regroup_numbers e a b c)

nothing_behind : (e : Extreme) (a : Option ℕ) → nearer_of e a None ≡ a
nothing_behind e None = refl
nothing_behind e (Some a) = refl

pub next_number : (e : Extreme) (number new : Option ℕ) (vs : List Value) (d : Value) (i : ℕ) → i < length vs → new ≡ nearer_of e number (number_in (get_or vs i d)) →
    nearer_of e number (extreme_number e (drop i vs)) ≡ nearer_of e new (extreme_number e (drop (i + 1) vs))
next_number e number new vs d i inside is =
    rw (is, add-one i, drop-cons vs i d inside) (regroup e number (number_in (get_or vs i d)) (extreme_number e (drop (suc i) vs)))

pub last_number : (e : Extreme) (number : Option ℕ) (vs : List Value) (i : ℕ) → length vs ≤ i → nearer_of e number (extreme_number e (drop i vs)) ≡ number
last_number e number vs i end = rw (drop_all i vs end) (nothing_behind e number)

-- no number is there
abbrev IsNone : Value → Type 0
IsNone v = (other : ℕ) → v ≡ values.Uint other → ⊥

some_nearer : (e : Extreme) (a : ℕ) (rest : Option ℕ) → nearer_of e (Some a) rest ≡ None → ⊥
some_nearer e a None h = cc
some_nearer e a (Some b) h = cc

none_there : (e : Extreme) (vs : List Value) → extreme_number e vs ≡ None → All IsNone vs
none_there e [] h = All-nil IsNone
none_there e (values.Uint a ∷ vs) h = absurd (some_nearer e a (extreme_number e vs) h)
none_there e (v ∷ vs) h = All-cons IsNone v vs (λ other is. cc) (none_there e vs h)

-- what bounds all numbers, and is one of them
abbrev Bounds : Extreme → ℕ → Value → Type 0
Bounds e n v = (other : ℕ) → v ≡ values.Uint other → IsWithin e n other

same_number : (a b : ℕ) → values.Uint a ≡ values.Uint b → a ≡ b
same_number a b is = cc

itself : (e : Extreme) (n : ℕ) → IsWithin e n n
itself Least n = omega arith
itself Greatest n = omega arith

further : (e : Extreme) (a b n : ℕ) → IsWithin e a b → IsWithin e b n → IsWithin e a n
further Least a b n p q = omega (arith, p, q)
further Greatest a b n p q = omega (arith, p, q)

bounds_weaken : (e : Extreme) (a b : ℕ) (vs : List Value) → IsWithin e a b → All (Bounds e b) vs → All (Bounds e a) vs
bounds_weaken e a b vs p all k d inside other is = further e a b other p (all k d inside other is)

bounds_own : (e : Extreme) (a n : ℕ) → IsWithin e a n → Bounds e a (values.Uint n)
bounds_own e a n p other is = subst (IsWithin e a) (same_number n other is) p

bounds_none : (e : Extreme) (a : ℕ) (vs : List Value) → All IsNone vs → All (Bounds e a) vs
bounds_none e a vs all k d inside other is = absurd (all k d inside other is)

in_front : (v : Value) (vs : List Value) → Contains (v ∷ vs) v
in_front v vs = (0, omega arith, refl)

behind_one : (w v : Value) (vs : List Value) → Contains vs v → Contains (w ∷ vs) v
behind_one w v vs (k, inside, is) = (suc k, omega (arith, inside), is)

extreme_at : (e : Extreme) (vs : List Value) (n : ℕ) → Contains vs (values.Uint n) → All (Bounds e n) vs → IsExtreme e vs (values.Uint n)
extreme_at e vs n among bounds = record { number = n; is_number = refl; among = among; bounds = bounds }

abbrev Found : Extreme → List Value → Type 0
Found e vs = (n : ℕ) → extreme_number e vs ≡ Some n → Contains vs (values.Uint n) × All (Bounds e n) vs

-- one value more in front
other_more : (e : Extreme) (v : Value) (vs : List Value) → IsNone v → Found e vs → (n : ℕ) → extreme_number e vs ≡ Some n
    → Contains (v ∷ vs) (values.Uint n) × All (Bounds e n) (v ∷ vs)
other_more e v vs none found n is =
    let rest = found n is in
    (behind_one v (values.Uint n) vs rest.0, All-cons (Bounds e n) v vs (λ other same. absurd (none other same)) rest.1)

first_only : (e : Extreme) (a : ℕ) (vs : List Value) → All IsNone vs → (n : ℕ) → a ≡ n
    → Contains (values.Uint a ∷ vs) (values.Uint n) × All (Bounds e n) (values.Uint a ∷ vs)
first_only e a vs none n is =
    rw (← is) (in_front (values.Uint a) vs, All-cons (Bounds e a) (values.Uint a) vs (bounds_own e a a (itself e a)) (bounds_none e a vs none))

-- the first number or the one behind it
first_nearer : (e : Extreme) (a b : ℕ) → ((nearer e a b ≡ a) × IsWithin e a b) ⊎ ((nearer e a b ≡ b) × IsWithin e b a)
first_nearer Least a b = ⊎_elim (λ l. inl (omega (arith, l), omega (arith, l))) (λ r. inr (omega (arith, r), omega (arith, r))) (cases_lt a b)
first_nearer Greatest a b = ⊎_elim (λ l. inr (omega (arith, l), omega (arith, l))) (λ r. inl (omega (arith, r), omega (arith, r))) (cases_lt a b)

both_there : (e : Extreme) (a b : ℕ) (vs : List Value) → Contains vs (values.Uint b) → All (Bounds e b) vs
    → ((nearer e a b ≡ a) × IsWithin e a b) ⊎ ((nearer e a b ≡ b) × IsWithin e b a)
    → Contains (values.Uint a ∷ vs) (values.Uint (nearer e a b)) × All (Bounds e (nearer e a b)) (values.Uint a ∷ vs)
both_there e a b vs among bounds (inl (is, within)) =
    rw is (in_front (values.Uint a) vs, All-cons (Bounds e a) (values.Uint a) vs (bounds_own e a a (itself e a)) (bounds_weaken e a b vs within bounds))
both_there e a b vs among bounds (inr (is, within)) =
    rw is (behind_one (values.Uint a) (values.Uint b) vs among, All-cons (Bounds e b) (values.Uint a) vs (bounds_own e b a within) bounds)

number_more : (e : Extreme) (a : ℕ) (vs : List Value) (rest : Option ℕ) → extreme_number e vs ≡ rest → Found e vs → (n : ℕ) → nearer_of e (Some a) rest ≡ Some n
    → Contains (values.Uint a ∷ vs) (values.Uint n) × All (Bounds e n) (values.Uint a ∷ vs)
number_more e a vs None is found n got = first_only e a vs (none_there e vs is) n cc
number_more e a vs (Some b) is found n got =
    let rest = found b is in
    let same : nearer e a b ≡ n = cc in
    subst (λ m. Contains (values.Uint a ∷ vs) (values.Uint m) × All (Bounds e m) (values.Uint a ∷ vs)) same
    (both_there e a b vs rest.0 rest.1 (first_nearer e a b))

is_found : (e : Extreme) (vs : List Value) → Found e vs
is_found e [] n is = absurd (cc is)
is_found e (values.Uint a ∷ vs) n is = number_more e a vs (extreme_number e vs) refl (is_found e vs) n is
is_found e (v ∷ vs) n is = other_more e v vs (λ other same. cc) (is_found e vs) n is

pub is_extreme : (e : Extreme) (vs : List Value) (n : ℕ) → Some n ≡ extreme_number e vs → IsExtreme e vs (values.Uint n)
is_extreme e vs n is = let found = is_found e vs n (sym is) in extreme_at e vs n found.0 found.1
