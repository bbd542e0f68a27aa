-- The text of an IPv6 address is read as the address.
use Rattle.std.proofs.Common.{◌≡◌, ℕ, zero, suc, ◌+◌, ◌-◌, ◌*◌, ◌/◌, ◌%◌, ◌^◌, ◌<◌, ◌≤◌, false, eqb, List, [], ◌∷◌, ◌++◌, codes, length, map, take, drop, replicate, Some, refl, sym, ap, ap₂, ◌∙◌, arith, lit<, lit≤, ⊎_elim, length-drop}
use Rattle.std.specs.List.{AllByRecursion}
use Rattle.std.specs.Fmt.{digits, digits_onto, digit_glyph}
use Rattle.std.specs.Int.Digits.{number_from_digits}
use Rattle.std.specs.Str.Parse.{digits_value}
use Rattle.std.proofs.lemmas.Bool.{cond_both, eqb-false}
use Rattle.std.proofs.lemmas.Fmt.{digits_is_IsNumeral}
use Rattle.std.proofs.lemmas.Grind.{same_number_lists}
use Rattle.std.proofs.lemmas.List.{length-map, drop-drop, length-take, length-replicate, get_or-replicate, get_or-drop, get_or-take, take-append-drop}
use Rattle.std.proofs.Math.Nat.{pow-suc}
use Rattle.std.proofs.lemmas.List.Folds.{flat_map-map}
use Rattle.pk_text.specs.Ip6.{Whole, Shortened, IsWord, IsRun, IsBestRun, IsIp6Text, joined, groups_of, groups_shown, words_values, ip6_of}
use Rattle.pk_text.proofs.Ip6FormLemmas.{ip6_found}

-- a group has at most four digits
length-digits_onto : (k n count : ℕ) (acc : List ℕ) → n < 16 ^ suc count → count < k → length (digits_onto k 16 false n acc) ≤ suc count + length acc
length-digits_onto zero n count acc small room = absurd (omega arith)
length-digits_onto (suc k) n zero acc small room =
    cond_both (eqb (n / 16) 0) (digit_glyph false (n % 16) ∷ acc) (digits_onto k 16 false (n / 16) (digit_glyph false (n % 16) ∷ acc)) (λ r. length r ≤ 1 + length acc)
    (λ _. omega arith) (λ more. absurd (eqb-false (n / 16) 0 more (omega arith)))
length-digits_onto (suc k) n (suc count) acc small room =
    let later = length-digits_onto k (n / 16) count (digit_glyph false (n % 16) ∷ acc) (omega (arith, pow-suc 16 (suc count))) (omega arith) in
    cond_both (eqb (n / 16) 0) (digit_glyph false (n % 16) ∷ acc) (digits_onto k 16 false (n / 16) (digit_glyph false (n % 16) ∷ acc)) (λ r. length r ≤ suc (suc count) + length acc)
    (λ _. omega arith) (λ _. omega arith)

length-digits : (n : ℕ) → n < 2 ^ 16 → length (digits 16 false n) ≤ 4
unfolding digits
length-digits n small = length-digits_onto 64 n 3 [] small (lit< tt)

group_is_word : (group : ℕ) → group < 2 ^ 16 → IsWord (digits 16 false group)
group_is_word group small =
    ((digits_is_IsNumeral 16 false (lit≤ tt) (lit≤ tt) group (omega arith)).0, length-digits group small)

group_value : (group : ℕ) → group < 2 ^ 16 → digits_value 16 (digits 16 false group) ≡ group
group_value group small = (digits_is_IsNumeral 16 false (lit≤ tt) (lit≤ tt) group (omega arith)).1

abbrev AreGroups : List ℕ → Type 0
AreGroups groups = AllByRecursion (λ group. group < 2 ^ 16) groups

abbrev words_of : List ℕ → List (List ℕ)
words_of groups = map (digits 16 false) groups

words_of-words : (groups : List ℕ) → AreGroups groups → AllByRecursion IsWord (words_of groups)
words_of-words [] h = tt
words_of-words (group ∷ groups) h = (group_is_word group h.0, words_of-words groups h.1)

words_values-words_of : (groups : List ℕ) → AreGroups groups → words_values (words_of groups) ≡ groups
words_values-words_of [] h = refl
words_values-words_of (group ∷ groups) h = ap₂ (λ (v : ℕ) (vs : List ℕ). v ∷ vs) (group_value group h.0) (words_values-words_of groups h.1)

joined-words_of : (groups : List ℕ) → groups_shown groups ≡ joined (words_of groups)
joined-words_of [] = refl
joined-words_of (group ∷ groups) =
    ap (λ rest. digits 16 false group ++ rest) (sym (flat_map-map (λ word. codes ":" ++ word) (digits 16 false) groups))

AreGroups-take : (n : ℕ) (groups : List ℕ) → AreGroups groups → AreGroups (take n groups)
AreGroups-take zero groups h = tt
AreGroups-take (suc n) [] h = tt
AreGroups-take (suc n) (group ∷ groups) h = (h.0, AreGroups-take n groups h.1)

AreGroups-drop : (n : ℕ) (groups : List ℕ) → AreGroups groups → AreGroups (drop n groups)
AreGroups-drop zero groups h = h
AreGroups-drop (suc n) [] h = tt
AreGroups-drop (suc n) (group ∷ groups) h = AreGroups-drop n groups h.1

-- the groups, where a run is written as zeros
run_zeros : (groups : List ℕ) (at count : ℕ) → IsRun groups at count → replicate count 0 ≡ take count (drop at groups)
run_zeros groups at count run =
    same_number_lists (replicate count 0) (take count (drop at groups))
    (omega (arith, length-replicate {A = ℕ} count 0, length-take count (drop at groups), length-drop at groups, run.inside))
    (λ i inside.
    let less : i < count = omega (arith, length-replicate {A = ℕ} count 0) in
    get_or-replicate count i 0 0 less
    ∙ sym (get_or-take count (drop at groups) i 0 less ∙ get_or-drop at groups i 0 ∙ run.zeros i less))

zeros_between : (groups : List ℕ) (at count missing : ℕ) → IsRun groups at count → missing ≡ count → take at groups ++ (replicate missing 0 ++ drop (at + count) groups) ≡ groups
zeros_between groups at count missing run e =
    ap (λ n. take at groups ++ (replicate n 0 ++ drop (at + count) groups)) e
    ∙ ap₂ (λ (a b : List ℕ). take at groups ++ (a ++ b)) (run_zeros groups at count run) (sym (drop-drop count at groups))
    ∙ ap (λ (rest : List ℕ). take at groups ++ rest) (take-append-drop count (drop at groups))
    ∙ take-append-drop at groups

-- the number of the groups, one group after another
groups_number : (v : ℕ) → v < 2 ^ 128 → number_from_digits (2 ^ 16) (groups_of v) ≡ v
unfolding groups_of
groups_number v small =
    let g0 : 0 + v / 2 ^ 112 % 2 ^ 16 ≡ v / 2 ^ 112 = omega arith in
    let g1 : v / 2 ^ 112 * 2 ^ 16 + v / 2 ^ 96 % 2 ^ 16 ≡ v / 2 ^ 96 = omega arith in
    let g2 : v / 2 ^ 96 * 2 ^ 16 + v / 2 ^ 80 % 2 ^ 16 ≡ v / 2 ^ 80 = omega arith in
    let g3 : v / 2 ^ 80 * 2 ^ 16 + v / 2 ^ 64 % 2 ^ 16 ≡ v / 2 ^ 64 = omega arith in
    let g4 : v / 2 ^ 64 * 2 ^ 16 + v / 2 ^ 48 % 2 ^ 16 ≡ v / 2 ^ 48 = omega arith in
    let g5 : v / 2 ^ 48 * 2 ^ 16 + v / 2 ^ 32 % 2 ^ 16 ≡ v / 2 ^ 32 = omega arith in
    let g6 : v / 2 ^ 32 * 2 ^ 16 + v / 2 ^ 16 % 2 ^ 16 ≡ v / 2 ^ 16 = omega arith in
    let g7 : v / 2 ^ 16 * 2 ^ 16 + v / 2 ^ 0 % 2 ^ 16 ≡ v = omega arith in
    rw (g0, g1, g2, g3, g4, g5, g6, g7) refl

groups_small : (v : ℕ) → AreGroups (groups_of v)
unfolding groups_of
groups_small v = (omega arith, (omega arith, (omega arith, (omega arith, (omega arith, (omega arith, (omega arith, (omega arith, tt))))))))

-- a text of the groups is read as the number that they make
text_number : (groups t : List ℕ) → AreGroups groups → length groups ≡ 8 → IsIp6Text groups t → ip6_of t ≡ Some (number_from_digits (2 ^ 16) groups)
text_number groups t small eight h = ⊎_elim shortened plain h
  where
    shortened : ((at : ℕ) × (count : ℕ) × IsBestRun groups at count × (2 ≤ count) × (t ≡ groups_shown (take at groups) ++ (codes "::" ++ groups_shown (drop (at + count) groups)))) → ip6_of t ≡ Some (number_from_digits (2 ^ 16) groups)
    shortened (at, count, best, many, same) =
        let front = take at groups in
        let back = drop (at + count) groups in
        let run = best.run in
        let front_small = AreGroups-take at groups small in
        let back_small = AreGroups-drop (at + count) groups small in
        let front_len : length (words_of front) ≡ at = length-map front (digits 16 false) ∙ omega (arith, length-take at groups, run.inside) in
        let back_len : length (words_of back) ≡ 8 - (at + count) = length-map back (digits 16 false) ∙ omega (arith, length-drop (at + count) groups) in
        let few : length (words_of front) + length (words_of back) ≤ 7 = omega (arith, front_len, back_len, run.inside) in
        let missing : 8 - (length (words_of front) + length (words_of back)) ≡ count = omega (arith, front_len, back_len, run.inside) in
        ip6_found t (Shortened (words_of front) (words_of back)) (words_of-words front front_small, words_of-words back back_small, few)
        (same ∙ ap₂ (λ (a b : List ℕ). a ++ (58 ∷ 58 ∷ b)) (joined-words_of front) (joined-words_of back))
        ∙ ap₂ (λ (a b : List ℕ). Some (number_from_digits (2 ^ 16) (a ++ (replicate (8 - (length (words_of front) + length (words_of back))) 0 ++ b))))
        (words_values-words_of front front_small) (words_values-words_of back back_small)
        ∙ ap (λ (gs : List ℕ). Some (number_from_digits (2 ^ 16) gs)) (zeros_between groups at count _ run missing)

    plain : (((at count : ℕ) → IsRun groups at count → count < 2) × (t ≡ groups_shown groups)) → ip6_of t ≡ Some (number_from_digits (2 ^ 16) groups)
    plain (none, same) =
        ip6_found t (Whole (words_of groups)) (words_of-words groups small, length-map groups (digits 16 false) ∙ eight) (same ∙ joined-words_of groups)
        ∙ ap (λ (gs : List ℕ). Some (number_from_digits (2 ^ 16) gs)) (words_values-words_of groups small)

length-groups_of : (v : ℕ) → length (groups_of v) ≡ 8
unfolding groups_of
length-groups_of v = refl

-- the text of an address is read as the address
pub ip6_from_text : (v : ℕ) (t : List ℕ) → v < 2 ^ 128 → IsIp6Text (groups_of v) t → ip6_of t ≡ Some v
ip6_from_text v t small h = text_number (groups_of v) t (groups_small v) (length-groups_of v) h ∙ ap Some (groups_number v small)
