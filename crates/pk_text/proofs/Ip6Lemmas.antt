-- `ip6_of` reads the texts of an IPv6 address's forms, and no other.
use Rattle.std.proofs.Common.{◌≡◌, ◌≢◌, ℕ, zero, suc, ◌+◌, ◌-◌, ◌*◌, ◌^◌, ◌<◌, ◌≤◌, true, ◌&&◌, eqb, List, [], ◌∷◌, ◌++◌, codes, length, length-drop, take, drop, Option, Some, None, MatchOption, get_or, refl, sym, ap, ap₂, subst, ◌∙◌, arith, lit<}
use Rattle.std.specs.Option.{option_map}
use Rattle.std.specs.Option.{option_and_then}
use denote.Ref.{Bor}
use Rattle.std.specs.Str.Pattern.{FindsText, LacksTextAt, SplitsAroundMatch}
use Rattle.std.proofs.lemmas.List.{at_drop_more}
use Rattle.std.proofs.Math.ListN.{drop_of_length-le}
use Rattle.std.proofs.lemmas.Nat.{pow-add}
use Rattle.pk_text.specs.Digits.{short_read}
use Rattle.std.proofs.lemmas.Bool.{cond-false, cond_both, eqb-true, ne_eqb, and_parts}
use Rattle.std.proofs.Math.Nat.{pow-le-pow_right, pow-suc, mul_assoc, suc-mul, mul-le-mul_right, mul-lt-mul_of_pos_right, one-le-pow}
use Rattle.pk_text.specs.Ip6.{gap_in, side_more, side_after, words_in, side_of}

-- one more group fits 128 bits
pub group_fits : (number count group : ℕ) → number < (2 ^ 16) ^ count → count ≤ 8 → count ≢ 8 → group < 2 ^ 16 → number * 2 ^ 16 + group < 2 ^ 128
group_fits number count group below most other small =
    let more = pow-le-pow_right {n = 2 ^ 16} (lit< tt) {i = count} {j = 7} (omega arith) in
    omega arith

-- two colons
pub colons : (c d : ℕ) (rest : List ℕ) → (eqb c 58 && eqb d 58) ≡ true → c ∷ d ∷ rest ≡ codes "::" ++ rest
colons c d rest h =
    let both = and_parts (eqb c 58) (eqb d 58) h in
    ap₂ (λ (a b : ℕ). a ∷ b ∷ rest) (eqb-true c 58 both.0) (eqb-true d 58 both.1)

pub power_fits : (exponent : ℕ) → exponent ≤ 7 → (2 ^ 16) ^ exponent ≤ 2 ^ 112
power_fits exponent most = pow-le-pow_right {n = 2 ^ 16} (lit< tt) {i = exponent} {j = 7} most

-- a number of so many groups, with zeros behind it up to eight groups: first up to seven
pub record IsPlaced (number count power : ℕ) : Type 0 where
  pub moved : number * power < 2 ^ 112
  pub value : number * power * 2 ^ 16 ≡ number * (2 ^ 16) ^ (8 - count)
  pub room : number * power * 2 ^ 16 + (2 ^ 16) ^ (8 - count) ≤ 2 ^ 128

pub placed : (number count exponent power : ℕ) → number < (2 ^ 16) ^ count → count ≤ 7 → exponent ≡ 7 - count → power ≡ (2 ^ 16) ^ exponent → IsPlaced number count power
placed number count exponent power below most e is =
    let p = (2 ^ 16) ^ exponent in
    let q = (2 ^ 16) ^ (8 - count) in
    let seven : count + exponent ≡ 7 = omega arith in
    let eight : count + (8 - count) ≡ 8 = omega arith in
    let next : 8 - count ≡ suc exponent = omega arith in
    let all : (2 ^ 16) ^ count * p ≡ 2 ^ 112 = sym (pow-add (2 ^ 16) count exponent) ∙ ap (λ k. (2 ^ 16) ^ k) seven in
    let whole : (2 ^ 16) ^ count * q ≡ 2 ^ 128 = sym (pow-add (2 ^ 16) count (8 - count)) ∙ ap (λ k. (2 ^ 16) ^ k) eight in
    let one_more : q ≡ p * 2 ^ 16 = ap (λ k. (2 ^ 16) ^ k) next ∙ pow-suc (2 ^ 16) exponent in
    let less : number * p < 2 ^ 112 = subst (λ m. number * p < m) all (mul-lt-mul_of_pos_right below (one-le-pow exponent (2 ^ 16) (lit< tt))) in
    let value : number * p * 2 ^ 16 ≡ number * q = mul_assoc number p (2 ^ 16) ∙ ap (λ m. number * m) (sym one_more) in
    let fits : number * q + q ≤ 2 ^ 128 = subst (λ m. number * q + q ≤ m) whole (subst (λ m. m ≤ (2 ^ 16) ^ count * q) (suc-mul number q) (mul-le-mul_right q below)) in
    let result : IsPlaced number count p = record { moved = less; value = value; room = subst (λ m. m + q ≤ 2 ^ 128) (sym value) fits } in
    subst (IsPlaced number count) (sym is) result

pub sum_fits : (number front back count : ℕ) → number + (2 ^ 16) ^ (8 - front) ≤ 2 ^ 128 → count < (2 ^ 16) ^ back → front + back < 8 → number + count < 2 ^ 128
sum_fits number front back count room below few =
    let more = pow-le-pow_right {n = 2 ^ 16} (lit< tt) {i = back} {j = 8 - front} (omega arith) in
    omega arith

gap_none : (t : List ℕ) → ((i : ℕ) → i ≤ length t → LacksTextAt (codes "::") t i) → gap_in t ≡ None
unfolding gap_in
gap_none [] h = refl
gap_none (c ∷ []) h = refl
gap_none (c ∷ d ∷ rest) h =
    let later = gap_none (d ∷ rest) (λ i le. h (suc i) (omega arith)) in
    cond_both (eqb c 58 && eqb d 58) (Some ([], rest)) (option_map (λ p. (c ∷ p.0, p.1)) (gap_in (d ∷ rest))) (λ r. r ≡ None)
    (λ gap. absurd (h 0 (omega arith) rest (colons c d rest gap)))
    (λ _. ap (option_map (λ p. (c ∷ p.0, p.1))) later)

gap_at : (t : List ℕ) (i : ℕ) (rest : List ℕ) → ((k : ℕ) → k < i → LacksTextAt (codes "::") t k) → drop i t ≡ codes "::" ++ rest → gap_in t ≡ Some (take i t, rest)
unfolding gap_in
gap_at t zero rest before here = ap gap_in here
gap_at [] (suc i) rest before here = absurd (omega (arith, ap length here))
gap_at (c ∷ []) (suc i) rest before here = absurd (omega (arith, ap length here, length-drop {A = ℕ} i []))
gap_at (c ∷ d ∷ cs) (suc i) rest before here =
    let later = gap_at (d ∷ cs) i rest (λ k less. before (suc k) (omega arith)) here in
    cond_both (eqb c 58 && eqb d 58) (Some ([], cs)) (option_map (λ p. (c ∷ p.0, p.1)) (gap_in (d ∷ cs))) (λ r. r ≡ Some (take (suc i) (c ∷ d ∷ cs), rest))
    (λ gap. absurd (before 0 (omega arith) cs (colons c d cs gap)))
    (λ _. ap (option_map (λ p. (c ∷ p.0, p.1))) later)

-- the call of `split_once`, in these words
pub gap_split : (t : List ℕ) (r : Option (Bor (List ℕ) × Bor (List ℕ))) → MatchOption r (FindsText (codes "::") t None) (λ x. SplitsAroundMatch (FindsText (codes "::")) t x.0.now x.1.now) → option_map (λ sides. (sides.0.now, sides.1.now)) r ≡ gap_in t
gap_split t None none = sym (gap_none t none)
gap_split t (Some sides) h =
    let (i, j, found, front, back, order, front_len, back_len) = h in
    sym (gap_at t i (drop j t) found.0 found.1.split ∙ ap₂ (λ (a b : List ℕ). Some (a, b)) (sym front) (sym back))

-- a loop has read n words of a text, and the groups of the whole are those of the side so far and of the words behind
abbrev pub IsSideFront : List ℕ → ℕ × ℕ → ℕ → Type 0
IsSideFront t side n = side_after (0, 0) (words_in t) ≡ side_after side (drop n (words_in t))

side_turn : (t : List ℕ) (side : ℕ × ℕ) (n : ℕ) (word : List ℕ) → IsSideFront t side n → n < length (words_in t) → word ≡ get_or (words_in t) n word → side_after (0, 0) (words_in t) ≡ option_and_then (λ more. side_after more (drop (n + 1) (words_in t))) (option_and_then (side_more side) (short_read 16 4 word))
side_turn t side n word front inside here =
    front
    ∙ at_drop_more (side_after side) (words_in t) n word inside
    ∙ ap (λ w. side_after side (w ∷ drop (n + 1) (words_in t))) (sym here)

-- one more word
pub side_step : (t : List ℕ) (side : ℕ × ℕ) (n : ℕ) (word : List ℕ) (more : ℕ × ℕ) (m : ℕ) → IsSideFront t side n → (n < length (words_in t)) × (word ≡ get_or (words_in t) n word) → Some more ≡ option_and_then (side_more side) (short_read 16 4 word) → m ≡ n + 1 → IsSideFront t more m
side_step t side n word more m front turn read next =
    side_turn t side n word front turn.0 turn.1
    ∙ ap (option_and_then (λ side'. side_after side' (drop (n + 1) (words_in t)))) (sym read)
    ∙ ap (λ k. side_after more (drop k (words_in t))) (sym next)

pub side_of-some : (t : List ℕ) → length t ≢ 0 → side_of t ≡ side_after (0, 0) (words_in t)
unfolding side_of
side_of-some t some = cond-false (eqb (length t) 0) _ _ (ne_eqb (length t) 0 some)

-- a word that is no group, or one too many
pub side_stop : (t : List ℕ) (side : ℕ × ℕ) (n : ℕ) (word : List ℕ) → IsSideFront t side n → (n < length (words_in t)) × (word ≡ get_or (words_in t) n word) → None ≡ option_and_then (side_more side) (short_read 16 4 word) → length t ≢ 0 → side_of t ≡ None
side_stop t side n word front turn read some =
    side_of-some t some
    ∙ side_turn t side n word front turn.0 turn.1
    ∙ ap (option_and_then (λ side'. side_after side' (drop (n + 1) (words_in t)))) (sym read)

-- all words are read
pub side_done : (t : List ℕ) (side : ℕ × ℕ) (n : ℕ) → IsSideFront t side n → n ≡ length (words_in t) → length t ≢ 0 → side_of t ≡ Some side
side_done t side n front end some =
    side_of-some t some ∙ front ∙ ap (side_after side) (drop_of_length-le (words_in t) (omega arith))
