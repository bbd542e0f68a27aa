-- How pairs of digits are read one after another, and which texts they are.
use Rattle.std.proofs.Common.{◌≡◌, ℕ, zero, suc, ◌+◌, ◌-◌, ◌/◌, ◌%◌, ◌<◌, ◌≤◌, false, List, [], ◌∷◌, ◌++◌, eqb, length, get_or, map, take, set, Option, Some, None, refl, sym, ap, ap₂, ◌∙◌, arith, append_assoc, add-one, lit<, lit≤}
use Rattle.std.specs.Option.{option_map, option_and_then, option_to_list}
use Rattle.std.specs.List.{AllByRecursion, flat_map}
use Rattle.std.specs.Char.{digit_value}
use Rattle.std.specs.Fmt.{digit_glyph}
use Rattle.std.specs.Str.Parse.{AllDigits, digits_value}
use Rattle.std.proofs.lemmas.List.{append-nil, take_all}
use Rattle.std.proofs.Math.Seq.{take-suc-set}
use Rattle.std.proofs.lemmas.Bool.{cond-true, cond_both, eq-eqb, eqb-true}
use Rattle.std.proofs.lemmas.Str.{digit_value-digit_char}
use Rattle.std.proofs.lemmas.Option.{none-some, same_Some, option_and_then_some}
use Rattle.pk_text.specs.Digits.{short_read, hex_pair}
use Rattle.pk_text.proofs.DigitsLemmas.{short_read-IsNumeral, IsNumeral-short_read}
use Rattle.pk_text.proofs.OptionLemmas.{option_map_some, option_map-map, option_map-same}
use Rattle.pk_text.specs.Pairs.{IsPair, pairs_text, next_pair, pairs_exactly}

pairs_exactly-some : (n : ℕ) (before between : Option ℕ) (text after : List ℕ) (v : ℕ) → next_pair before text ≡ Some (v, after) → pairs_exactly (suc n) before between text ≡ option_map (λ bytes. v ∷ bytes) (pairs_exactly n between between after)
unfolding pairs_exactly
pairs_exactly-some n before between text after v h =
    ap (option_and_then (λ p. option_map (λ bytes. p.0 ∷ bytes) (pairs_exactly n between between p.1))) h

pairs_exactly-none : (n : ℕ) (before between : Option ℕ) (text : List ℕ) → next_pair before text ≡ None → pairs_exactly (suc n) before between text ≡ None
unfolding pairs_exactly
pairs_exactly-none n before between text h =
    ap (option_and_then (λ p. option_map (λ bytes. p.0 ∷ bytes) (pairs_exactly n between between p.1))) h

taken_set : (bytes : List ℕ) (i v : ℕ) (later : List ℕ) → i < length bytes → take i bytes ++ (v ∷ later) ≡ take (i + 1) (set bytes i v) ++ later
taken_set bytes i v later h =
    sym (append_assoc (take i bytes) (v ∷ []) later)
    ∙ ap (λ (front : List ℕ). front ++ later) (sym (take-suc-set bytes i v h))
    ∙ ap (λ k. take k (set bytes i v) ++ later) (sym (add-one i))

-- a loop has read i of len bytes, and the answer for the whole text is made of them and of what the rest gives
abbrev pub IsFront : Option (List ℕ) → List ℕ → ℕ → ℕ → Option ℕ → Option ℕ → List ℕ → Type 0
IsFront all bytes len i before between rest =
    all ≡ option_map (λ later. take i bytes ++ later) (pairs_exactly (len - i) before between rest)

-- one more pair
pub pairs_step : (all : Option (List ℕ)) (bytes : List ℕ) (len i : ℕ) (before between : Option ℕ) (rest after : List ℕ) (v : ℕ) → IsFront all bytes len i before between rest → length bytes ≡ len → i < len → next_pair before rest ≡ Some (v, after) → IsFront all (set bytes i v) len (i + 1) between between after
pairs_step all bytes len i before between rest after v front same h next =
    let n = len - (i + 1) in
    let left : len - i ≡ suc n = omega arith in
    front
    ∙ ap (option_map (λ later. take i bytes ++ later))
    (ap (λ k. pairs_exactly k before between rest) left ∙ pairs_exactly-some n before between rest after v next)
    ∙ option_map-map _ _ (pairs_exactly n between between after)
    ∙ option_map-same _ _ (pairs_exactly n between between after) (λ later. taken_set bytes i v later (omega arith))

-- a text that goes on with no pair
pub pairs_stop : (all : Option (List ℕ)) (bytes : List ℕ) (len i : ℕ) (before between : Option ℕ) (rest : List ℕ) → IsFront all bytes len i before between rest → i < len → next_pair before rest ≡ None → all ≡ None
pairs_stop all bytes len i before between rest front h next =
    let left : len - i ≡ suc (len - (i + 1)) = omega arith in
    front
    ∙ ap (option_map (λ later. take i bytes ++ later))
    (ap (λ k. pairs_exactly k before between rest) left ∙ pairs_exactly-none _ before between rest next)

-- behind the last byte nothing stands, or something does
pub pairs_done : (all : Option (List ℕ)) (bytes : List ℕ) (len i : ℕ) (before between : Option ℕ) (rest : List ℕ) → IsFront all bytes len i before between rest → length bytes ≡ len → len ≤ i → length rest ≡ 0 → all ≡ Some bytes
unfolding pairs_exactly
pairs_done all bytes len i before between [] front same h empty =
    let none : len - i ≡ 0 = omega arith in
    front
    ∙ ap (λ k. option_map (λ later. take i bytes ++ later) (pairs_exactly k before between [])) none
    ∙ ap Some (append-nil (take i bytes) ∙ take_all i bytes (omega arith))
pairs_done all bytes len i before between (c ∷ rest) front same h empty = absurd (omega arith)

pub pairs_left : (all : Option (List ℕ)) (bytes : List ℕ) (len i : ℕ) (before between : Option ℕ) (rest : List ℕ) → IsFront all bytes len i before between rest → len ≤ i → 0 < length rest → all ≡ None
unfolding pairs_exactly
pairs_left all bytes len i before between [] front h more = absurd (omega arith)
pairs_left all bytes len i before between (c ∷ rest) front h more =
    let none : len - i ≡ 0 = omega arith in
    front ∙ ap (λ k. option_map (λ later. take i bytes ++ later) (pairs_exactly k before between (c ∷ rest))) none

short_pair : (high low : ℕ) → AllDigits 16 (high ∷ low ∷ []) → short_read 16 2 (high ∷ low ∷ []) ≡ Some (digits_value 16 (high ∷ low ∷ []))
short_pair high low h = short_read-IsNumeral 16 2 (high ∷ low ∷ []) (lit< tt) (lit≤ tt) (lit< tt, h) (lit≤ tt)

next_pair-IsPair : (before : Option ℕ) (pair rest : List ℕ) → IsPair pair → next_pair before (option_to_list before ++ pair ++ rest) ≡ Some (digits_value 16 pair, rest)
unfolding next_pair
next_pair-IsPair before [] rest h = absurd (omega (arith, h.0))
next_pair-IsPair before (high ∷ []) rest h = absurd (omega (arith, h.0))
next_pair-IsPair before (high ∷ low ∷ c ∷ cs) rest h = absurd (omega (arith, h.0))
next_pair-IsPair None (high ∷ low ∷ []) rest h = ap (option_map (λ byte. (byte, rest))) (short_pair high low h.1)
next_pair-IsPair (Some c) (high ∷ low ∷ []) rest h =
    cond-true (eqb c c) _ _ (eq-eqb c c refl) ∙ ap (option_map (λ byte. (byte, rest))) (short_pair high low h.1)

abbrev IsFirst : Option ℕ → List ℕ → List ℕ → ℕ → Type 0
IsFirst before text after v = (pair : List ℕ) × IsPair pair × (text ≡ option_to_list before ++ pair ++ after) × (v ≡ digits_value 16 pair)

digits_first : (high low : ℕ) (rest after : List ℕ) (v : ℕ) → option_map {U = ℕ × List ℕ} (λ byte. (byte, rest)) (short_read 16 2 (high ∷ low ∷ [])) ≡ Some (v, after) → IsFirst None (high ∷ low ∷ rest) after v
digits_first high low rest after v h =
    let (byte, read, same) = option_map_some {B = ℕ × List ℕ} (λ byte. (byte, rest)) (short_read 16 2 (high ∷ low ∷ [])) (v, after) h in
    let digits = IsNumeral-short_read 16 2 (high ∷ low ∷ []) byte read in
    (high ∷ low ∷ [], (refl, digits.0.1), ap (λ p. high ∷ low ∷ p.1) (sym same), ap (λ p. p.0) same ∙ digits.2)

pair_reading : (before : Option ℕ) (text after : List ℕ) (v : ℕ) → next_pair before text ≡ Some (v, after) → IsFirst before text after v
unfolding next_pair
pair_reading None [] after v h = absurd (none-some _ h)
pair_reading None (high ∷ []) after v h = absurd (none-some _ h)
pair_reading None (high ∷ low ∷ rest) after v h = digits_first high low rest after v h
pair_reading (Some c) [] after v h = absurd (none-some _ h)
pair_reading (Some c) (first ∷ []) after v h = absurd (none-some _ h)
pair_reading (Some c) (first ∷ high ∷ []) after v h = absurd (none-some _ h)
pair_reading (Some c) (first ∷ high ∷ low ∷ rest) after v h =
    cond_both (eqb first c) _ None (λ r. r ≡ Some (v, after) → IsFirst (Some c) (first ∷ high ∷ low ∷ rest) after v)
    (λ same r.
    let (pair, digits, text, value) = digits_first high low rest after v r in
    (pair, digits, ap₂ (λ (b : ℕ) (bs : List ℕ). b ∷ bs) (eqb-true first c same) text, value))
    (λ _ r. absurd (none-some _ r)) h

-- pairs, each behind the separator
abbrev pub led : Option ℕ → List (List ℕ) → List ℕ
led separator pairs = flat_map (λ digits. option_to_list separator ++ digits) pairs

led-exactly : (between : Option ℕ) (pairs : List (List ℕ)) → AllByRecursion IsPair pairs → pairs_exactly (length pairs) between between (led between pairs) ≡ Some (map (digits_value 16) pairs)
unfolding pairs_exactly
led-exactly between [] h = refl
led-exactly between (pair ∷ pairs) h =
    pairs_exactly-some (length pairs) between between _ (led between pairs) _ (next_pair-IsPair between pair (led between pairs) h.0)
    ∙ ap (option_map (λ bytes. digits_value 16 pair ∷ bytes)) (led-exactly between pairs h.1)

-- pairs of digits with a separator are read as their bytes
pub pairs_found : (n : ℕ) (between : Option ℕ) (pairs : List (List ℕ)) → AllByRecursion IsPair pairs → length pairs ≡ n → pairs_exactly n None between (pairs_text (record { separator = between; pairs = pairs })) ≡ Some (map (digits_value 16) pairs)
unfolding pairs_exactly
pairs_found n between [] h count = ap (λ k. pairs_exactly k None between []) (sym count)
pairs_found n between (pair ∷ pairs) h count =
    ap (λ k. pairs_exactly k None between (pair ++ led between pairs)) (sym count)
    ∙ pairs_exactly-some (length pairs) None between _ (led between pairs) _ (next_pair-IsPair None pair (led between pairs) h.0)
    ∙ ap (option_map (λ bytes. digits_value 16 pair ∷ bytes)) (led-exactly between pairs h.1)

abbrev pub ArePairs : ℕ → List ℕ → List (List ℕ) → Type 0
ArePairs n bytes pairs = AllByRecursion IsPair pairs × (length pairs ≡ n) × (bytes ≡ map (digits_value 16) pairs)

abbrev IsLed : ℕ → Option ℕ → List ℕ → List ℕ → Type 0
IsLed n between text bytes = (pairs : List (List ℕ)) × ArePairs n bytes pairs × (text ≡ led between pairs)

-- a first pair, and n pairs behind it
abbrev IsFollowed : ℕ → Option ℕ → Option ℕ → List ℕ → List ℕ → Type 0
IsFollowed n before between text bytes =
    (pair : List ℕ) × (pairs : List (List ℕ)) × ArePairs (suc n) bytes (pair ∷ pairs) × (text ≡ option_to_list before ++ pair ++ led between pairs)

followed : (n : ℕ) (before between : Option ℕ) (text bytes : List ℕ) → ((rest later : List ℕ) → pairs_exactly n between between rest ≡ Some later → IsLed n between rest later) → pairs_exactly (suc n) before between text ≡ Some bytes → IsFollowed n before between text bytes
unfolding pairs_exactly
followed n before between text bytes later_led h =
    option_and_then_some (λ p. option_map (λ later. p.0 ∷ later) (pairs_exactly n between between p.1)) (next_pair before text) bytes h (λ p first rest.
    let (pair, digits, start, value) = pair_reading before text p.1 p.0 first in
    let (later, read, same) = option_map_some (λ later. p.0 ∷ later) (pairs_exactly n between between p.1) bytes rest in
    let (pairs, (all, count, values), end) = later_led p.1 later read in
    (pair, pairs, ((digits, all), ap suc count, same ∙ ap₂ (λ (v : ℕ) (vs : List ℕ). v ∷ vs) value values), start ∙ ap (λ t. option_to_list before ++ pair ++ t) end))

led_reading : (n : ℕ) (between : Option ℕ) (text bytes : List ℕ) → pairs_exactly n between between text ≡ Some bytes → IsLed n between text bytes
unfolding pairs_exactly
led_reading zero between [] bytes h = ([], (tt, refl, sym (same_Some _ _ h)), refl)
led_reading zero between (c ∷ text) bytes h = absurd (none-some _ h)
led_reading (suc n) between text bytes h =
    let (pair, pairs, all, same) = followed n between between text bytes (led_reading n between) h in (pair ∷ pairs, all, same)

-- what is read is pairs of digits with the separator
pub pairs_reading : (n : ℕ) (between : Option ℕ) (text bytes : List ℕ) → pairs_exactly n None between text ≡ Some bytes → (pairs : List (List ℕ)) × ArePairs n bytes pairs × (text ≡ pairs_text (record { separator = between; pairs = pairs }))
unfolding pairs_exactly
pairs_reading zero between [] bytes h = ([], (tt, refl, sym (same_Some _ _ h)), refl)
pairs_reading zero between (c ∷ text) bytes h = absurd (none-some _ h)
pairs_reading (suc n) between text bytes h =
    let (pair, pairs, all, same) = followed n None between text bytes (led_reading n between) h in (pair ∷ pairs, all, same)

-- the two digits that are written of a byte
hex_digit_value : (d : ℕ) → d < 16 → digit_value (digit_glyph false d) ≡ d
hex_digit_value d h = digit_value-digit_char d (omega arith)

hex_pair-IsPair : (byte : ℕ) → byte < 256 → IsPair (hex_pair byte)
hex_pair-IsPair byte small =
    let high = hex_digit_value (byte / 16) (omega arith) in
    let low = hex_digit_value (byte % 16) (omega arith) in
    (refl, (omega arith, (omega arith, tt)))

digits_value-hex_pair : (byte : ℕ) → byte < 256 → digits_value 16 (hex_pair byte) ≡ byte
digits_value-hex_pair byte small =
    let high = hex_digit_value (byte / 16) (omega arith) in
    let low = hex_digit_value (byte % 16) (omega arith) in
    omega arith

-- the bytes of an address or the like, as pairs
pub all_hex_pairs : (bytes : List ℕ) → ((i : ℕ) → get_or bytes i 0 < 256) → AllByRecursion IsPair (map hex_pair bytes) × (map (digits_value 16) (map hex_pair bytes) ≡ bytes)
all_hex_pairs [] small = (tt, refl)
all_hex_pairs (byte ∷ bytes) small =
    let rest = all_hex_pairs bytes (λ i. small (suc i)) in
    ((hex_pair-IsPair byte (small 0), rest.0), ap₂ (λ (v : ℕ) (vs : List ℕ). v ∷ vs) (digits_value-hex_pair byte (small 0)) rest.1)
