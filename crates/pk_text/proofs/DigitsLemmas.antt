-- What `digits_read` answers, in the words of std's `parse`.
use Rattle.std.proofs.Common.{◌≡◌, ℕ, ◌+◌, ◌^◌, ◌<◌, ◌≤◌, true, ◌&&◌, List, [], ◌∷◌, ltb, leb, length, get_or, take, Option, Some, None, option_and_then, refl, sym, ap, ◌∙◌, arith, inl, inr}
use Rattle.std.specs.Char.{is_digit, digit_value}
use Rattle.std.specs.Str.Parse.{AllDigits, IsNumeral, digits_value}
use Rattle.std.proofs.lemmas.Bool.{cases_lt, and_parts, ltb-true, leb-true, le-leb, lt-ltb, cond_both, cond-true}
use Rattle.std.proofs.lemmas.Bool.Decides.{nat_tests}
use Rattle.std.specs.Fmt.{decimal}
use Rattle.std.proofs.lemmas.Fmt.{IsAscii-decimal, decimal_digit, first_decimal}
use Rattle.std.proofs.lemmas.Str.Ascii.{All-from_ascii}
use Rattle.std.specs.List.{All}
use Rattle.std.proofs.lemmas.Option.{cond_some, none-some, same_Some}
use Rattle.std.proofs.lemmas.Int.Digits.{digits_value-lt}
use Rattle.std.proofs.Math.Nat.{pow-le-pow_right}
use Rattle.std.proofs.lemmas.List.Folds.{list_all_more}
use Rattle.pk_text.specs.declared.number.Wide.{Wide}
use Rattle.pk_text.specs.declared.number.Wide.TheVariants.{Fits, Beyond}
use Rattle.pk_text.specs.Digits.{fitting, wide, are_digits, digits_read, short_read}

are_digits-from_AllDigits : (radix : ℕ) (ds : List ℕ) → AllDigits radix ds → are_digits radix ds ≡ true
are_digits-from_AllDigits radix [] h = refl
are_digits-from_AllDigits radix (c ∷ cs) h =
    let later = are_digits-from_AllDigits radix cs h.1 in let here = h.0 in grind (arith, nat_tests)

AllDigits-from_are_digits : (radix : ℕ) (ds : List ℕ) → are_digits radix ds ≡ true → AllDigits radix ds
AllDigits-from_are_digits radix [] h = tt
AllDigits-from_are_digits radix (c ∷ cs) h =
    let both = and_parts (is_digit c radix) (are_digits radix cs) h in
    (ltb-true _ _ both.0, AllDigits-from_are_digits radix cs both.1)

pub digits_read-IsNumeral : (radix : ℕ) (ds : List ℕ) → IsNumeral radix ds → digits_read radix ds ≡ Some (wide (digits_value radix ds))
unfolding digits_read
digits_read-IsNumeral radix ds h =
    let each = are_digits-from_AllDigits radix ds h.1 in let some = h.0 in grind (arith, nat_tests)

pub IsNumeral-digits_read : (radix : ℕ) (ds : List ℕ) (w : Wide) → digits_read radix ds ≡ Some w → IsNumeral radix ds × (w ≡ wide (digits_value radix ds))
unfolding digits_read
IsNumeral-digits_read radix ds w h =
    let read = cond_some (ltb 0 (length ds) && are_digits radix ds) _ _ h in
    let both = and_parts (ltb 0 (length ds)) (are_digits radix ds) read.0 in
    ((ltb-true _ _ both.0, AllDigits-from_are_digits radix ds both.1), sym read.1)

wide_fits : (v n : ℕ) → wide v ≡ Fits n → n ≡ v
wide_fits v n h =
    cond_both (ltb v (2 ^ 64)) (Fits v) Beyond (λ w. w ≡ Fits n → n ≡ v) (λ _ e. cc) (λ _ e. absurd (beyond_fits e)) h
  where
    beyond_fits : Beyond ≡ Fits n → ⊥
    beyond_fits e = cc

fitting-wide : (v : ℕ) → v < 2 ^ 64 → fitting (wide v) ≡ Some v
fitting-wide v small = ap fitting (cond-true (ltb v (2 ^ 64)) (Fits v) Beyond (lt-ltb v (2 ^ 64) small))

-- the number of at most so many digits
pub fits_below : (radix most : ℕ) (ds : List ℕ) (n : ℕ) → 0 < radix → digits_read radix ds ≡ Some (Fits n) → length ds ≤ most → n < radix ^ most
fits_below radix most ds n low h short =
    let read = IsNumeral-digits_read radix ds (Fits n) h in
    let same = wide_fits _ n (sym read.1) in
    let below = digits_value-lt radix ds read.0.1 in
    let more = pow-le-pow_right low short in
    omega arith

pub short_read-IsNumeral : (radix most : ℕ) (ds : List ℕ) → 0 < radix → radix ^ most ≤ 2 ^ 64 → IsNumeral radix ds → length ds ≤ most → short_read radix most ds ≡ Some (digits_value radix ds)
unfolding short_read
short_read-IsNumeral radix most ds low fits h short =
    let below = digits_value-lt radix ds h.1 in
    let more = pow-le-pow_right low short in
    cond-true (leb (length ds) most) _ _ (le-leb (length ds) most short)
    ∙ ap (option_and_then fitting) (digits_read-IsNumeral radix ds h) ∙ fitting-wide (digits_value radix ds) (omega arith)

fitting_only : (r : Option Wide) (n : ℕ) → option_and_then fitting r ≡ Some n → r ≡ Some (Fits n)
fitting_only None n h = absurd (none-some n h)
fitting_only (Some (Fits m)) n h = ap (λ k. Some (Fits k)) (same_Some m n h)
fitting_only (Some Beyond) n h = absurd (none-some n h)

pub IsNumeral-short_read : (radix most : ℕ) (ds : List ℕ) (n : ℕ) → short_read radix most ds ≡ Some n → IsNumeral radix ds × (length ds ≤ most) × (n ≡ digits_value radix ds)
unfolding short_read
IsNumeral-short_read radix most ds n h =
    cond_both (leb (length ds) most) _ None (λ r. r ≡ Some n → IsNumeral radix ds × (length ds ≤ most) × (n ≡ digits_value radix ds))
    (λ short r.
    let read = IsNumeral-digits_read radix ds (Fits n) (fitting_only _ n r) in
    (read.0, leb-true _ _ short, wide_fits _ n (sym read.1)))
    (λ _ r. absurd (none-some n r)) h

-- one more digit, at a step of a loop
pub are_digits_more : (radix : ℕ) (ds : List ℕ) (i : ℕ) → i < length ds → are_digits radix (take i ds) ≡ true → digit_value (get_or ds i 0) < radix → are_digits radix (take (i + 1) ds) ≡ true
are_digits_more radix ds i h front digit =
    let e = list_all_more (λ c. is_digit c radix) ds i 0 h in grind (arith, nat_tests)

-- a number that is written with a leading zero is the zero
pub decimal_leading : (n : ℕ) → n < 2 ^ 64 → get_or (decimal n) 0 0 ≡ 48 → length (decimal n) ≡ 1
decimal_leading n small e =
    elim (cases_lt 0 n) [
      | inl above ↦ absurd (omega (arith, e, first_decimal n above small))
      | inr zero ↦ ap length (decimal_digit n (omega arith))
    ]

pub decimal_ascii : (n : ℕ) → n < 2 ^ 64 → All (λ digit. digit < 128) (decimal n)
decimal_ascii n small = All-from_ascii (decimal n) (IsAscii-decimal n small)
