-- The number of one to nine digits fits 32 bits, at each of its digits.
use Rattle.std.proofs.Common.{◌≡◌, ℕ, zero, suc, ◌+◌, ◌-◌, ◌*◌, ◌^◌, ◌<◌, ◌≤◌, true, ◌&&◌, List, [], ◌∷◌, ltb, leb, length, get_or, take, length-take, sym, ap, ◌∙◌, arith}
use Rattle.std.specs.Char.{is_ascii_digit, digit_value}
use Rattle.std.specs.Int.{IsInRange}
use Rattle.std.proofs.lemmas.Str.Parse.{digit_at}
use Rattle.std.specs.List.{list_all}
use Rattle.std.specs.Str.Parse.{AllDigits, digits_value}
use Rattle.std.proofs.lemmas.Bool.{and_parts, leb-true}
use Rattle.std.proofs.lemmas.Bool.Decides.{nat_tests}
use Rattle.std.proofs.lemmas.Int.Digits.{digits_value-lt, digits_value_more}
use Rattle.std.proofs.Math.Nat.{pow-le-pow_right}
use Rattle.flt_syntax.specs.Letters.{is_number}

digit : (c : ℕ) → is_ascii_digit c ≡ true → (digit_value c ≡ c - 48) × (48 ≤ c) × (c < 58)
digit c h = grind (arith, nat_tests)

all_digits : (ds : List ℕ) → list_all is_ascii_digit ds ≡ true → AllDigits 10 ds
all_digits [] h = tt
all_digits (c ∷ cs) h =
    let both = and_parts (is_ascii_digit c) (list_all is_ascii_digit cs) h in
    let here = digit c both.0 in (rw (here.0) (omega arith), all_digits cs both.1)

front : (i : ℕ) (ds : List ℕ) → AllDigits 10 ds → AllDigits 10 (take i ds)
front zero ds h = tt
front (suc i) [] h = tt
front (suc i) (c ∷ cs) h = (h.0, front i cs h.1)

parts : (ds : List ℕ) → is_number ds ≡ true → (length ds ≤ 9) × AllDigits 10 ds
parts ds h =
    let both = and_parts (ltb 0 (length ds)) (leb (length ds) 9 && list_all is_ascii_digit ds) h in
    let more = and_parts (leb (length ds) 9) (list_all is_ascii_digit ds) both.1 in
    (leb-true _ _ more.0, all_digits ds more.1)

value_at : (c : ℕ) → IsInRange 48 57 c → digit_value c ≡ c - 48
value_at c h = let low : 48 ≤ c = h.0 in let high : c ≤ 57 = h.1 in grind (arith, nat_tests)

pub number_more : (ds : List ℕ) (i : ℕ) → is_number ds ≡ true → i < length ds → digits_value 10 (take i ds) * 10 + (get_or ds i 0 - 48) ≡ digits_value 10 (take (i + 1) ds)
number_more ds i h below =
    let at = digit_at ds i (parts ds h).1 below in
    ap (λ n. digits_value 10 (take i ds) * 10 + n) (sym (value_at _ at)) ∙ sym (digits_value_more 10 ds i below)

pub number_fits : (ds : List ℕ) (i : ℕ) → is_number ds ≡ true → i < length ds → (digits_value 10 (take i ds) * 10 + (get_or ds i 0 - 48) < 2 ^ 32) × (48 ≤ get_or ds i 0)
number_fits ds i h below =
    let all = parts ds h in
    let at = digit_at ds i all.1 below in
    let small = digits_value-lt 10 (take (i + 1) ds) (front (i + 1) ds all.1) in
    let length_small : length (take (i + 1) ds) ≤ 9 = omega (arith, length-take (i + 1) ds, all.0) in
    let ten : 0 < 10 = omega arith in
    let most : 10 ^ length (take (i + 1) ds) ≤ 10 ^ 9 = pow-le-pow_right ten length_small in
    let same = number_more ds i h below in
    (omega arith, at.0)
