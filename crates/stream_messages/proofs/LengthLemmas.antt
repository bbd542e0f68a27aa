-- The numbers that digits write.
use Rattle.std.proofs.Common.{◌≡◌, ℕ, zero, suc, ◌+◌, ◌*◌, ◌^◌, ◌≤◌, ◌<◌, Bool, true, List, [], ◌∷◌, length, get_or, take, sym, ap, ◌∙◌, arith}
use Rattle.std.specs.Prelude.{nat_le}
use Rattle.std.specs.List.{list_all}
use Rattle.std.specs.Char.{digit_value, is_ascii_digit}
use Rattle.std.specs.Str.Parse.{AllDigits, digits_value}
use Rattle.std.proofs.lemmas.Bool.{and_parts}
use Rattle.std.proofs.lemmas.Int.Digits.{digits_value-lt, digits_value_more}
use Rattle.std.proofs.lemmas.Str.Parse.{digits_value-take-le}
use Rattle.std.proofs.Math.Nat.{pow-le-pow_right}
use Rattle.std.specs.Prelude.{map}
use Rattle.std.specs.List.{fold}
use Rattle.std.proofs.lemmas.List.{take_more, map-append}
use Rattle.std.proofs.lemmas.List.Sums.{fold_push}
use Rattle.std.specs.Bool.{Decides}
use Rattle.std.specs.Str.{str_eq_ignore_ascii_case, str_to_ascii_lowercase}
use Rattle.std.proofs.lemmas.Bool.Decides.{same_from_decides}
use Rattle.std.proofs.lemmas.Slice.Eq.{bytes_eq-Decides}
use Rattle.stream_messages.specs.Fields.{is_length}

pub digits_step : (radix : ℕ) (ds : List ℕ) (i number : ℕ) → 1 ≤ radix → i < length ds → number ≡ digits_value radix (take i ds)
    → number * radix + digit_value (get_or ds i 0) ≡ digits_value radix (take (i + 1) ds)
digits_step radix ds i number some inside e =
    ap (λ (n : ℕ). n * radix + digit_value (get_or ds i 0)) e ∙ sym (digits_value_more radix ds i inside)

pub digits_fit : (radix : ℕ) (ds : List ℕ) (i number : ℕ) → 1 ≤ radix → i < length ds → number ≡ digits_value radix (take i ds)
    → digits_value radix ds < 2 ^ 64 → number * radix + digit_value (get_or ds i 0) < 2 ^ 64
digits_fit radix ds i number some inside e fit =
    omega (arith, digits_step radix ds i number some inside e, digits_value-take-le radix ds (i + 1) some)

pub digit_at : (radix : ℕ) (ds : List ℕ) (i : ℕ) → AllDigits radix ds → i < length ds → digit_value (get_or ds i 0) < radix
digit_at radix [] i all inside = absurd (omega arith)
digit_at radix (d ∷ ds) zero all inside = all.0
digit_at radix (d ∷ ds) (suc i) all inside = digit_at radix ds i all.1 (omega arith)

digit_is : (b : ℕ) → is_ascii_digit b ≡ true → digit_value b < 10
digit_is b e = grind arith

pub all_digits : (ds : List ℕ) → list_all is_ascii_digit ds ≡ true → AllDigits 10 ds
all_digits [] e = tt
all_digits (d ∷ ds) e = let p = and_parts _ _ e in (digit_is d p.0, all_digits ds p.1)

pub length_fits : (value : List ℕ) → length value ≤ 18 → AllDigits 10 value → digits_value 10 value < 2 ^ 64
length_fits value few all =
    let less = digits_value-lt 10 value all in
    let most : 10 ^ length value ≤ 10 ^ 18 = pow-le-pow_right {n = 10} (omega arith) few in
    omega (arith, less, most)

pub length_says : (value : List ℕ) → is_length value ≡ true → AllDigits 10 value × (digits_value 10 value < 2 ^ 64)
length_says value e =
    let p = and_parts _ _ e in
    let q = and_parts _ _ p.1 in
    let few : length value ≤ 18 = most _ _ q.0 in
    let digits = all_digits value q.1 in
    (digits, length_fits value few digits)
  where
    most : (a b : ℕ) → nat_le a b ≡ true → a ≤ b
    most a b e = grind arith

-- a fold over what each element gives, one element further
pub fold_next : {A B C : Type 0} (f : C → B → C) (a : C) (g : A → B) (xs : List A) (i : ℕ) (d : A) → i < length xs
    → fold f a (map g (take (i + 1) xs)) ≡ f (fold f a (map g (take i xs))) (g (get_or xs i d))
fold_next {A} f a g xs i d inside =
    ap (λ (t : List A). fold f a (map g t)) (take_more xs i d inside)
    ∙ ap (fold f a) (map-append g (take i xs) (get_or xs i d ∷ []))
    ∙ fold_push f a (map g (take i xs)) (g (get_or xs i d))

pub as_wanted : (r : Bool) (a b : List ℕ) → Decides r (str_to_ascii_lowercase a ≡ str_to_ascii_lowercase b) → r ≡ str_eq_ignore_ascii_case a b
as_wanted r a b d = same_from_decides r (str_eq_ignore_ascii_case a b) d (bytes_eq-Decides (str_to_ascii_lowercase a) (str_to_ascii_lowercase b))
