-- The sizes of chunks.
use Rattle.std.proofs.Common.{◌≡◌, ℕ, ◌^◌, ◌<◌, ◌≤◌, true, false, Bool, List, [], ◌∷◌, length, take, refl, sym, ◌∙◌, arith, one-add, length-take, subst, ⊎_elim, ◌||◌}
use Rattle.std.specs.List.{prefix_len}
use Rattle.std.specs.Char.{digit_value, is_ascii_hexdigit}
use Rattle.std.specs.Int.{is_in_range}
use Rattle.std.specs.Str.Parse.{AllDigits, digits_value}
use Rattle.std.proofs.lemmas.Bool.{cond-true, cond-false, or_cases}
use Rattle.std.proofs.lemmas.Int.Digits.{digits_value-lt}
use Rattle.std.proofs.Math.Nat.{pow-le-pow_right}

in_range : (low high b : ℕ) → is_in_range low high b ≡ true → (low ≤ b) × (b ≤ high)
in_range low high b e = grind arith

hex_number : (b : ℕ) → (48 ≤ b) × (b ≤ 57) → digit_value b < 16
hex_number b p = let low = p.0 in let high = p.1 in grind arith

hex_upper : (b : ℕ) → (65 ≤ b) × (b ≤ 70) → digit_value b < 16
hex_upper b p = let low = p.0 in let high = p.1 in grind arith

hex_lower : (b : ℕ) → (97 ≤ b) × (b ≤ 102) → digit_value b < 16
hex_lower b p = let low = p.0 in let high = p.1 in grind arith

hex_is : (b : ℕ) → is_ascii_hexdigit b ≡ true → digit_value b < 16
hex_is b e =
    ⊎_elim
    (λ f. ⊎_elim (λ g. hex_number b (in_range 48 57 b g)) (λ g. hex_upper b (in_range 65 70 b g)) (or_cases (is_in_range 48 57 b) (is_in_range 65 70 b) f))
    (λ f. hex_lower b (in_range 97 102 b f))
    (or_cases (is_in_range 48 57 b || is_in_range 65 70 b) (is_in_range 97 102 b) e)

pub hex_digits : (line : List ℕ) → AllDigits 16 (take (prefix_len is_ascii_hexdigit line) line)
hex_digits [] = tt
hex_digits (b ∷ line) = by (hex_digits line) (is_ascii_hexdigit b) refl
  where
    by : AllDigits 16 (take (prefix_len is_ascii_hexdigit line) line) → (t : Bool) → is_ascii_hexdigit b ≡ t → AllDigits 16 (take (prefix_len is_ascii_hexdigit (b ∷ line)) (b ∷ line))
    by go true e = subst (λ (n : ℕ). AllDigits 16 (take n (b ∷ line))) (sym (cond-true _ _ _ e ∙ one-add _)) (hex_is b e, go)
    by go false e = subst (λ (n : ℕ). AllDigits 16 (take n (b ∷ line))) (sym (cond-false _ _ _ e)) tt

pub hex_fits : (line : List ℕ) → prefix_len is_ascii_hexdigit line ≤ 8 → digits_value 16 (take (prefix_len is_ascii_hexdigit line) line) < 2 ^ 32
hex_fits line few =
    let digits : List ℕ = take (prefix_len is_ascii_hexdigit line) line in
    let less = digits_value-lt 16 digits (hex_digits line) in
    let short : length digits ≤ 8 = omega (arith, length-take (prefix_len is_ascii_hexdigit line) line) in
    let most : 16 ^ length digits ≤ 16 ^ 8 = pow-le-pow_right {n = 16} (omega arith) short in
    omega (arith, less, most)

pub counted_fits : (line : List ℕ) (n : ℕ) → n ≡ prefix_len is_ascii_hexdigit line → n ≤ 8 → digits_value 16 (take n line) < 2 ^ 32
counted_fits line n e few =
    subst (λ (k : ℕ). digits_value 16 (take k line) < 2 ^ 32) (sym e) (hex_fits line (omega arith))
