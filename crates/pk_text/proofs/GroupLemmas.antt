-- The hexadecimal digits of a group of an IPv6 address.
use Rattle.std.proofs.Common.{◌≡◌, ℕ, ◌/◌, ◌%◌, ◌<◌, ◌≤◌, false, [], ◌∷◌, refl, arith}
use Rattle.std.specs.Fmt.{digits, digit_glyph}
use Rattle.std.proofs.lemmas.Bool.{ne_eqb, eq-eqb}
use Rattle.std.proofs.lemmas.Fmt.{hex_one_digit, hex_two_digits}

abbrev glyph : ℕ → ℕ
glyph n = digit_glyph false n

-- as the bytes of a group have them
pub one_digit : (n : ℕ) → n < 16 → digits 16 false n ≡ glyph (n % 256 % 16) ∷ []
one_digit n small = let same : n % 256 % 16 ≡ n = omega arith in rw same (hex_one_digit false n small)

pub two_digits : (n : ℕ) → 16 ≤ n → n < 256 → digits 16 false n ≡ glyph (n % 256 / 16) ∷ glyph (n % 256 % 16) ∷ []
two_digits n least most = let same : n % 256 ≡ n = omega arith in rw same (hex_two_digits false n least most)

pub three_digits : (n : ℕ) → 256 ≤ n → n < 4096 → digits 16 false n ≡ glyph (n / 256 % 16) ∷ glyph (n % 256 / 16) ∷ glyph (n % 256 % 16) ∷ []
unfolding digits
three_digits n least most =
    let first : n / 16 / 16 % 16 ≡ n / 256 % 16 = omega arith in
    let second : n / 16 % 16 ≡ n % 256 / 16 = omega arith in
    let third : n % 16 ≡ n % 256 % 16 = omega arith in
    rw (ne_eqb (n / 16) 0 (λ e. omega arith), ne_eqb (n / 16 / 16) 0 (λ e. omega arith), eq-eqb (n / 16 / 16 / 16) 0 (omega arith), first, second, third) refl

pub four_digits : (n : ℕ) → 4096 ≤ n → n < 65536 → digits 16 false n ≡ glyph (n / 256 / 16) ∷ glyph (n / 256 % 16) ∷ glyph (n % 256 / 16) ∷ glyph (n % 256 % 16) ∷ []
unfolding digits
four_digits n least most =
    let first : n / 16 / 16 / 16 % 16 ≡ n / 256 / 16 = omega arith in
    let second : n / 16 / 16 % 16 ≡ n / 256 % 16 = omega arith in
    let third : n / 16 % 16 ≡ n % 256 / 16 = omega arith in
    let fourth : n % 16 ≡ n % 256 % 16 = omega arith in
    rw (ne_eqb (n / 16) 0 (λ e. omega arith), ne_eqb (n / 16 / 16) 0 (λ e. omega arith), ne_eqb (n / 16 / 16 / 16) 0 (λ e. omega arith), eq-eqb (n / 16 / 16 / 16 / 16) 0 (omega arith), first, second, third, fourth) refl
