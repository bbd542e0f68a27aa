-- Digits in a radix, the highest first, and the number that they write.
use Rattle.std.specs.Prelude.{ℕ, ◌/◌, ◌%◌, ◌^◌, Bool, false, ◌&&◌, nat_lt, nat_le, if◌then◌else◌, List, [], ◌∷◌, length, Option, Some, None, option_and_then}
use Rattle.std.specs.List.{flat_map, list_all}
use Rattle.std.specs.Char.{is_digit}
use Rattle.std.specs.Fmt.{digit_glyph}
use Rattle.std.specs.Str.Parse.{digits_value}
use Rattle.pk_text.specs.declared.number.Wide.{Wide}
use Rattle.pk_text.specs.declared.number.Wide.TheVariants.{Fits, Beyond}

-- a number as far as it fits 64 bits
abbrev pub wide : ℕ → Wide
wide n = if nat_lt n (2 ^ 64) then Fits n else Beyond

-- each byte is a digit
abbrev pub are_digits : ℕ → List ℕ → Bool
are_digits radix ds = list_all (λ c. is_digit c radix) ds

-- the number that a text of digits writes, which has at least one and nothing else
unfoldable pub digits_read : ℕ → List ℕ → Option Wide
digits_read radix ds = if nat_lt 0 (length ds) && are_digits radix ds
    then Some (wide (digits_value radix ds)) else None

-- the number where it fits 64 bits
abbrev pub fitting : Wide → Option ℕ
fitting (Fits n) = Some n
fitting Beyond = None

-- the number that a text of at most so many digits writes
unfoldable pub short_read : ℕ → ℕ → List ℕ → Option ℕ
short_read radix most ds =
    if nat_le (length ds) most then option_and_then fitting (digits_read radix ds) else None

-- a byte as two lower-case hexadecimal digits
abbrev pub hex_pair : ℕ → List ℕ
hex_pair byte = digit_glyph false (byte / 16) ∷ digit_glyph false (byte % 16) ∷ []

-- bytes in lower-case hexadecimal, two digits for each
unfoldable pub hex_shown : List ℕ → List ℕ
hex_shown bytes = flat_map hex_pair bytes
