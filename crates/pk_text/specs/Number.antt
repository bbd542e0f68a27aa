-- The texts of a number: decimal digits without a leading zero, or `0x` and hexadecimal digits.
use Rattle.std.specs.Prelude.{◌≡◌, ℕ, List, ◌∷◌, ◌++◌, codes, length, slice_index, Option, None, if◌then◌else◌, ◌==◌}
use Rattle.std.specs.Str.Parse.{IsNumeral, digits_value}
use Rattle.pk_text.specs.declared.number.Wide.{Wide}
use Rattle.pk_text.specs.Digits.{digits_read}

-- a number as it is written: its digits, in one of two radices
pub data NumberForm : Type 0 where
  Decimal : List ℕ → NumberForm
  Hexadecimal : List ℕ → NumberForm

-- the digits are digits of the radix, at least one; of decimal ones the first is no zero where another follows
abbrev pub IsNumberForm : NumberForm → Type 0
IsNumberForm (Decimal ds) = IsNumeral 10 ds × (slice_index ds 0 ≡ 48 → length ds ≡ 1)
IsNumberForm (Hexadecimal ds) = IsNumeral 16 ds

-- the text
abbrev pub number_form_text : NumberForm → List ℕ
number_form_text (Decimal ds) = ds
number_form_text (Hexadecimal ds) = codes "0x" ++ ds

-- the number
abbrev pub number_form_value : NumberForm → ℕ
number_form_value (Decimal ds) = digits_value 10 ds
number_form_value (Hexadecimal ds) = digits_value 16 ds

-- the number that a text writes, computed; 48 is `0`, 120 is `x`
unfoldable pub number_of : List ℕ → Option Wide
number_of (first ∷ letter ∷ digits) =
    if first == 48 then (if letter == 120 then digits_read 16 digits else None)
    else digits_read 10 (first ∷ letter ∷ digits)
number_of digits = digits_read 10 digits
