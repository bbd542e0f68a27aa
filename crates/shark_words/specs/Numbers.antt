-- Numbers in values: decimal digits without a leading zero, `0` itself aside.
use Rattle.std.specs.Prelude.{ℕ, ◌==◌, nat_le, nat_lt, Bool, false, ◌&&◌, List, ◌∷◌, Option, Some, None, option_and_then, if◌then◌else◌}
use Rattle.std.specs.List.{position_from}
use Rattle.pk_text.specs.Digits.{digits_read, fitting}

-- whether the first of several digits is a zero, 48
abbrev pub has_leading_zero : List ℕ → Bool
has_leading_zero (first ∷ second ∷ rest) = first == 48
has_leading_zero text = false

-- the number, where 64 bits hold it
unfoldable pub decimal_of : List ℕ → Option ℕ
decimal_of text =
    if has_leading_zero text then None else option_and_then fitting (digits_read 10 text)

-- a number that is no greater than another
abbrev pub at_most : ℕ → ℕ → Option ℕ
at_most most number = if nat_le number most then Some number else None

-- such a number from 1 on
abbrev pub up_to : ℕ → ℕ → Option ℕ
up_to most number = if nat_lt 0 number && nat_le number most then Some number else None

-- the place of the first comma, 44
abbrev pub comma_in : List ℕ → Option ℕ
comma_in text = position_from (λ b. b == 44) 0 text
