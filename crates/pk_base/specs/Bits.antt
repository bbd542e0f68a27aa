-- The bits of a byte list: bit 0 is the most significant bit of byte 0, as the RFCs draw their headers
-- (RFC 791, appendix B).
use Rattle.std.specs.Prelude.{ℕ, zero, suc, ◌+◌, ◌*◌, ◌/◌, ◌%◌, ◌-◌, ◌^◌, List, slice_index}

-- the bit at place i
abbrev pub bit_of : List ℕ → ℕ → ℕ
bit_of bytes i = slice_index bytes (i / 8) / 2 ^ (7 - i % 8) % 2

-- f 0 + f 1 + .. + f (n - 1)
unfoldable pub sum_below : ℕ → (ℕ → ℕ) → ℕ
sum_below zero f = 0
sum_below (suc n) f = sum_below n f + f n

-- the number that width bits from first on spell, the most significant first
unfoldable pub number_of_bits : List ℕ → ℕ → ℕ → ℕ
number_of_bits bytes first width =
    sum_below width (λ j. bit_of bytes (first + j) * 2 ^ (width - 1 - j))
