-- The resolution of an interface's clock: draft-ietf-opsawg-pcapng, section 4.2, if_tsresol.
use Rattle.std.specs.Prelude.{ℕ, ◌-◌, ◌^◌, nat_lt, if◌then◌else◌, Option, Some, None}

-- units of 10^-n seconds, of which a second has 10^n
abbrev pub decimal_rate : ℕ → Option ℕ
decimal_rate n = if nat_lt 18 n then None else Some (10 ^ n)

-- units of 2^-n seconds
abbrev pub binary_rate : ℕ → Option ℕ
binary_rate n = if nat_lt 63 n then None else Some (2 ^ n)

-- how many ticks make a second, or nothing where they are too fine: the low seven bits of the resolution are n, and its
-- top bit says which of the two
abbrev pub ticks_per_second : ℕ → Option ℕ
ticks_per_second resolution =
    if nat_lt resolution 128 then decimal_rate resolution else binary_rate (resolution - 128)
