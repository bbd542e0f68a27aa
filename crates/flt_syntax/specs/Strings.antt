-- The strings of a filter's text: `"`, then bytes or escapes, then `"`; and raw ones: `r"`, then bytes, then `"`.
use Rattle.std.specs.Prelude.{ℕ, zero, suc, ◌+◌, ◌-◌, ◌*◌, ◌==◌, ◌&&◌, if◌then◌else◌, List, [], ◌∷◌, take, position, Option, Some, None}
use Rattle.std.specs.Char.{is_digit, digit_value}
use Rattle.std.specs.Option.{option_map}

-- two hexadecimal digits behind `\x`
abbrev pub hex_byte : List ℕ → Option (ℕ × ℕ)
hex_byte (high ∷ low ∷ rest) =
    if is_digit high 16 && is_digit low 16 then Some (digit_value high * 16 + digit_value low, 4)
    else None
hex_byte _ = None

-- behind the backslash: `\\`, `\"`, `\n`, `\r`, `\t`, `\xHH`
abbrev pub escape : List ℕ → Option (ℕ × ℕ)
escape [] = None
escape (c ∷ rest) =
    if c == 92 then Some (92, 2)
    else if c == 34 then Some (34, 2)
    else if c == 110 then Some (10, 2)
    else if c == 114 then Some (13, 2)
    else if c == 116 then Some (9, 2)
    else if c == 120 then hex_byte rest
    else None

-- the first byte that the inside of a string stands for, and how many bytes spell it; 92 is the backslash
abbrev pub piece : List ℕ → Option (ℕ × ℕ)
piece [] = None
piece (b ∷ rest) = if b == 92 then escape rest else Some (b, 1)

-- a byte that is spelled by some bytes in front of the rest
abbrev pub with_piece : Option (ℕ × ℕ) → (ℕ → Option (List ℕ × ℕ)) → Option (List ℕ × ℕ)
with_piece None rest = None
with_piece (Some p) rest = option_map (λ s. (p.0 ∷ s.0, s.1 + 1)) (rest (p.1 - 1))

-- the bytes that stand up to the closing `"`, read from behind the opening one, and how many bytes spell them, the
-- closing one included; nothing where the string doesn't end, or has another escape. So many bytes in front belong
-- to what was read before
abbrev pub string_inside : ℕ → List ℕ → Option (List ℕ × ℕ)
string_inside skip [] = None
string_inside (suc skip) (b ∷ rest) = option_map (λ s. (s.0, s.1 + 1)) (string_inside skip rest)
string_inside zero (b ∷ rest) =
    if b == 34 then Some ([], 1)
    else with_piece (piece (b ∷ rest)) (λ skip. string_inside skip rest)

-- the same for a raw string, which has no escapes
abbrev pub raw_inside : List ℕ → Option (List ℕ × ℕ)
raw_inside bytes = option_map (λ n. (take n bytes, n + 1)) (position (λ b. b == 34) bytes)
