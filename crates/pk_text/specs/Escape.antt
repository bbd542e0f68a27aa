-- Bytes as a text of printable ASCII.
use Rattle.std.specs.Prelude.{ℕ, ◌==◌, Bool, not, ◌&&◌, nat_le, if◌then◌else◌, List, [], ◌∷◌}
use Rattle.std.specs.List.{flat_map}
use Rattle.pk_text.specs.Digits.{hex_pair}

-- a byte: the backslash, 92, is doubled; the others from 0x20 to 0x7E stand as they are; the rest is `\x` and two digits
abbrev pub escape_byte : ℕ → List ℕ
escape_byte byte =
    if byte == 92 then 92 ∷ 92 ∷ []
    else if nat_le 0x20 byte && nat_le byte 0x7E then byte ∷ []
    else 92 ∷ 120 ∷ hex_pair byte

-- whether a byte stands as it is
abbrev pub is_plain : ℕ → Bool
is_plain byte = (nat_le 0x20 byte && nat_le byte 0x7E) && not (byte == 92)

-- each byte in turn
unfoldable pub escaped : List ℕ → List ℕ
escaped bytes = flat_map escape_byte bytes
