-- Numbers in the byte order of a file or section.
use Rattle.std.specs.Prelude.{ℕ, Bool, List, drop, if◌then◌else◌}
use Rattle.byteorder.specs.Endian.{big_number, little_number}

-- the number that the first n bytes spell, the lowest byte first where little
abbrev pub number_in : Bool → ℕ → List ℕ → ℕ
number_in little n bytes = if little then little_number n bytes else big_number n bytes

-- the number of so many bytes at a place
abbrev pub number_at : Bool → ℕ → ℕ → List ℕ → ℕ
number_at little size place bytes = number_in little size (drop place bytes)
