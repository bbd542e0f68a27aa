-- Numbers as bytes, in the byte order of a file.
use Rattle.std.specs.Prelude.{ℕ, Bool, List, if◌then◌else◌}
use Rattle.byteorder.specs.Endian.{big_bytes, little_bytes}
use Rattle.capture_write.specs.declared.numbers.Number.{Number}
use Rattle.capture_write.specs.declared.numbers.Number.TheVariants.{Two, Four, Eight}

-- the lowest n bytes of a number, the lowest first where little
abbrev pub bytes_in : Bool → ℕ → ℕ → List ℕ
bytes_in little n x = if little then little_bytes n x else big_bytes n x

-- a number in as many bytes as it has
abbrev pub number_bytes : Bool → Number → List ℕ
number_bytes little (Two n) = bytes_in little 2 n
number_bytes little (Four n) = bytes_in little 4 n
number_bytes little (Eight n) = bytes_in little 8 n
