-- How large numbers of some bytes are.
use Rattle.std.proofs.Common.{◌<◌, ℕ, zero, suc, ◌^◌, Bool, true, false, List, [], ◌∷◌, drop, slice_index, arith}
use Rattle.byteorder.specs.Numbers.{big_from-lt, little_from-lt}
use Rattle.pk_base.specs.Endian.{number_in, number_at}

-- bytes that are left are bytes
bytes-drop : (n : ℕ) (bytes : List ℕ) → ((k : ℕ) → slice_index bytes k < 256) → (k : ℕ) → slice_index (drop n bytes) k < 256
bytes-drop zero bytes are k = are k
bytes-drop (suc n) [] are k = omega arith
bytes-drop (suc n) (b ∷ rest) are k = bytes-drop n rest (λ i. are (suc i)) k

number_in-small : (little : Bool) (n : ℕ) (bytes : List ℕ) → ((k : ℕ) → slice_index bytes k < 256) → number_in little n bytes < 256 ^ n
number_in-small true n bytes are = little_from-lt 0 n bytes are
number_in-small false n bytes are = big_from-lt 0 n bytes are

-- a number of so many bytes at a place
pub number_at-small : (little : Bool) (n place : ℕ) (bytes : List ℕ) → ((k : ℕ) → slice_index bytes k < 256) → number_at little n place bytes < 256 ^ n
number_at-small little n place bytes are = number_in-small little n (drop place bytes) (bytes-drop place bytes are)
