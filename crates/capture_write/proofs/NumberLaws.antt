-- Numbers as bytes are read back.
use Rattle.std.proofs.Common.{◌≡◌, ◌<◌, ◌≤◌, ◌^◌, ℕ, zero, suc, Bool, true, false, List, [], ◌∷◌, ◌++◌, length, take, refl, arith}
use Rattle.std.specs.Prelude.{replicate}
use Rattle.byteorder.specs.Numbers.{little_number-reads_back, big_number-reads_back, length-bytes_high_first, length-bytes_low_first}
use Rattle.pk_base.specs.Endian.{number_in}
use Rattle.capture_write.specs.Numbers.{bytes_in}

pub number_back : (little : Bool) (n x : ℕ) (rest : List ℕ) → x < 256 ^ n → number_in little n (bytes_in little n x ++ rest) ≡ x
number_back true n x rest h = little_number-reads_back n x rest h
number_back false n x rest h = big_number-reads_back n x rest h

pub length_bytes : (little : Bool) (n x : ℕ) → length (bytes_in little n x) ≡ n
length_bytes true n x = length-bytes_low_first 0 n x
length_bytes false n x = length-bytes_high_first n x

-- at most three zeros
pub zeros_taken : (n : ℕ) → n ≤ 3 → take {A = ℕ} n (0 ∷ 0 ∷ 0 ∷ []) ≡ replicate {A = ℕ} n 0
zeros_taken zero h = refl
zeros_taken (suc zero) h = refl
zeros_taken (suc (suc zero)) h = refl
zeros_taken (suc (suc (suc zero))) h = refl
zeros_taken (suc (suc (suc (suc n)))) h = absurd (omega arith)
