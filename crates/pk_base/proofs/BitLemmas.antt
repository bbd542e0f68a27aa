-- Numbers of bits, one bit and the bits of one byte further.
use Rattle.std.proofs.Common.{◌≡◌, ℕ, zero, suc, ◌+◌, ◌*◌, ◌/◌, ◌%◌, ◌-◌, ◌^◌, ◌<◌, ◌≤◌, List, get_or, refl, arith, sym, add-one}
use Rattle.std.proofs.Math.Nat.{pow-succ', mul-le-mul_right}
use Rattle.std.proofs.lemmas.Nat.{shr-shr, pow-add, mod-pow-add}
use Rattle.std.proofs.Math.Pow.{pow_mono}
use Rattle.pk_base.specs.Bits.{bit_of, sum_below, number_of_bits}
use Rattle.pk_base.proofs.JoinedBits.{bits_joined}

pub bits_none : (bytes : List ℕ) (first : ℕ) → number_of_bits bytes first 0 ≡ 0
unfolding number_of_bits sum_below
bits_none bytes first = refl

-- each weight doubles when one more bit follows
pub weights_double : (h : ℕ → ℕ) (n m : ℕ) → n ≤ m →
    sum_below n (λ j. h j * 2 ^ (suc m - 1 - j)) ≡ 2 * sum_below n (λ j. h j * 2 ^ (m - 1 - j))
unfolding sum_below
weights_double h zero m le = refl
weights_double h (suc n) m le =
    let step : sum_below n (λ j. h j * 2 ^ (suc m - 1 - j)) ≡ 2 * sum_below n (λ j. h j * 2 ^ (m - 1 - j)) = weights_double h n m (omega arith) in
    let width : suc m - 1 - n ≡ suc (m - 1 - n) = omega arith in
    let double : 2 ^ (suc m - 1 - n) ≡ 2 * 2 ^ (m - 1 - n) = rw width (pow-succ' 2 (m - 1 - n)) in
    let last : h n * 2 ^ (suc m - 1 - n) ≡ 2 * (h n * 2 ^ (m - 1 - n)) = rw double (omega arith) in
    omega arith

pub bits_one_more : (bytes : List ℕ) (first n : ℕ) →
    number_of_bits bytes first (n + 1) ≡ 2 * number_of_bits bytes first n + bit_of bytes (first + n)
unfolding number_of_bits sum_below
bits_one_more bytes first n =
    rw (add-one n) (
    let front = weights_double (λ j. bit_of bytes (first + j)) n n (omega arith) in
    let none : suc n - 1 - n ≡ 0 = omega arith in
    let last : bit_of bytes (first + n) * 2 ^ (suc n - 1 - n) ≡ bit_of bytes (first + n) = rw none (omega arith) in
    omega arith)

-- a bit of the byte at place q
pub bit_in_byte : (bytes : List ℕ) (q k : ℕ) → k < 8 → bit_of bytes (8 * q + k) ≡ get_or bytes q 0 / 2 ^ (7 - k) % 2
bit_in_byte bytes q k h =
    let place : (8 * q + k) / 8 ≡ q = omega arith in
    let rest : (8 * q + k) % 8 ≡ k = omega arith in
    rw (place, rest) refl

pub bits_bound : (bytes : List ℕ) (first n : ℕ) → number_of_bits bytes first n < 2 ^ n
bits_bound bytes first zero = rw (bits_none bytes first) (omega arith)
bits_bound bytes first (suc n) =
    let front : number_of_bits bytes first n < 2 ^ n = bits_bound bytes first n in
    let more : number_of_bits bytes first (suc n) ≡ 2 * number_of_bits bytes first n + bit_of bytes (first + n) =
    rw (← add-one n) (bits_one_more bytes first n) in
    let double : 2 ^ suc n ≡ 2 * 2 ^ n = pow-succ' 2 n in
    omega arith

-- the bits of one byte, behind its first ones
pub bits_within_byte : (bytes : List ℕ) (q passed count : ℕ) → passed + count ≤ 8 →
    number_of_bits bytes (8 * q + passed) count ≡ get_or bytes q 0 / 2 ^ (8 - passed - count) % 2 ^ count
bits_within_byte bytes q passed zero h = rw (bits_none bytes (8 * q + passed)) (omega arith)
bits_within_byte bytes q passed (suc k) h =
    let byte : ℕ = get_or bytes q 0 in
    let front : ℕ = byte / 2 ^ (7 - (passed + k)) in
    let before : number_of_bits bytes (8 * q + passed) k ≡ byte / 2 ^ (8 - passed - k) % 2 ^ k = bits_within_byte bytes q passed k (omega arith) in
    let place : 8 * q + passed + k ≡ 8 * q + (passed + k) = omega arith in
    let bit : bit_of bytes (8 * q + passed + k) ≡ front % 2 = rw place (bit_in_byte bytes q (passed + k) (omega arith)) in
    let shifts : 8 - passed - k ≡ 7 - (passed + k) + 1 = omega arith in
    let half : byte / 2 ^ (8 - passed - k) ≡ front / 2 ^ 1 = rw shifts (sym (shr-shr byte (7 - (passed + k)) 1)) in
    let whole : front % 2 ^ (k + 1) ≡ (front / 2 ^ 1 % 2 ^ k) * 2 ^ 1 + front % 2 ^ 1 = mod-pow-add front k 1 in
    let more : number_of_bits bytes (8 * q + passed) (k + 1) ≡ 2 * number_of_bits bytes (8 * q + passed) k + bit_of bytes (8 * q + passed + k) = bits_one_more bytes (8 * q + passed) k in
    let last : 8 - passed - suc k ≡ 7 - (passed + k) = omega arith in
    rw (last, ← add-one k, more, before, half, bit, whole) (omega arith)

-- the bits of the next byte, counted from the byte in which the number begins, behind those that are read
pub byte_more : (bytes : List ℕ) (first done count number : ℕ) → number ≡ number_of_bits bytes first done →
    (first % 8 + done) % 8 + count ≤ 8 →
    number * 2 ^ count + get_or bytes (first / 8 + (first % 8 + done) / 8) 0 / 2 ^ (8 - (first % 8 + done) % 8 - count) % 2 ^ count
    ≡ number_of_bits bytes first (done + count)
byte_more bytes first done count number e h =
    let q : ℕ = first / 8 + (first % 8 + done) / 8 in
    let passed : ℕ = (first % 8 + done) % 8 in
    let place : first + done ≡ 8 * q + passed = omega arith in
    let part : number_of_bits bytes (first + done) count ≡ get_or bytes q 0 / 2 ^ (8 - passed - count) % 2 ^ count = rw place (bits_within_byte bytes q passed count h) in
    rw (e, ← part) (sym (bits_joined bytes first done count))

-- so many bits more still fit
pub more_fits : (number part done count : ℕ) → number < 2 ^ done → part < 2 ^ count → done + count ≤ 64 → number * 2 ^ count + part < 2 ^ 64
more_fits number part done count small few room =
    let power : 2 ^ (done + count) ≡ 2 ^ done * 2 ^ count = pow-add 2 done count in
    let most : 2 ^ (done + count) ≤ 2 ^ 64 = pow_mono {i = done + count} {j = 64} room in
    let step : suc number * 2 ^ count ≤ 2 ^ done * 2 ^ count = mul-le-mul_right (2 ^ count) small in
    let sums : suc number * 2 ^ count ≡ number * 2 ^ count + 2 ^ count = omega arith in
    omega arith

-- the weight of the bits before so many of one byte fits
pub weight_fits : (count : ℕ) → count ≤ 8 → 1 * 2 ^ count % 2 ^ 64 ≡ 2 ^ count
weight_fits count few =
    let most : 2 ^ count ≤ 2 ^ 8 = pow_mono {i = count} {j = 8} few in
    omega arith
