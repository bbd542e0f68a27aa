-- Numbers of bits, cut in two.
use Rattle.std.proofs.Common.{◌≡◌, ℕ, zero, suc, ◌+◌, ◌-◌, ◌*◌, ◌^◌, ◌≤◌, List, refl, arith, add-zero}
use Rattle.std.proofs.lemmas.Nat.{pow-add}
use Rattle.pk_base.specs.Bits.{number_of_bits, sum_below, bit_of}

-- the first terms of a sum, then the others
sum_below-add : (f : ℕ → ℕ) (n m : ℕ) → sum_below (n + m) f ≡ sum_below n f + sum_below m (λ j. f (n + j))
unfolding sum_below
sum_below-add f n zero = rw (add-zero n) (omega arith)
sum_below-add f n (suc m) =
    let sums : n + suc m ≡ suc (n + m) = omega arith in
    let before : sum_below (n + m) f ≡ sum_below n f + sum_below m (λ j. f (n + j)) = sum_below-add f n m in
    rw sums (omega arith)

-- terms that are equal have equal sums
sum_below-same : (f g : ℕ → ℕ) (n : ℕ) → ((j : ℕ) → suc j ≤ n → f j ≡ g j) → sum_below n f ≡ sum_below n g
unfolding sum_below
sum_below-same f g zero same = refl
sum_below-same f g (suc n) same =
    let front : sum_below n f ≡ sum_below n g = sum_below-same f g n (λ j below. same j (omega arith)) in
    let last : f n ≡ g n = same n (omega arith) in
    omega arith

sum_below-scaled : (f : ℕ → ℕ) (factor n : ℕ) → sum_below n (λ j. f j * factor) ≡ sum_below n f * factor
unfolding sum_below
sum_below-scaled f factor zero = omega arith
sum_below-scaled f factor (suc n) =
    let front : sum_below n (λ j. f j * factor) ≡ sum_below n f * factor = sum_below-scaled f factor n in
    omega arith

-- the first bits of a number, then the others
pub bits_joined : (bytes : List ℕ) (first n m : ℕ) →
    number_of_bits bytes first (n + m) ≡ number_of_bits bytes first n * 2 ^ m + number_of_bits bytes (first + n) m
unfolding number_of_bits
bits_joined bytes first n m =
    let bit : ℕ → ℕ = λ j. bit_of bytes (first + j) in
    let term : ℕ → ℕ = λ j. bit j * 2 ^ (n + m - 1 - j) in
    let halves : sum_below (n + m) term ≡ sum_below n term + sum_below m (λ j. term (n + j)) = sum_below-add term n m in
    let front : sum_below n term ≡ sum_below n (λ j. bit j * 2 ^ (n - 1 - j) * 2 ^ m) = sum_below-same term (λ j. bit j * 2 ^ (n - 1 - j) * 2 ^ m) n (λ j below. front_term (bit j) n m j below) in
    let rest : sum_below m (λ j. term (n + j)) ≡ sum_below m (λ j. bit_of bytes (first + n + j) * 2 ^ (m - 1 - j)) =
    sum_below-same (λ j. term (n + j)) (λ j. bit_of bytes (first + n + j) * 2 ^ (m - 1 - j)) m (λ j below. rest_term bytes first n m j) in
    let scaled = sum_below-scaled (λ j. bit j * 2 ^ (n - 1 - j)) (2 ^ m) n in
    omega arith
  where
    front_term : (b n m j : ℕ) → suc j ≤ n → b * 2 ^ (n + m - 1 - j) ≡ b * 2 ^ (n - 1 - j) * 2 ^ m
    front_term b n m j below =
        let sums : n + m - 1 - j ≡ n - 1 - j + m = omega arith in
        rw (sums, pow-add 2 (n - 1 - j) m) (omega arith)

    rest_term : (bytes : List ℕ) (first n m j : ℕ) → bit_of bytes (first + (n + j)) * 2 ^ (n + m - 1 - (n + j)) ≡ bit_of bytes (first + n + j) * 2 ^ (m - 1 - j)
    rest_term bytes first n m j =
        let place : first + (n + j) ≡ first + n + j = omega arith in
        let weight : n + m - 1 - (n + j) ≡ m - 1 - j = omega arith in
        rw (place, weight) refl
