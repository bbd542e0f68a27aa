-- Powers of ten.
use Rattle.std.proofs.Common.{◌<◌, ◌^◌, ℕ, zero, suc, arith}

pub power_of_ten : (n : ℕ) → 0 < 10 ^ n
power_of_ten zero = omega arith
power_of_ten (suc n) = let before : 0 < 10 ^ n = power_of_ten n in omega arith
