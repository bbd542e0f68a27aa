-- Numbers of 64 bits.
use Rattle.std.proofs.Common.{◌≡◌, ℕ, ◌^◌, ◌<◌, ◌≤◌, true, nat_lt, arith}
use Rattle.std.proofs.Math.Pow.{pow_mono}
use Rattle.std.proofs.lemmas.Bool.{lt-ltb}

-- a width of 64 or more has room for each
pub wide_fits : (n width : ℕ) → n < 2 ^ 64 → 64 ≤ width → nat_lt n (2 ^ width) ≡ true
wide_fits n width below wide = let more = pow_mono wide in lt-ltb n (2 ^ width) (omega (arith, more, below))
