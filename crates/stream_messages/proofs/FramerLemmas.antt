-- The number that bytes are, byte by byte.
use Rattle.std.proofs.Common.{◌≡◌, ℕ, zero, suc, ◌+◌, ◌*◌, ◌<◌, List, [], ◌∷◌, length, take, get_or, refl, ap, ◌∙◌, arith}
use Rattle.stream_messages.specs.Framers.{number_of, number_on}

number_next_on : (n : ℕ) (bytes : List ℕ) (i d : ℕ) → i < length bytes → number_on n (take (suc i) bytes) ≡ number_on n (take i bytes) * 256 + get_or bytes i d
number_next_on n [] i d within = absurd (omega (arith, within))
number_next_on n (b ∷ bytes) zero d within = refl
number_next_on n (b ∷ bytes) (suc i) d within = number_next_on (n * 256 + b) bytes i d (omega (arith, within))

pub number_next : (bytes : List ℕ) (i d : ℕ) → i < length bytes → number_of (take (i + 1) bytes) ≡ number_of (take i bytes) * 256 + get_or bytes i d
number_next bytes i d within =
    let one : i + 1 ≡ suc i = omega arith in
    ap (λ (n : ℕ). number_of (take n bytes)) one ∙ number_next_on 0 bytes i d within
