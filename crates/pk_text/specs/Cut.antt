-- A text cut at the first of a byte.
use Rattle.std.specs.Prelude.{ℕ, ◌==◌, nat_lt, if◌then◌else◌, List, length, Option, Some, None}
use Rattle.std.specs.List.{position_or_len, before_first, after_first}

-- what stands before the first c, and what stands behind it; None where the text has none
abbrev pub cut_at : ℕ → List ℕ → Option (List ℕ × List ℕ)
cut_at c t =
    if nat_lt (position_or_len (λ b. b == c) t) (length t)
    then Some (before_first (λ b. b == c) t, after_first (λ b. b == c) t)
    else None
