-- What is taken of a capture's bytes.
use Rattle.std.specs.Prelude.{◌≤◌, ℕ, suc, List, length, Option, Some}
use Rattle.std.specs.Io.KnownBytes.{Consumes}
use Rattle.pk_base.specs.Limits.{file_limit}

-- known bytes begin with at most so many bytes, and lose them
abbrev pub TookAtMost : ℕ → Option (List ℕ) → Option (List ℕ) → Type 0
TookAtMost most old new = (taken : List ℕ) × Consumes old new taken × (length taken ≤ most)

-- what is left of a file is all but 2^28 + 1 bytes of its front at most
abbrev pub TookFew : List ℕ → Option (List ℕ) → Type 0
TookFew file left = TookAtMost (suc file_limit) (Some file) left
