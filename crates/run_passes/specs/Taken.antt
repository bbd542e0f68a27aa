-- What is taken of a capture's bytes.
use Rattle.std.specs.Prelude.{◌≡◌, ◌⊎◌, ℕ, suc, List, Option}
use Rattle.pk_base.specs.Limits.{file_limit}
use Rattle.pk_outside.specs.Outside.{counted}
use Rattle.capture_read.specs.Taken.{TookAtMost}

-- no file was begun and nothing taken, or this file was begun once, and what is left of it is all but 2^28 + 1 bytes of its
-- front at most
abbrev pub Took : Option (List ℕ) → (begun_old begun_new : ℕ) → (left_old left_new : Option (List ℕ)) → Type 0
Took file begun_old begun_new left_old left_new =
    ((begun_new ≡ begun_old) × (left_new ≡ left_old))
    ⊎ ((begun_new ≡ counted begun_old) × TookAtMost (suc file_limit) file left_new)
