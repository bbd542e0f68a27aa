-- Chains of signs and commas: what stands from the whole down to a part on its left, the whole first.
use Rattle.std.specs.Prelude.{◌≡◌, List, [], ◌∷◌, Option, Some}
use Rattle.std.proofs.Common.{Bor}

abbrev pub Stands : {A : Type 0} → (A → Option A) → A → List (Bor A) → A → Type 0
Stands left whole [] part = whole ≡ part
Stands {A = A} left whole (n ∷ ns) part =
    (whole ≡ n.now) × (next : A) × (left n.now ≡ Some next) × Stands left next ns part

-- what stands above a part for which a claim holds
abbrev pub Reaches : {A : Type 0} → (A → Option A) → (A → Type 0) → A → List (Bor A) → Type 0
Reaches {A = A} left Claim whole above = (part : A) × Stands left whole above part × Claim part
