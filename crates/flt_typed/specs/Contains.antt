-- Bytes that stand somewhere in others.
use Rattle.std.specs.Prelude.{◌≡◌, ℕ, ◌||◌, Bool, nat_eq, List, [], ◌∷◌, ◌++◌}
use Rattle.std.specs.List.{starts_with}

-- the text has the needle somewhere; each text has an empty one
abbrev pub StandsIn : List ℕ → List ℕ → Type 0
StandsIn text needle = (front : List ℕ) × (rest : List ℕ) × (text ≡ front ++ (needle ++ rest))

-- the same, computed
unfoldable pub contains : List ℕ → List ℕ → Bool
contains [] needle = starts_with nat_eq [] needle
contains (byte ∷ text) needle = starts_with nat_eq (byte ∷ text) needle || contains text needle
