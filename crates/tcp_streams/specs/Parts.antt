-- Parts of what a direction has: ranges of positions, from one up to and without another, that lie in one of its stretches.
use Rattle.std.specs.Prelude.{◌≡◌, ℕ, ◌+◌, ◌-◌, ◌≤◌, List, length, slice_range, slice_get, Some}
use Rattle.pk_base.specs.declared.stretch.Stretch.{Stretch}

pub record LiesIn (stretch : Stretch) (from to : ℕ) : Type 0 where
  pub low : stretch.start ≤ from
  pub order : from ≤ to
  pub high : to ≤ stretch.start + length stretch.bytes

abbrev pub LiesInOne : List Stretch → ℕ → ℕ → Type 0
LiesInOne stretches from to = (number : ℕ) × (stretch : Stretch) × (slice_get stretches number ≡ Some stretch) × LiesIn stretch from to

-- the bytes of a stretch in a range
abbrev pub bytes_in : Stretch → ℕ → ℕ → List ℕ
bytes_in stretch from to = slice_range stretch.bytes (from - stretch.start) (to - stretch.start)

-- the bytes of the stretch in which a range lies
abbrev pub IsPart : List Stretch → ℕ → ℕ → List ℕ → Type 0
IsPart stretches from to bytes = (number : ℕ) (stretch : Stretch) → slice_get stretches number ≡ Some stretch → LiesIn stretch from to → bytes ≡ bytes_in stretch from to
