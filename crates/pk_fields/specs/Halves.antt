-- A table that is kept in two halves.
use Rattle.std.specs.Prelude.{ℕ, ◌+◌, Option, Some, None}

-- a place in the first half, which has so many rows, else one in the second, counted from the table's start
abbrev pub joined : ℕ → Option ℕ → Option ℕ → Option ℕ
joined half (Some place) other = Some place
joined half None (Some place) = Some (half + place)
joined half None None = None
