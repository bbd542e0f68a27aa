-- Runs of positions, each from one position up to and without another.
use mathlib.Core.HLevel.{×_prop, Unit-prop}
use denote.Struct.Props as logic
use Rattle.std.specs.Prelude.{◌≡◌, ℕ, ◌<◌, ◌≤◌, Bool, true, false, ◌&&◌, ◌||◌, nat_le, nat_lt, List, [], ◌∷◌, Option, Some, IsSome}
use Rattle.std.specs.Map.{lookup}
use Rattle.std.specs.BTreeMap.{is_at}
use Rattle.std.specs.Ordering.{nat_cmp}

abbrev pub lies_in : ℕ → ℕ → ℕ → Bool
lies_in from to position = nat_le from position && nat_lt position to

-- whether a position lies in one of some runs
abbrev pub is_among : List (ℕ × ℕ) → ℕ → Bool
is_among [] position = false
is_among (run ∷ runs) position = lies_in run.0 run.1 position || is_among runs position

-- runs by where they start, all behind a position, and none past another
abbrev pub AreAhead : ℕ → List (ℕ × ℕ) → ℕ → Type 0
AreAhead low [] high = Unit {0}
AreAhead low (run ∷ runs) high = ((low < run.0) × (run.0 < run.1) × (run.1 ≤ high)) × AreAhead run.0 runs high

-- that has one proof at most, so it may be kept in a field
pub ahead_prop : (low : ℕ) (runs : List (ℕ × ℕ)) (high : ℕ) → IsProp (AreAhead low runs high)
ahead_prop low [] high = Unit-prop
ahead_prop low (run ∷ runs) high = ×_prop (Prim.hlevel logic.props) (ahead_prop run.0 runs high)

-- the first run is taken out, which begins at or before a position
pub record IsFirstOut (old new : List (ℕ × ℕ)) (at end : ℕ) : Type 0 where
  pub start : ℕ
  pub low : start ≤ at
  pub is : old ≡ (start, end) ∷ new

-- the first run begins behind a position
abbrev pub BeginsBehind : ℕ → List (ℕ × ℕ) → Type 0
BeginsBehind at [] = Unit {0}
BeginsBehind at (run ∷ runs) = at < run.0

-- where the run ends that begins at a position, if there is one
abbrev pub end_of_run : ℕ → List (ℕ × ℕ) → Option ℕ
end_of_run start runs = lookup (is_at (nat_cmp start)) runs

-- the last run that begins at or before a position
pub record IsLastBegun (runs : List (ℕ × ℕ)) (at start end : ℕ) : Type 0 where
  pub there : end_of_run start runs ≡ Some end
  pub low : start ≤ at
  pub last : (other : ℕ) → other ≤ at → IsSome (end_of_run other runs) → other ≤ start

-- one run more
pub record IsOneMore (old : List (ℕ × ℕ)) (from to : ℕ) (new : List (ℕ × ℕ)) : Type 0 where
  pub is : (position : ℕ) → is_among new position ≡ (is_among old position || lies_in from to position)
  pub ahead : (low high : ℕ) → AreAhead low old high → low < from → to ≤ high → AreAhead low new high

-- what is joined from a position on: all up to an end, and what is left lies behind that
pub record AreJoined (old : List (ℕ × ℕ)) (to : ℕ) (new : List (ℕ × ℕ)) (end : ℕ) : Type 0 where
  pub order : to ≤ end
  pub run : (position : ℕ) → to ≤ position → position < end → is_among old position ≡ true
  pub same : (position : ℕ) → end ≤ position → is_among new position ≡ is_among old position
  pub ahead : (low high : ℕ) → AreAhead low old high → to ≤ high → AreAhead end new high × (end ≤ high)
