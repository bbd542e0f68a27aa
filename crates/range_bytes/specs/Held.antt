-- Bytes by their positions, as they are put together from runs that come in any order and may overlap: the byte that came
-- first at a position stays (what RFC 791, 3.2 and RFC 9293, 3.10.7.4 leave open, decided once for both).
use Rattle.std.specs.Prelude.{◌≡◌, ◌==◌, ◌&&◌, ℕ, zero, suc, ◌+◌, ◌-◌, ◌<◌, ◌≤◌, List, [], ◌∷◌, length, if◌then◌else◌, slice_index, Option, None, Some, IsSome, is_some, nat_le, nat_lt}
use Rattle.std.specs.Ordering.{nat_cmp}
use Rattle.std.specs.FinMap.{FinMap, get, insert}

-- a held byte, and the number of the frame that brought it
abbrev pub Cell : Type 0
Cell = ℕ × ℕ

-- what is held, by positions
abbrev pub Held : Type 0
Held = FinMap nat_cmp Cell

-- one position more; one that is held stays as it is
abbrev pub put_new : Held → ℕ → Cell → Held
put_new held position cell = if is_some (get held position) then held else insert held position cell

-- a run of bytes from a position on, each where nothing is held yet
abbrev pub put_run : Held → ℕ → List ℕ → ℕ → Held
put_run held position [] frame = held
put_run held position (byte ∷ bytes) frame =
    put_run (put_new held position (byte, frame)) (position + 1) bytes frame

-- what a run of bytes from a position on has at a position
abbrev pub run_cell : ℕ → List ℕ → ℕ → ℕ → Option Cell
run_cell start bytes frame position =
    if nat_le start position && nat_lt position (start + length bytes)
    then Some (slice_index bytes (position - start), frame) else None

-- the least position that isn't held
pub record IsFront (held : Held) (front : ℕ) : Type 0 where
  pub below : (position : ℕ) → position < front → IsSome (get held position)
  pub free : get held front ≡ None

-- the least position from one on that isn't held
pub record IsFreeFrom (held : Held) (from to : ℕ) : Type 0 where
  pub order : from ≤ to
  pub run : (position : ℕ) → from ≤ position → position < to → IsSome (get held position)
  pub free : get held to ≡ None

-- the least held position from one on
pub record IsFirstHeld (held : Held) (from next : ℕ) : Type 0 where
  pub order : from ≤ next
  pub there : IsSome (get held next)
  pub none : (position : ℕ) → from ≤ position → position < next → get held position ≡ None

-- the same where there is one, and otherwise none
abbrev pub IsNextHeld : Held → ℕ → Option ℕ → Type 0
IsNextHeld held from None = (position : ℕ) → from ≤ position → get held position ≡ None
IsNextHeld held from (Some next) = IsFirstHeld held from next

-- all positions from one up to and without another are held
abbrev pub HoldsAll : Held → ℕ → ℕ → Type 0
HoldsAll held from to = (position : ℕ) → from ≤ position → position < to
    → IsSome (get held position)

abbrev pub one_if_held : Option Cell → ℕ
one_if_held None = 0
one_if_held (Some cell) = 1

-- how many positions below one are held
abbrev pub held_below : ℕ → Held → ℕ
held_below zero held = 0
held_below (suc n) held = one_if_held (get held n) + held_below n held

abbrev pub byte_of : Option Cell → ℕ
byte_of None = 0
byte_of (Some cell) = cell.0

abbrev pub frame_of : Option Cell → ℕ
frame_of None = 0
frame_of (Some cell) = cell.1

-- so many bytes from a position on
abbrev pub bytes_at : Held → ℕ → ℕ → List ℕ
bytes_at held from zero = []
bytes_at held from (suc n) = byte_of (get held from) ∷ bytes_at held (from + 1) n

-- a number in an ascending list, unless it stands there
abbrev pub put_number : ℕ → List ℕ → List ℕ
put_number x [] = x ∷ []
put_number x (y ∷ ys) =
    if nat_lt x y then x ∷ y ∷ ys else (if x == y then y ∷ ys else y ∷ put_number x ys)

-- numbers in an ascending list, each once
abbrev pub put_numbers : List ℕ → List ℕ → List ℕ
put_numbers [] ys = ys
put_numbers (x ∷ xs) ys = put_number x (put_numbers xs ys)

-- the frames that brought so many bytes from a position on: ascending, each once
abbrev pub frames_at : Held → ℕ → ℕ → List ℕ
frames_at held from zero = []
frames_at held from (suc n) = put_number (frame_of (get held from)) (frames_at held (from + 1) n)
