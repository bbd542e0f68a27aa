-- Runs of held bytes.
use Rattle.std.specs.Prelude.{◌≡◌, ◌⊎◌, ℕ, ◌+◌, ◌-◌, ◌<◌, ◌≤◌, min, List, [], ◌∷◌, length, slice_range, if◌then◌else◌, Option, None, Some, is_some}
use Rattle.std.specs.Map.{values_of}
use Rattle.std.specs.BTreeMap.{insert_entry}
use Rattle.std.specs.Ordering.{nat_cmp}
use Rattle.std.specs.FinMap.{empty, get}
use Rattle.range_bytes.specs.declared.piece.Piece.{Piece}
use Rattle.range_bytes.specs.Held.{Cell, Held, put_run, run_cell}

-- the pieces put in one after the other
abbrev pub put_pieces : Held → List Piece → Held
put_pieces held [] = held
put_pieces held (piece ∷ pieces) =
    put_pieces (put_run held piece.start piece.bytes piece.frame) pieces

-- what the pieces hold
abbrev pub held_of : List Piece → Held
held_of pieces = put_pieces empty pieces

-- a piece ends where its bytes do
abbrev pub IsSized : Piece → Type 0
IsSized piece = piece.start + length piece.bytes ≡ piece.end

-- the pieces have bytes and stand in order between two positions, and none overlaps another
abbrev pub IsApart : ℕ → List Piece → ℕ → Type 0
IsApart low [] high = low ≤ high
IsApart low (piece ∷ pieces) high =
    (low ≤ piece.start) × IsSized piece × (piece.start < piece.end) × IsApart piece.end pieces high

-- pieces by where they start
abbrev pub IsKeyed : List (ℕ × Piece) → Type 0
IsKeyed [] = Unit
IsKeyed (entry ∷ entries) = (entry.0 ≡ entry.1.start) × IsKeyed entries

-- the part of a piece from one position up to and without another
abbrev pub part_of : Piece → ℕ → ℕ → Piece
part_of piece from to = record {
  start = from;
  end = to;
  bytes = slice_range piece.bytes (from - piece.start) (to - piece.start);
  frame = piece.frame;
}

-- a piece that holds a position, and whose bytes are what is held where it stands
pub record IsCover (held : Held) (at : ℕ) (piece : Piece) : Type 0 where
  pub sized : IsSized piece
  pub low : piece.start ≤ at
  pub high : at < piece.end
  pub is : (position : ℕ) → piece.start ≤ position → position < piece.end
      → get held position ≡ run_cell piece.start piece.bytes piece.frame position

-- pieces in a row and others by where they start, all below a position, and no two at one position
pub record IsKept (row : List Piece) (late : List (ℕ × Piece)) (end : ℕ) : Type 0 where
  pub row_apart : IsApart 0 row end
  pub late_keyed : IsKeyed late
  pub late_apart : IsApart 0 (values_of late) end
  pub once : (position : ℕ)
      → (get (held_of row) position ≡ None) ⊎ (get (held_of (values_of late)) position ≡ None)

-- what a piece fills: its cells at those positions where nothing is held
abbrev pub filling : Held → Piece → ℕ → Option Cell
filling held piece position =
    if is_some (get held position) then None
    else run_cell piece.start piece.bytes piece.frame position

-- the parts of a piece that lie where nothing is held
pub record AreGaps (held : Held) (piece : Piece) (gaps : List Piece) : Type 0 where
  pub apart : IsApart piece.start gaps piece.end
  pub fill : (position : ℕ) → get (held_of gaps) position ≡ filling held piece position

-- one piece more by where it starts, and some
abbrev pub with_piece : List (ℕ × Piece) → Piece → List (ℕ × Piece)
with_piece late piece = insert_entry nat_cmp late piece.start piece

abbrev pub with_pieces : List (ℕ × Piece) → List Piece → List (ℕ × Piece)
with_pieces late [] = late
with_pieces late (piece ∷ pieces) = with_pieces (with_piece late piece) pieces

-- pieces that can be put in: nothing is held where they stand
pub record AreFree (late : List (ℕ × Piece)) (pieces : List Piece) : Type 0 where
  pub low : ℕ
  pub high : ℕ
  pub end : ℕ
  pub keyed : IsKeyed late
  pub late_apart : IsApart 0 (values_of late) end
  pub apart : IsApart low pieces high
  pub once : (position : ℕ)
      → (get (held_of pieces) position ≡ None) ⊎ (get (held_of (values_of late)) position ≡ None)

-- the lesser of two positions, of which each may be missing
abbrev pub least_of : Option ℕ → Option ℕ → Option ℕ
least_of None b = b
least_of (Some a) None = Some a
least_of (Some a) (Some b) = Some (min a b)
