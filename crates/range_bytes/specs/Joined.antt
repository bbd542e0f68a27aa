-- Bytes by their positions, of which those from a start on stand in order.
use Rattle.std.specs.Prelude.{◌≡◌, ◌⊎◌, ℕ, ◌+◌, ◌-◌, ◌<◌, ◌≤◌, List, [], ◌∷◌, length, take, drop, None}
use Rattle.std.specs.FinMap.{get, empty}
use Rattle.range_bytes.specs.declared.in_order.Mark.{Mark}
use Rattle.range_bytes.specs.declared.piece.Piece.{Piece}
use Rattle.range_bytes.specs.Held.{Held, HoldsAll, put_run, bytes_at}
use Rattle.range_bytes.specs.Pieces.{IsSized, IsCover}

pub record Joined : Type 0 where
  pub held : Held
  pub start : ℕ
  -- the bytes in order
  pub front : List ℕ

abbrev pub none_joined : Joined
none_joined = record { held = empty; start = 0; front = [] }

-- the position behind the bytes in order
abbrev pub front_end : Joined → ℕ
front_end joined = joined.start + length joined.front

-- the bytes in order are those held from the start on
pub record IsInOrder (joined : Joined) : Type 0 where
  pub run : HoldsAll joined.held joined.start (front_end joined)
  pub bytes : joined.front ≡ bytes_at joined.held joined.start (length joined.front)

-- as far as these go
pub record IsJoined (joined : Joined) : Type 0 where
  pub order : IsInOrder joined
  pub free : get joined.held (front_end joined) ≡ None

-- the pieces that bytes in order are made of: one ends at each mark
abbrev pub cut : ℕ → List ℕ → List Mark → List Piece
cut start bytes [] = []
cut start bytes (mark ∷ marks) = record {
  start = start;
  end = mark.end;
  bytes = take (mark.end - start) bytes;
  frame = mark.frame;
} ∷ cut mark.end (drop (mark.end - start) bytes) marks

-- the marks ascend, and the last stands behind the last byte
abbrev pub IsMarked : ℕ → List ℕ → List Mark → Type 0
IsMarked start bytes [] = length bytes ≡ 0
IsMarked start bytes (mark ∷ marks) =
    (start < mark.end) × (mark.end ≤ start + length bytes)
    × IsMarked mark.end (drop (mark.end - start) bytes) marks

-- bytes in order, and others that are held elsewhere: none of these ends where the first begin
pub record IsJoining (rest : Held) (start end : ℕ) (bytes : List ℕ) (marks : List Mark) : Type 0 where
  pub end_is : start + length bytes ≡ end
  pub marked : IsMarked start bytes marks
  pub apart : (position : ℕ) → start ≤ position → position < end → get rest position ≡ None
  pub begun : (start ≡ 0) ⊎ (get rest (start - 1) ≡ None)

-- a piece that begins at a position was held, and is no more
pub record IsTakenOut (old new : Held) (at : ℕ) (piece : Piece) : Type 0 where
  pub sized : IsSized piece
  pub start : piece.start ≡ at
  pub some : at < piece.end
  pub held : old ≡ put_run new at piece.bytes piece.frame
  pub gone : (position : ℕ) → at ≤ position → position < piece.end → get new position ≡ None

-- bytes of one frame hold a position, and end at a mark
pub record IsRunAt (held : Held) (at : ℕ) (mark : Mark) : Type 0 where
  pub piece : Piece
  pub cover : IsCover held at piece
  pub end : piece.end ≡ mark.end
  pub frame : piece.frame ≡ mark.frame
