-- Bytes in order of which those before a position are let go.
use Rattle.std.specs.Prelude.{◌≡◌, ℕ, ◌+◌, ◌-◌, ◌<◌, ◌≤◌, max, List, length, drop, None, Some, slice_get}
use Rattle.std.specs.FinMap.{get}
use Rattle.range_bytes.specs.declared.in_order.InOrder.{InOrder}
use Rattle.range_bytes.specs.declared.in_order.Mark.{Mark}
use Rattle.range_bytes.specs.Pieces.{held_of}
use Rattle.range_bytes.specs.declared.piece.Piece.{Piece}
use Rattle.range_bytes.specs.Held.{Held}
use Rattle.range_bytes.specs.Joined.{Joined, front_end, cut, IsMarked, IsTakenOut}

-- they begin later, up to a position at most, and end where they did; what is held from there on stays, and nothing before it
pub record IsLetGo (old new : Joined) (to : ℕ) : Type 0 where
  pub low : old.start ≤ new.start
  pub most : new.start ≤ max old.start to
  pub end : front_end new ≡ front_end old
  pub front : new.front ≡ drop (new.start - old.start) old.front
  pub same : (position : ℕ) → new.start ≤ position → get new.held position ≡ get old.held position
  pub gone : (position : ℕ) → position < new.start → get new.held position ≡ None

-- the marks past a position
pub record AreMarksPast (marks : List Mark) (to : ℕ) (rest : List Mark) : Type 0 where
  pub place : ℕ
  pub within : place ≤ length marks
  pub is : rest ≡ drop place marks
  pub before : (last : ℕ) (mark : Mark) → last + 1 ≡ place → slice_get marks last ≡ Some mark → mark.end ≤ to
  pub behind : (mark : Mark) → slice_get marks place ≡ Some mark → to < mark.end

-- a row that begins later, up to a position at most, and has from there on what it had
pub record IsShorter (old new : InOrder) (to : ℕ) : Type 0 where
  pub low : old.start ≤ new.start
  pub most : new.start ≤ max old.start to
  pub high : new.start ≤ old.end
  pub end : new.end ≡ old.end
  pub bytes : new.bytes.items ≡ drop (new.start - old.start) old.bytes.items
  pub marked : IsMarked new.start new.bytes.items new.marks.items
  pub cells : (position : ℕ) → new.start ≤ position → get (held_of (cut new.start new.bytes.items new.marks.items)) position
      ≡ get (held_of (cut old.start old.bytes.items old.marks.items)) position

-- the first piece is taken out, which begins between two positions
pub record IsTakenBelow (old new : Held) (from below : ℕ) (piece : Piece) : Type 0 where
  pub at : ℕ
  pub low : from ≤ at
  pub high : at < below
  pub out : IsTakenOut old new at piece
  pub none : (position : ℕ) → position < at → get old position ≡ None
