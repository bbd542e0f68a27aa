-- A body in chunks (RFC 9112, 7.1): each is a size line, so many bytes and CR LF; a size of 0 ends them; then come lines, and
-- at last an empty one.
use Rattle.std.specs.Prelude.{ℕ, zero, suc, ◌+◌, ◌-◌, if◌then◌else◌, true, false, ◌==◌, List, [], ◌∷◌, ◌++◌, take, drop, nat_lt, Option, Some, None}
use Rattle.stream_messages.specs.declared.lines.Line.{Line}
use Rattle.stream_messages.specs.declared.lines.Line.TheVariants.{Whole, Short, Wrong}
use Rattle.stream_messages.specs.declared.plans.Start.{Start}
use Rattle.stream_messages.specs.declared.shape.Body.{Body}
use Rattle.stream_messages.specs.declared.shape.Body.TheVariants.{Chunked, NotShown}
use Rattle.stream_messages.specs.declared.shape.Piece.{Piece}
use Rattle.stream_messages.specs.declared.shape.Shape.{Shape}
use Rattle.stream_messages.specs.declared.shape.Then.{Then}
use Rattle.stream_messages.specs.declared.shape.Then.TheVariants.{Follows, Opaque}
use Rattle.stream_messages.specs.declared.chunks.Place.{Place}
use Rattle.stream_messages.specs.declared.chunks.Turn.{Turn}
use Rattle.stream_messages.specs.declared.chunks.Turn.TheVariants.{Chunk, Last, Long, Trailing, End, Waits, Fails}
use Rattle.stream_messages.specs.Limits.{body_limit, line_limit, trailer_limit}
use Rattle.stream_messages.specs.Lines.{crlf_at, line_of, size_in, text_from}

-- a message whose head is known
abbrev pub shape_of : Start → Body → ℕ → Then → Shape
shape_of start body end next =
    record {
      request = start.request;
      asks_head = start.asks_head;
      interim = start.interim;
      head = start.head;
      body = body;
      end = end;
      then = next;
    }

-- a line behind the last chunk
abbrev pub trailing_turn : Line → Turn
trailing_turn (Whole n) = if n == 0 then End else Trailing (n + 2)
trailing_turn Short = Waits
trailing_turn Wrong = Fails

-- the bytes of a chunk, behind its size line
abbrev pub data_turn : ℕ → ℕ → Line → Turn
data_turn line size (Whole n) = Chunk line size
data_turn line size Short = Waits
data_turn line size Wrong = Fails

-- a size line, which is asked for the limit of the body before the chunk's bytes are there
abbrev pub sized : ℕ → ℕ → List ℕ → Option ℕ → Turn
sized sum line bytes None = Fails
sized sum line bytes (Some size) =
    if size == 0 then Last line
    else (if nat_lt body_limit (sum + size) then Long line
    else data_turn line size (crlf_at (line + size) (drop (line + size) bytes)))

abbrev pub size_turn : ℕ → List ℕ → Line → Turn
size_turn sum bytes (Whole n) = sized sum (n + 2) bytes (size_in (take n bytes))
size_turn sum bytes Short = Waits
size_turn sum bytes Wrong = Fails

-- what stands at a place, from which these bytes go on
unfoldable pub turn_at : Place → List ℕ → Turn
turn_at place bytes =
    if place.trailer then trailing_turn (line_of (trailer_limit - place.used) place.text bytes)
    else size_turn place.sum bytes (line_of line_limit place.text bytes)

-- the place behind a chunk, behind the last one, and behind a line after it
abbrev pub behind_chunk : Place → ℕ → ℕ → Place
behind_chunk place line size =
    record {
      at = place.at + line + size + 2;
      sum = place.sum + size;
      trailer = false;
      used = 0;
      text = 0;
    }

abbrev pub behind_last : Place → ℕ → Place
behind_last place line =
    record { at = place.at + line; sum = place.sum; trailer = true; used = 0; text = 0 }

abbrev pub behind_line : Place → ℕ → Place
behind_line place line =
    record {
      at = place.at + line;
      sum = place.sum;
      trailer = place.trailer;
      used = place.used + line;
      text = 0;
    }

-- a place, and how many bytes of its line are there
abbrev pub looked_at : Place → List ℕ → Place
looked_at place bytes = record {
  at = place.at;
  sum = place.sum;
  trailer = place.trailer;
  used = place.used;
  text = text_from place.text (drop place.at bytes);
}

abbrev pub on_turn : (Place → List Piece → Option Shape) → Start → Place → List Piece → Turn
    → Option Shape
on_turn go start place pieces (Chunk line size) =
    go (behind_chunk place line size)
    (pieces ++ record { start = place.at + line; len = size } ∷ [])
on_turn go start place pieces (Last line) = go (behind_last place line) pieces
on_turn go start place pieces (Trailing line) = go (behind_line place line) pieces
on_turn go start place pieces (Long line) = Some (shape_of start NotShown (place.at + line) Opaque)
on_turn go start place pieces End =
    Some (shape_of start (Chunked pieces) (place.at + 2) (Follows 0))
on_turn go start place pieces Waits = None
on_turn go start place pieces Fails = None

-- the message whose chunks go on at a place, in at most so many turns
unfoldable pub chunks : ℕ → Start → List ℕ → Place → List Piece → Option Shape
chunks zero start bytes place pieces = None
chunks (suc turns) start bytes place pieces =
    on_turn (chunks turns start bytes) start place pieces (turn_at place (drop place.at bytes))

-- where the chunks behind a head begin
abbrev pub first_place : ℕ → Place
first_place head = record { at = head; sum = 0; trailer = false; used = 0; text = 0 }
