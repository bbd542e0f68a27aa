-- The streams that stand for a list of segments.
use Rattle.std.specs.Prelude.{◌≡◌, ◌==◌, ◌<◌, ◌+◌, ◌^◌, ℕ, Bool, false, not, if◌then◌else◌, List, length, Option, None, Some, slice_get}
use Rattle.tcp_streams.specs.declared.segment.Segment.{Segment}
use Rattle.tcp_streams.specs.declared.segment.Taken.{Taken}
use Rattle.tcp_streams.specs.declared.streams.Streams.{Streams}
use Rattle.tcp_streams.specs.declared.stream.Stream.{Stream}
use Rattle.tcp_streams.specs.Ways.{WayState, nothing, end_of, stretches, way_step, same_side, AreShort, IsWay}
use Rattle.tcp_streams.specs.States.{state_of}
use Rattle.tcp_streams.specs.Labels.{labels, way_of, told}
use Rattle.tcp_streams.specs.Stands.{Agrees}

-- how many segments were taken
abbrev pub taken_so_far : Streams → ℕ
taken_so_far streams = streams.kept.taken

-- how many bytes these had
abbrev pub bytes_so_far : Streams → ℕ
bytes_so_far streams = streams.kept.bytes

-- how many streams there are; they are numbered from 0
abbrev pub stream_count : Streams → ℕ
stream_count streams = length streams.kept.streams.items

pub record StandsRight (past : List Segment) (streams : Streams) : Type 0 where
  pub fresh : streams.kept.spent ≡ false
  pub taken : streams.kept.taken ≡ length past
  pub agrees : Agrees (labels past) streams.kept.newest streams.kept.streams.items

abbrev pub way_kept : Option Stream → Bool → WayState
way_kept None side = nothing
way_kept (Some stream) side = if side then state_of stream.one else state_of stream.zero

-- a direction as it is kept, by its stream's number and its side, 0 or 1
abbrev pub way_in : Streams → ℕ → ℕ → WayState
way_in streams stream side = way_kept (slice_get streams.kept.streams.items stream) (side == 1)

-- a direction after segments, by its stream's number and its side
abbrev pub way_for : List Segment → ℕ → ℕ → WayState
way_for past stream side = way_of stream (side == 1) (labels past)

-- the newest segment first
unfoldable pub StandsFor : List Segment → Streams → Type 0
StandsFor past streams = StandsRight past streams

-- the two directions of a segment's stream take it, and all others stay as they were; a new stream comes behind the others
pub record AreSteppedAt (s : Segment) (taken : Taken) (number : ℕ) (side : Bool) (old new : List Stream) : Type 0 where
  pub within : number < length new
  pub count : length new ≡ (if number == length old then length old + 1 else length old)
  pub told_is : taken ≡ told number side (way_kept (slice_get old number) side) (way_kept (slice_get old number) (not side)) s
  pub ways : (k : ℕ) (one : Bool) → way_kept (slice_get new k) one
      ≡ (if k == number then way_step (same_side one side) (way_kept (slice_get old k) one) s else way_kept (slice_get old k) one)

abbrev pub AreStepped : Segment → Taken → List Stream → List Stream → Type 0
AreStepped s taken old new = (side : Bool) × AreSteppedAt s taken taken.stream side old new

-- the streams, by their numbers
abbrev pub streams_of : Streams → List Stream
streams_of streams = streams.kept.streams.items

-- streams that have answered no error, none of whose directions has gone far: no stretch of one has more bytes than all segments had
pub record AreReady (streams : Streams) : Type 0 where
  pub fresh : streams.kept.spent ≡ false
  pub few : bytes_so_far streams < 2 ^ 32
  pub ways : (stream : ℕ) (one : Bool) → IsWay (way_kept (slice_get (streams_of streams) stream) one)
  pub room : (stream : ℕ) (one : Bool) → end_of (way_kept (slice_get (streams_of streams) stream) one) < 2 ^ 58
  pub short : (stream : ℕ) (one : Bool) → AreShort (bytes_so_far streams) (stretches (way_kept (slice_get (streams_of streams) stream) one))
