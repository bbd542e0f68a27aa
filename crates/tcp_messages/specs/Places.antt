-- Where the bytes of a shown message lie, by the positions that its direction held before the segment and those that it holds with it.
use Rattle.std.specs.Prelude.{◌≡◌, ◌↔◌, ◌<◌, ◌≤◌, ◌+◌, ℕ, Contains, slice_range, None, Some, IsSome, ℤ, pos, ◌+ℤ◌}
use Rattle.std.specs.List.Sorted.{IsStrictlyIncreasing}
use Rattle.std.specs.FinMap.{get}
use Rattle.range_bytes.specs.Held.{Held, HoldsAll, bytes_at}
use Rattle.tcp_streams.specs.declared.segment.Segment.{Segment}
use Rattle.stream_messages.specs.declared.placed.Placed.{Placed}
use Rattle.stream_messages.specs.Tellings.{end_of}
use Rattle.stream_messages.specs.Messages.{end_at}
use Rattle.tcp_messages.specs.declared.met.Gathered.{Gathered}
use Rattle.tcp_messages.specs.declared.met.ShownMessage.{ShownMessage}
use Rattle.tcp_messages.specs.declared.met.Source.TheVariants as sources

-- a position of a message
abbrev pub HasPosition : Placed → ℕ → Type 0
HasPosition m position = (m.at ≤ position) × (position < end_at m)

-- a frame that brought a byte of a message
abbrev pub HasBrought : Held → Placed → ℕ → Type 0
HasBrought held m frame = (position : ℕ) × (byte : ℕ) × HasPosition m position × (get held position ≡ Some (byte, frame))

-- the message lies in its frame's segment, whose first byte has a position: at the place that its own position says
pub record LiesInSegment (held : Held) (s : Segment) (position : ℤ) (m : ShownMessage) : Type 0 where
  pub place : ℕ
  pub is : m.source ≡ sources.Segment place
  pub at : position +ℤ pos place ≡ pos m.message.at
  pub bytes : slice_range s.payload place (place + end_of m.message.told) ≡ bytes_at held m.message.at (end_of m.message.told)

-- it is a buffer of its own, with the bytes that are held, and with the frames that brought these: ascending, each once
pub record IsGathered (held : Held) (m : ShownMessage) : Type 0 where
  pub buffer : Gathered
  pub is : m.source ≡ sources.Gathered buffer
  pub bytes : buffer.bytes ≡ bytes_at held m.message.at (end_of m.message.told)
  pub frames : (frame : ℕ) → Contains buffer.frames frame ↔ HasBrought held m.message frame
  pub ascend : IsStrictlyIncreasing buffer.frames

-- all its positions are held with the segment. Where none was before, it lies in the segment; where one was, it is gathered
pub record LiesWhereBrought (before held : Held) (s : Segment) (position : ℤ) (m : ShownMessage) : Type 0 where
  pub whole : HoldsAll held m.message.at (end_at m.message)
  pub alone : ((at : ℕ) → HasPosition m.message at → get before at ≡ None) → LiesInSegment held s position m
  pub others : (at : ℕ) → HasPosition m.message at → IsSome (get before at) → IsGathered held m
