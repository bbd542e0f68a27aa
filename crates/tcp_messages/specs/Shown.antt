-- The messages that a segment's frame shows, and where their bytes are.
use Rattle.std.specs.Prelude.{◌≡◌, ◌<◌, ◌+◌, ◌^◌, ℕ, All, Bool, if◌then◌else◌, List, [], ◌∷◌, drop, length, map, nat_eq, slice_range, Option, Some, None, ℤ, pos, negsuc, ◌-ℤ◌}
use Rattle.std.specs.Cmp.Lexicographic.{pointwise}
use Rattle.std.specs.List.{starts_with}
use Rattle.range_bytes.specs.Held.{Held, bytes_at, frames_at, put_numbers}
use Rattle.tcp_streams.specs.declared.segment.Segment.{Segment}
use Rattle.tcp_streams.specs.Labels.{Label, label_of, labels, taken_after}
use Rattle.stream_messages.specs.declared.framer.Framer.{Framer}
use Rattle.stream_messages.specs.declared.told.Told.{Told}
use Rattle.stream_messages.specs.declared.placed.Placed.{Placed}
use Rattle.stream_messages.specs.Tellings.{end_of, first_of}
use Rattle.stream_messages.specs.Sides.{note_next, noted}
use Rattle.tcp_messages.specs.declared.met.ShownMessage.{ShownMessage}
use Rattle.tcp_messages.specs.declared.met.Source.{Source}
use Rattle.tcp_messages.specs.declared.met.Source.TheVariants as sources
use Rattle.tcp_messages.specs.declared.met.Gathered.{Gathered}
use Rattle.tcp_messages.specs.Brought.{brought, brought_by, way_with}

-- the messages that the frame of a segment shows
abbrev pub messages_at : Framer → Label → List Label → List Placed
messages_at framer l ls = (note_next framer (noted framer (brought l.stream ls)) (brought_by l ls)).shown

-- a message's bytes, and the frames that brought them
abbrev pub gathered : Held → Placed → Gathered
gathered held m = record { bytes = bytes_at held m.at (end_of m.told); frames = frames_at held m.at (end_of m.told) }

abbrev pub distance : ℤ → Option ℕ
distance (pos n) = Some n
distance (negsuc n) = None

-- a place of a segment's payload at which these bytes stand
abbrev pub place_of : List ℕ → List ℕ → Option ℕ → Option ℕ
place_of payload bytes None = None
place_of payload bytes (Some place) = if starts_with nat_eq (drop place payload) bytes then Some place else None

-- a message that its frame alone brought lies in the segment
abbrev pub source_at : Gathered → Option ℕ → Source
source_at g None = sources.Gathered g
source_at g (Some place) = sources.Segment place

abbrev pub source_of : List ℕ → ℕ → Gathered → Option ℕ → Source
source_of payload frame g place = if pointwise nat_eq g.frames (frame ∷ []) then source_at g (place_of payload g.bytes place) else sources.Gathered g

-- by the segment's position
abbrev pub located : Held → Segment → ℤ → Placed → ShownMessage
located held s position m = record { message = m; source = source_of s.payload s.frame (gathered held m) (distance (pos m.at -ℤ position)) }

-- where it isn't known where messages end, none is shown
abbrev pub messages_by : Option Framer → Label → List Label → List Placed
messages_by None l ls = []
messages_by (Some framer) l ls = messages_at framer l ls

abbrev pub messages_after : Option Framer → List Segment → Segment → List Placed
messages_after framer past s = messages_by framer (label_of s (labels past)) (labels past)

unfoldable pub shown_after : Option Framer → List Segment → Segment → List ShownMessage
shown_after framer past s = map (located (way_with (label_of s (labels past)) (labels past)).held s (taken_after past s).position) (messages_after framer past s)

-- the frames of the gathered ones: ascending, each once
abbrev pub frames_in : Source → List ℕ
frames_in (sources.Segment place) = []
frames_in (sources.Gathered g) = g.frames

abbrev pub frames_told : List ShownMessage → List ℕ
frames_told [] = []
frames_told (m ∷ ms) = put_numbers (frames_in m.source) (frames_told ms)

-- these bytes are one message that is framed so; it may be a response to HEAD
abbrev pub IsMessageBy : Framer → Told → List ℕ → Type 0
IsMessageBy framer told bytes = (asked : Bool) × (first_of framer asked bytes ≡ Some told) × (end_of told ≡ length bytes)

-- in some way
abbrev pub IsMessage : Told → List ℕ → Type 0
IsMessage told bytes = (framer : Framer) × (asked : Bool) × (first_of framer asked bytes ≡ Some told) × (end_of told ≡ length bytes)

-- the bytes of a message that a segment with this payload shows
abbrev pub bytes_from : List ℕ → ℕ → Source → List ℕ
bytes_from payload len (sources.Segment place) = slice_range payload place (place + len)
bytes_from payload len (sources.Gathered g) = g.bytes

-- they are the message, and so few that a buffer holds them
pub record IsWholeIn (payload : List ℕ) (m : ShownMessage) : Type 0 where
  pub is : IsMessage m.message.told (bytes_from payload (end_of m.message.told) m.source)
  pub short : end_of m.message.told < 2 ^ 32

-- they are the message, as its stream is framed
abbrev pub IsFramedIn : Framer → List ℕ → ShownMessage → Type 0
IsFramedIn framer payload m = IsMessageBy framer m.message.told (bytes_from payload (end_of m.message.told) m.source)

-- all are; where it isn't known where messages end, there are none
abbrev pub AreFramedIn : Option Framer → List ℕ → List ShownMessage → Type 0
AreFramedIn None payload ms = ms ≡ []
AreFramedIn (Some framer) payload ms = All (IsFramedIn framer payload) ms
