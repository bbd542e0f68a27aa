-- What is kept of each direction's messages, and what it stands for. Lists of segments have the newest first.
use Rattle.std.specs.Prelude.{◌≡◌, ℕ, Bool, true, false, if◌then◌else◌, List, [], ◌∷◌, length, Option, None, Some, option_map, slice_get}
use Rattle.std.specs.Coded.{Coded, Coded-set, coded_option, le_prop, ×_prop, Π_prop, Unit-prop}
use Rattle.tcp_streams.specs.declared.segment.Segment.{Segment}
use Rattle.tcp_streams.specs.declared.stream.Stream.{Stream}
use Rattle.tcp_streams.specs.declared.streams.Streams.{Streams}
use Rattle.tcp_streams.specs.Conversations.{ends_of, same_ends}
use Rattle.tcp_streams.specs.Labels.{Label, way_of}
use Rattle.tcp_streams.specs.Ways.{WayState, stretches}
use Rattle.tcp_streams.specs.Standing.{stream_count, streams_of, way_kept}
use Rattle.stream_messages.specs.declared.cursor.Cursor.{Cursor}
use Rattle.stream_messages.specs.declared.cursor.Next.{Next}
use Rattle.stream_messages.specs.declared.cursor.Next.TheVariants.{Never, Awaited, Begun}
use Rattle.stream_messages.specs.declared.cutting.Shown.{Shown}
use Rattle.stream_messages.specs.declared.framer.Framer.{Framer}
use Rattle.stream_messages.specs.declared.told.Told.{Told}
use Rattle.stream_messages.specs.Messages.{Asked, above, answered, of_stretches}
use Rattle.stream_messages.specs.Cursors.{IsBehind, IsQuiet, IsQuietNext, IsSound, IsSoundNext, begun, next_at}
use Rattle.stream_messages.specs.Moved.{IsBehindFrom}
use Rattle.stream_messages.specs.Sides.{Noted, asked_in, heads_in, noted, shown_in}
use Rattle.tcp_messages.specs.declared.readers.Reader.{Reader}
use Rattle.tcp_messages.specs.declared.readers.Readers.{Readers}
use Rattle.tcp_messages.specs.Brought.{brought}

-- both directions of a conversation are framed alike
abbrev pub IsOfEnds : (Segment → Option Framer) → Type 0
IsOfEnds framer_of = (s t : Segment) → same_ends (ends_of s) (ends_of t) ≡ true → framer_of s ≡ framer_of t

-- ---- one direction

-- a cursor is behind the messages of a direction's newest stretch, and counts the answers before it
abbrev pub IsBehindWay : Framer → Asked → WayState → Cursor → Type 0
IsBehindWay framer asked w c = IsBehind framer asked (answered 0 (of_stretches framer asked 0 w.earlier)) w.start c w.front

-- what is shown are the messages that end past the bytes before, and the cursor is behind all
pub record CutsWay (framer : Framer) (asked : Asked) (end : ℕ) (w : WayState) (shown : Shown) : Type 0 where
  pub messages : shown.messages ≡ above end (of_stretches framer asked 0 (stretches w))
  pub cursor : IsBehindWay framer asked w shown.cursor

-- a reader is behind what the frames have shown of its direction, and knows its requests
pub record ReadsWay (framer : Framer) (ns : List Noted) (side : Bool) (w : WayState) (reader : Reader) : Type 0 where
  pub cursor : IsBehindWay framer (asked_in side ns) w reader.cursor
  pub heads : reader.heads.items ≡ heads_in (shown_in side ns)

-- the same where of the newest stretch only the bytes from some position on are there
abbrev pub IsBehindWayFrom : Framer → Asked → WayState → ℕ → Cursor → Type 0
IsBehindWayFrom framer asked w start c = IsBehindFrom framer asked (answered 0 (of_stretches framer asked 0 w.earlier)) w.start start c w.front

pub record CutsWayFrom (framer : Framer) (asked : Asked) (end : ℕ) (w : WayState) (start : ℕ) (shown : Shown) : Type 0 where
  pub messages : shown.messages ≡ above end (of_stretches framer asked 0 (stretches w))
  pub cursor : IsBehindWayFrom framer asked w start shown.cursor

pub record ReadsWayFrom (framer : Framer) (ns : List Noted) (side : Bool) (w : WayState) (start : ℕ) (reader : Reader) : Type 0 where
  pub cursor : IsBehindWayFrom framer (asked_in side ns) w start reader.cursor
  pub heads : reader.heads.items ≡ heads_in (shown_in side ns)

-- before the first byte
pub record IsBegun (reader : Reader) : Type 0 where
  pub cursor : reader.cursor ≡ begun 0
  pub heads : reader.heads.items ≡ []

abbrev pub reader_of : Readers → Bool → Reader
reader_of r side = if side then r.one else r.zero

-- ---- streams

-- the segments of a stream are framed so
abbrev pub AllHave : (Segment → Option Framer) → ℕ → Option Framer → List Label → Type 0
AllHave framer_of number framer [] = Unit {0}
AllHave framer_of number framer (l ∷ ls) = (l.stream ≡ number → framer_of l.segment ≡ framer) × AllHave framer_of number framer ls

-- nothing is kept of a stream of which it isn't known where messages end
abbrev pub ReadsStream : List Label → ℕ → Option Readers → Type 0
ReadsStream ls number None = Unit {0}
ReadsStream ls number (Some r) = (side : Bool) → ReadsWay r.framer (noted r.framer (brought number ls)) side (way_of number side ls) (reader_of r side)

pub record ReadsStreams (framer_of : Segment → Option Framer) (ls : List Label) (readers : List (Option Readers)) : Type 0 where
  pub framers : (number : ℕ) (r : Option Readers) → slice_get readers number ≡ Some r → AllHave framer_of number (option_map (λ x. x.framer) r) ls
  pub each : (number : ℕ) (r : Option Readers) → slice_get readers number ≡ Some r → ReadsStream ls number r

-- by where the bytes begin that are there, for each direction
abbrev pub ReadsStreamFrom : (Bool → ℕ) → List Label → ℕ → Option Readers → Type 0
ReadsStreamFrom starts ls number None = Unit {0}
ReadsStreamFrom starts ls number (Some r) = (side : Bool) → ReadsWayFrom r.framer (noted r.framer (brought number ls)) side (way_of number side ls) (starts side) (reader_of r side)

pub record ReadsStreamsFrom (framer_of : Segment → Option Framer) (starts : ℕ → Bool → ℕ) (ls : List Label) (readers : List (Option Readers)) : Type 0 where
  pub framers : (number : ℕ) (r : Option Readers) → slice_get readers number ≡ Some r → AllHave framer_of number (option_map (λ x. x.framer) r) ls
  pub each : (number : ℕ) (r : Option Readers) → slice_get readers number ≡ Some r → ReadsStreamFrom (starts number) ls number r

-- where the newest stretch of each direction begins, as it is kept
abbrev pub starts_of : List Stream → ℕ → Bool → ℕ
starts_of streams number one = (way_kept (slice_get streams number) one).start

-- ---- whatever was taken

-- what a cursor knows is right for a direction's bytes, and no whole message is left behind it
pub record IsRight (framer : Framer) (c : Cursor) (front : List ℕ) : Type 0 where
  pub sound : IsSound framer c front
  pub quiet : IsQuiet framer c front

-- each cursor is right for the bytes that its direction has
pub record AreSound (streams : Streams) (readers : List (Option Readers)) : Type 0 where
  pub fresh : streams.kept.spent ≡ false
  pub count : length readers ≡ stream_count streams
  pub each : (number : ℕ) (r : Readers) → slice_get readers number ≡ Some (Some r) → (one : Bool)
      → IsRight r.framer (reader_of r one).cursor (way_kept (slice_get (streams_of streams) number) one).front

-- what is known of the next message has one proof at most
pub sound_prop : Coded Told → (framer : Framer) (c : Cursor) (front : List ℕ) → IsProp (IsSound framer c front)
sound_prop told framer c front = by c.next
  where
    by : (next : Next) → IsProp (IsSoundNext framer (next_at c.mark) front next)
    by Never = Unit-prop
    by Awaited = Unit-prop
    by (Begun started) = ×_prop le_prop (Π_prop (λ more. Coded-set (coded_option told) _ _))

-- so has what is left
pub quiet_prop : Coded Told → (framer : Framer) (c : Cursor) (front : List ℕ) → IsProp (IsQuiet framer c front)
quiet_prop told framer c front = by c.next
  where
    by : (next : Next) → IsProp (IsQuietNext framer (next_at c.mark) front next)
    by Never = Unit-prop
    by Awaited = le_prop
    by (Begun started) = Coded-set (coded_option told) _ _
