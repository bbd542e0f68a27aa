-- Which stream and which side a segment belongs to, over the segments before it, the newest first. A conversation's first
-- segment opens a stream. So does a later SYN without ACK whose direction began elsewhere: a new connection between the
-- same ends (RFC 9293, 3.5; that the number decides it is a rule of this dissector). Side 0 is the opener's.
use Rattle.std.specs.Prelude.{◌==◌, ℕ, ◌+◌, ◌-◌, ◌%◌, ◌^◌, Bool, true, false, not, ◌&&◌, if◌then◌else◌, List, [], ◌∷◌, Option, None, Some, unwrap_or}
use Rattle.pk_base.specs.declared.heads.Endpoint.{Endpoint}
use Rattle.tcp_streams.specs.declared.segment.Segment.{Segment}
use Rattle.tcp_streams.specs.declared.segment.Taken.{Taken}
use Rattle.tcp_streams.specs.Numbers.{first_number, ahead, position_ahead, window}
use Rattle.tcp_streams.specs.Gaps.{AreBetween}
use Rattle.tcp_streams.specs.Ways.{WayState, Sided, end_of, lost_in, origin_for, front_for, own_step, way_after}
use Rattle.tcp_streams.specs.Conversations.{end_of_endpoint, same_end, same_ends, ends_of}

pub record Label : Type 0 where
  pub segment : Segment
  pub stream : ℕ
  -- whether it comes from the end that did not open the stream
  pub side : Bool
  pub opens : Bool

-- the latest segment of a conversation
abbrev pub latest : Segment → List Label → Option Label
latest s [] = None
latest s (l ∷ ls) = if same_ends (ends_of l.segment) (ends_of s) then Some l else latest s ls

-- how many streams were opened
abbrev pub opened : List Label → ℕ
opened [] = 0
opened (l ∷ ls) = if l.opens then opened ls + 1 else opened ls

-- who opened a stream
abbrev pub opener : ℕ → List Label → Option Endpoint
opener stream [] = None
opener stream (l ∷ ls) = if l.opens && l.stream == stream then Some l.segment.from else opener stream ls

-- a stream's segments
abbrev pub sided_of : ℕ → List Label → List Sided
sided_of stream [] = []
sided_of stream (l ∷ ls) = if l.stream == stream then record { segment = l.segment; side = l.side } ∷ sided_of stream ls else sided_of stream ls

-- a direction of a stream
abbrev pub way_of : ℕ → Bool → List Label → WayState
way_of stream side ls = way_after side (sided_of stream ls)

-- where both ends are equal, every segment is the opener's
abbrev pub side_from : Endpoint → Segment → Bool
side_from first s = not (same_end (end_of_endpoint s.from) (end_of_endpoint first))

abbrev pub side_in : ℕ → Segment → List Label → Bool
side_in stream s ls = side_from (unwrap_or (opener stream ls) s.from) s

-- a SYN without ACK in a direction that began with another number
abbrev pub restarts : Option ℕ → Segment → Bool
restarts None s = false
restarts (Some origin) s = s.syn && (not s.acked && not (origin == (s.seq + 1) % 2 ^ 32))

abbrev pub opening : Segment → List Label → Label
opening s ls = record { segment = s; stream = opened ls; side = false; opens = true }

abbrev pub following : ℕ → Segment → List Label → Label
following stream s ls = record { segment = s; stream = stream; side = side_in stream s ls; opens = false }

-- the stream that a segment goes on with, if it does
abbrev pub goes_on : Option Label → Segment → List Label → Option ℕ
goes_on None s ls = None
goes_on (Some l) s ls = if restarts (way_of l.stream (side_in l.stream s ls) ls).origin s then None else Some l.stream

abbrev pub label_on : Option ℕ → Segment → List Label → Label
label_on None s ls = opening s ls
label_on (Some stream) s ls = following stream s ls

abbrev pub label_of : Segment → List Label → Label
label_of s ls = label_on (goes_on (latest s ls) s ls) s ls

abbrev pub labels : List Segment → List Label
labels [] = []
labels (s ∷ past) = label_of s (labels past) ∷ labels past

-- a number counted from a direction's origin, which counts as 1
abbrev pub number_in : ℕ → ℕ → ℕ
number_in origin number = (number + 1 + 2 ^ 32 - origin) % 2 ^ 32

abbrev pub ack_in : Option ℕ → Segment → Option ℕ
ack_in None s = None
ack_in (Some origin) s = if s.acked then Some (number_in origin s.ack) else None

abbrev pub number_of_side : Bool → ℕ
number_of_side side = if side then 1 else 0

-- what a segment is to its stream, by the state of its direction and of the other
unfoldable pub told : ℕ → Bool → WayState → WayState → Segment → Taken
told stream side own other s = record {
  stream = stream;
  side = number_of_side side;
  seq = number_in (origin_for own s) s.seq;
  ack = ack_in other.origin s;
  position = position_ahead (front_for own) (ahead (origin_for own s) (front_for own) (first_number s));
  front_before = end_of own;
  front_after = end_of (own_step own s);
  lost = lost_in own;
}

-- the gaps that a segment passes begin behind the front end before it, and end in its window
abbrev pub PassesNear : Taken → Type 0
PassesNear taken = AreBetween taken.front_before taken.lost (taken.front_before + window)

abbrev pub told_at : Label → List Label → Taken
told_at l ls = told l.stream l.side (way_of l.stream l.side ls) (way_of l.stream (not l.side) ls) l.segment

-- what a segment is to the streams of those that were taken before it
abbrev pub taken_after : List Segment → Segment → Taken
taken_after past s = told_at (label_of s (labels past)) (labels past)
