-- One direction of a stream, over the segments of both sides; these are listed with the newest first (RFC 9293, 3.4 and
-- 3.10.7.4; that the first arrival stays, the window and the gaps are rules of this dissector).
use mathlib.Core.HLevel.{×_prop, Unit-prop}
use denote.Struct.Props as logic
use Rattle.std.specs.Prelude.{◌≡◌, ℕ, ◌+◌, ◌-◌, max, Bool, true, false, if◌then◌else◌, List, [], ◌∷◌, ◌++◌, length, Option, None, Some, unwrap_or, ◌≤◌}
use Rattle.std.specs.FinMap.{get, empty}
use Rattle.pk_base.specs.declared.lost.Lost.{Lost}
use Rattle.pk_base.specs.declared.stretch.Stretch.{Stretch}
use Rattle.range_bytes.specs.Held.{Held, HoldsAll, put_run, bytes_at, held_below}
use Rattle.tcp_streams.specs.declared.segment.Segment.{Segment}
use Rattle.tcp_streams.specs.Numbers.{first_number, ahead, place, window, taken_bytes}
use Rattle.tcp_streams.specs.Gaps.{first_free, gaps_behind, start_past, end_past, left_behind}

pub record WayState : Type 0 where
  pub origin : Option ℕ
  pub held : Held
  -- the stretches before the last
  pub earlier : List Stretch
  -- where the last stretch begins, and its bytes
  pub start : ℕ
  pub front : List ℕ
  -- up to where the other side has acknowledged
  pub acked : ℕ

abbrev pub nothing : WayState
nothing = record { origin = None; held = empty; earlier = []; start = 0; front = []; acked = 0 }

-- the front end: the least position from the start on that isn't held
abbrev pub end_of : WayState → ℕ
end_of w = w.start + length w.front

abbrev pub stretches : WayState → List Stretch
stretches w = w.earlier ++ record { start = w.start; bytes = w.front } ∷ []

-- the gaps that a segment of this direction passes, before its bytes enter
abbrev pub lost_in : WayState → List Lost
lost_in w = gaps_behind w.held w.acked (end_of w)

abbrev pub start_for : WayState → ℕ
start_for w = start_past w.start (lost_in w)

abbrev pub front_for : WayState → ℕ
front_for w = end_past w.held (end_of w) (lost_in w)

-- the origin is set by the first segment
abbrev pub origin_for : WayState → Segment → ℕ
origin_for w s = unwrap_or w.origin (first_number s)

abbrev pub held_with : Held → ℕ → ℕ → ℕ → Segment → Held
held_with held start front ahead s = put_run held (place start front ahead) (taken_bytes start front ahead s.payload) s.frame

abbrev pub held_after : WayState → Segment → Held
held_after w s = held_with w.held (start_for w) (front_for w) (ahead (origin_for w s) (front_for w) (first_number s)) s

abbrev pub way_at : WayState → ℕ → List Lost → ℕ → ℕ → Held → WayState
way_at w origin lost start front held = record {
  origin = Some origin;
  held = held;
  earlier = w.earlier ++ left_behind w.held w.start lost;
  start = start;
  front = bytes_at held start (first_free held front - start);
  acked = w.acked;
}

-- a segment of this direction
unfoldable pub own_step : WayState → Segment → WayState
own_step w s = way_at w (origin_for w s) (lost_in w) (start_for w) (front_for w) (held_after w s)

abbrev pub acked_by : WayState → Option ℕ → Segment → ℕ
acked_by w None s = w.acked
acked_by w (Some origin) s = if s.acked then max w.acked (place 0 (end_of w) (ahead origin (end_of w) s.ack)) else w.acked

-- a segment of the other direction
unfoldable pub other_step : WayState → Segment → WayState
other_step w s = record { origin = w.origin; held = w.held; earlier = w.earlier; start = w.start; front = w.front; acked = acked_by w w.origin s }

pub record Sided : Type 0 where
  pub segment : Segment
  pub side : Bool

abbrev pub same_side : Bool → Bool → Bool
same_side true other = other
same_side false true = false
same_side false false = true

abbrev pub way_step : Bool → WayState → Segment → WayState
way_step own w s = if own then own_step w s else other_step w s

-- the direction of a side after segments of both sides
abbrev pub way_after : Bool → List Sided → WayState
way_after side [] = nothing
way_after side (l ∷ ls) = way_step (same_side side l.side) (way_after side ls) l.segment

-- a start and a front end: what is between them is held, and nothing a window or more behind
pub record IsPlace (held : Held) (start front : ℕ) : Type 0 where
  pub order : start ≤ front
  pub run : HoldsAll held start front
  pub free : get held front ≡ None
  pub base : start ≡ front → start ≡ 0
  pub window_is : (position : ℕ) → front + window ≤ position → get held position ≡ None

-- stretches in order, with a gap behind each, before a position
abbrev pub AreApart : ℕ → List Stretch → ℕ → Type 0
AreApart low [] next = low ≤ next
AreApart low (stretch ∷ stretches) next = (low ≤ stretch.start) × AreApart (stretch.start + length stretch.bytes + 1) stretches next

-- that has one proof at most, so it may be kept in a field
pub apart_prop : (low : ℕ) (xs : List Stretch) (next : ℕ) → IsProp (AreApart low xs next)
apart_prop low [] next = Prim.hlevel logic.props
apart_prop low (stretch ∷ stretches) next = ×_prop (Prim.hlevel logic.props) (apart_prop (stretch.start + length stretch.bytes + 1) stretches next)

pub record IsWay (w : WayState) : Type 0 where
  pub place : IsPlace w.held w.start (end_of w)
  pub bytes : w.front ≡ bytes_at w.held w.start (length w.front)
  pub apart : AreApart 0 w.earlier w.start

-- none of these stretches has more bytes than that
abbrev pub AreShort : ℕ → List Stretch → Type 0
AreShort most [] = Unit {0}
AreShort most (stretch ∷ stretches) = (length stretch.bytes ≤ most) × AreShort most stretches

-- that too has one proof at most
pub short_prop : (most : ℕ) (xs : List Stretch) → IsProp (AreShort most xs)
short_prop most [] = Unit-prop
short_prop most (stretch ∷ stretches) = ×_prop (Prim.hlevel logic.props) (short_prop most stretches)

-- a direction that holds at most so many bytes; no stretch before the last has more
pub record HoldsAtMost (bytes : ℕ) (w : WayState) : Type 0 where
  pub held : (position : ℕ) → held_below position w.held ≤ bytes
  pub earlier : AreShort bytes w.earlier
