-- A direction of a stream by its numbers alone: which positions are held, and no byte.
use Rattle.std.specs.Prelude.{◌≡◌, ℕ, ◌+◌, ◌-◌, ◌^◌, ◌<◌, ◌≤◌, min, max, true, ◌||◌, nat_le, nat_lt, if◌then◌else◌, List, [], ◌∷◌, Option, None, Some, is_some}
use Rattle.std.specs.FinMap.{get}
use Rattle.pk_base.specs.declared.lost.Lost.{Lost}
use Rattle.range_bytes.specs.Held.{Held}
use Rattle.tcp_streams.specs.declared.reach.Reach.{Reach}
use Rattle.tcp_streams.specs.declared.segment.Segment.{Segment}
use Rattle.tcp_streams.specs.Numbers.{ahead, place, window}
use Rattle.tcp_streams.specs.Ways.{WayState, end_of, lost_in, front_for, own_step, other_step, IsWay}
use Rattle.tcp_streams.specs.Runs.{is_among, lies_in, AreAhead}

-- the runs have the positions that are held, from one on
abbrev pub AreHeldFrom : ℕ → Held → List (ℕ × ℕ) → Type 0
AreHeldFrom from held runs = (position : ℕ) → from ≤ position → is_some (get held position) ≡ is_among runs position

pub record ReachState : Type 0 where
  pub origin : Option ℕ
  pub end : ℕ
  pub acked : ℕ
  pub ahead : List (ℕ × ℕ)

-- a direction's numbers, as they are kept
abbrev pub numbers_of : Reach → ReachState
numbers_of reach = record { origin = reach.origin; end = reach.end; acked = reach.acked; ahead = reach.ahead.entries }

-- the numbers of a direction: its origin, its front end, up to where the other side has acknowledged, and which positions behind
-- the front end are held
pub record IsReachOf (w : WayState) (reach : ReachState) : Type 0 where
  pub origin : reach.origin ≡ w.origin
  pub end : reach.end ≡ end_of w
  pub acked : reach.acked ≡ w.acked
  pub ahead : AreHeldFrom (end_of w) w.held reach.ahead

-- the numbers of a direction of which no more is known than its origin
abbrev pub begun : Option ℕ → ReachState
begun origin = record { origin = origin; end = 0; acked = 0; ahead = [] }

-- the runs lie behind the front end, in its window
abbrev pub IsNear : ReachState → Type 0
IsNear reach = AreAhead reach.end reach.ahead (reach.end + window)

-- where the first run begins, if it is acknowledged
abbrev pub next_acked : List (ℕ × ℕ) → ℕ → Option ℕ
next_acked [] acked = None
next_acked (run ∷ runs) acked = if nat_le run.0 acked then Some run.0 else None

-- what is left of a direction once its gaps are passed
pub record HasPassed (w : WayState) (lost : List Lost) (reach : ReachState) : Type 0 where
  pub lost_is : lost ≡ lost_in w
  pub end : reach.end ≡ front_for w
  pub ahead : AreHeldFrom (front_for w) w.held reach.ahead

-- the positions of a segment's bytes from the front end on that lie in the window, counted from the front end
abbrev pub run_low : ℕ → ℕ
run_low ahead = if nat_lt ahead (2 ^ 31) then ahead else 0

abbrev pub run_high : ℕ → ℕ → ℕ
run_high ahead count = min window (if nat_lt ahead (2 ^ 31) then ahead + count else count - (2 ^ 32 - ahead))

-- a run is put in, and the front end goes on as far as positions are held
pub record IsPutIn (old : ReachState) (from to : ℕ) (new : ReachState) : Type 0 where
  pub origin : new.origin ≡ old.origin
  pub acked : new.acked ≡ old.acked
  pub order : old.end ≤ new.end
  pub run : (position : ℕ) → old.end ≤ position → position < new.end → (is_among old.ahead position || lies_in from to position) ≡ true
  pub same : (position : ℕ) → new.end ≤ position → is_among new.ahead position ≡ (is_among old.ahead position || lies_in from to position)
  pub near : (top : ℕ) → AreAhead old.end old.ahead top → to ≤ top → old.end ≤ top → AreAhead new.end new.ahead top × (new.end ≤ top)

-- up to where a segment of the other side acknowledges
abbrev pub raised : Option ℕ → ℕ → ℕ → Segment → ℕ
raised None end acked s = acked
raised (Some origin) end acked s = if s.acked then max acked (place 0 end (ahead origin end s.ack)) else acked

-- the numbers go on as their direction does
abbrev pub TakesOwn : ReachState → Segment → ReachState → Type 0
TakesOwn old s new = (w : WayState) → IsWay w → IsReachOf w old → IsReachOf (own_step w s) new

abbrev pub TakesOther : ReachState → Segment → ReachState → Type 0
TakesOther old s new = (w : WayState) → IsReachOf w old → IsReachOf (other_step w s) new
