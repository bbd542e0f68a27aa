-- Directions of which bytes are let go: what is kept of one goes on as the direction does.
use Rattle.std.specs.Prelude.{◌≡◌, ◌+◌, ◌-◌, ◌<◌, ◌≤◌, ℕ, max, Bool, true, false, not, List, [], ◌∷◌, drop, length, None, Some, slice_get, option_map}
use Rattle.std.specs.FinMap.{get}
use Rattle.pk_base.specs.declared.stretch.Stretch.{Stretch}
use Rattle.range_bytes.specs.Held.{Held, HoldsAll, bytes_at}
use Rattle.tcp_streams.specs.declared.newest.Newest.{Newest}
use Rattle.tcp_streams.specs.declared.segment.Segment.{Segment}
use Rattle.tcp_streams.specs.declared.stream.Stream.{Stream}
use Rattle.tcp_streams.specs.declared.streams.Streams.{Streams}
use Rattle.tcp_streams.specs.Ways.{WayState, end_of, stretches, way_step, HoldsAtMost, IsWay}
use Rattle.tcp_streams.specs.States.{state_of}
use Rattle.tcp_streams.specs.Conversations.{ends_of, number_of}
use Rattle.tcp_streams.specs.Labels.{Label, labels, latest, opened, opener, way_of}
use Rattle.tcp_streams.specs.Stands.{AllBelow}
use Rattle.tcp_streams.specs.Standing.{way_kept}

-- stretches that begin at or past a position
abbrev pub AllBegin : ℕ → List Stretch → Type 0
AllBegin from [] = Unit {0}
AllBegin from (stretch ∷ stretches) = (from ≤ stretch.start) × AllBegin from stretches

-- the bytes of stretches are what is held at their positions
pub record IsHeldIn (held : Held) (stretch : Stretch) : Type 0 where
  pub run : HoldsAll held stretch.start (stretch.start + length stretch.bytes)
  pub is : stretch.bytes ≡ bytes_at held stretch.start (length stretch.bytes)

abbrev pub AreHeldIn : Held → List Stretch → Type 0
AreHeldIn held [] = Unit {0}
AreHeldIn held (stretch ∷ stretches) = IsHeldIn held stretch × AreHeldIn held stretches

-- what is kept of a direction: the last stretch from a position of it on. From some position on it holds what the direction holds, and
-- nothing before that
pub record IsKeptOf (w v : WayState) : Type 0 where
  pub origin : v.origin ≡ w.origin
  pub acked : v.acked ≡ w.acked
  pub low : w.start ≤ v.start
  pub end : end_of v ≡ end_of w
  pub front : v.front ≡ drop (v.start - w.start) w.front
  pub from : ℕ
  pub held : (position : ℕ) → from ≤ position → get v.held position ≡ get w.held position
  pub none : (position : ℕ) → position < from → get v.held position ≡ None
  pub begin : AllBegin from (stretches v)
  pub parts : AreHeldIn v.held v.earlier

-- it goes on as the direction does
abbrev pub KeptLaw : Type 0
KeptLaw = (own : Bool) (w v : WayState) (s : Segment) → IsWay w → IsWay v → IsKeptOf w v → IsKeptOf (way_step own w s) (way_step own v s)

-- what is kept of a direction before and after bytes of it are let go, up to a position at most
pub record IsLetGoTo (to : ℕ) (old new : WayState) : Type 0 where
  pub most : new.start ≤ max old.start to
  pub kept : (w : WayState) → IsKeptOf w old → IsKeptOf w new
  pub low : old.start ≤ new.start
  pub end : end_of new ≡ end_of old
  pub front : new.front ≡ drop (new.start - old.start) old.front
  pub way : IsWay new
  pub filled : (bytes : ℕ) → HoldsAtMost bytes old → HoldsAtMost bytes new

-- ---- all streams

pub record IsStreamKept (ls : List Label) (number : ℕ) (stream : Stream) : Type 0 where
  pub first : opener number ls ≡ Some stream.first
  pub zero : IsKeptOf (way_of number false ls) (state_of stream.zero)
  pub one : IsKeptOf (way_of number true ls) (state_of stream.one)

pub record AgreesKept (ls : List Label) (newest : Newest) (streams : List Stream) : Type 0 where
  pub count : length streams ≡ opened ls
  pub below : AllBelow (opened ls) ls
  pub known : (s : Segment) → number_of newest (ends_of s) ≡ option_map (λ l. l.stream) (latest s ls)
  pub each : (number : ℕ) (stream : Stream) → slice_get streams number ≡ Some stream → IsStreamKept ls number stream

pub record StandsKept (past : List Segment) (streams : Streams) : Type 0 where
  pub fresh : streams.kept.spent ≡ false
  pub taken : streams.kept.taken ≡ length past
  pub agrees : AgreesKept (labels past) streams.kept.newest streams.kept.streams.items

-- the streams that stand for a list of segments, the newest first, where bytes may have been let go
unfoldable pub StandsFrom : List Segment → Streams → Type 0
StandsFrom past streams = StandsKept past streams

-- one direction before and after
abbrev pub GoesTo : Bool → ℕ → WayState → WayState → Type 0
GoesTo true to old new = IsLetGoTo to old new
GoesTo false to old new = new ≡ old

pub record IsStreamLetGo (side : Bool) (to : ℕ) (old new : Stream) : Type 0 where
  pub first : new.first ≡ old.first
  pub zero : GoesTo (not side) to (state_of old.zero) (state_of new.zero)
  pub one : GoesTo side to (state_of old.one) (state_of new.one)

-- bytes of one direction are let go, and all others stay as they were
pub record AreLetGo (number : ℕ) (side : Bool) (to : ℕ) (old new : List Stream) : Type 0 where
  pub count : length new ≡ length old
  pub own : IsLetGoTo to (way_kept (slice_get old number) side) (way_kept (slice_get new number) side)
  pub other : way_kept (slice_get new number) (not side) ≡ way_kept (slice_get old number) (not side)
  pub rest : (k : ℕ) (one : Bool) → (k ≡ number → ⊥) → way_kept (slice_get new k) one ≡ way_kept (slice_get old k) one
