-- Which gaps a segment passes, by the positions that its direction held before it and by how far the other side has acknowledged.
-- An acknowledgement is of all bytes before its place (RFC 9293, 3.4): the receiver had the bytes of a gap before it, and the
-- capture missed them. That such a gap is passed, once bytes behind it are held and a segment of its direction comes, is a rule of
-- this dissector.
use Rattle.std.specs.Prelude.{◌≡◌, ◌<◌, ◌≤◌, ◌+◌, ℕ, All, AllPairs, Any, List, [], ◌∷◌, ◌++◌, None, IsSome}
use Rattle.std.specs.FinMap.{get}
use Rattle.pk_base.specs.declared.lost.Lost.{Lost}
use Rattle.range_bytes.specs.Held.{Held}
use Rattle.tcp_streams.specs.declared.segment.Segment.{Segment}
use Rattle.tcp_streams.specs.declared.segment.Taken.{Taken}
use Rattle.tcp_streams.specs.Ways.{WayState}
use Rattle.tcp_streams.specs.Labels.{Label, label_of, labels, taken_after, way_of}

-- a gap behind the front end: none of its positions is held, it begins there or where held bytes end, and it ends where held bytes
-- begin, no further than what is acknowledged
pub record IsAcknowledgedGap (held : Held) (acked front : ℕ) (gap : Lost) : Type 0 where
  pub some : gap.from < gap.to
  pub none : (position : ℕ) → gap.from ≤ position → position < gap.to → get held position ≡ None
  pub behind : front ≤ gap.from
  pub begins : (position : ℕ) → front ≤ position → position + 1 ≡ gap.from → IsSome (get held position)
  pub ends : IsSome (get held gap.to)
  pub acknowledged : gap.to ≤ acked

-- a position that isn't held, with one behind it that is, no further than what is acknowledged
pub record IsMissed (held : Held) (acked position : ℕ) : Type 0 where
  pub none : get held position ≡ None
  pub next : ℕ
  pub order : position < next
  pub there : IsSome (get held next)
  pub acknowledged : next ≤ acked

abbrev pub LiesInGap : ℕ → Lost → Type 0
LiesInGap position gap = (gap.from ≤ position) × (position < gap.to)

-- one gap ends before another begins
abbrev pub EndsBefore : Lost → Lost → Type 0
EndsBefore gap later = gap.to < later.from

-- a direction before a segment of its own and after it: all acknowledged gaps behind the front end are passed, in order, and
-- nothing else is. Then its last stretch begins where the last of them ends, and from there on no position is missed
pub record PassesAll (before after : WayState) (taken : Taken) : Type 0 where
  pub each : All (IsAcknowledgedGap before.held before.acked taken.front_before) taken.lost
  pub order : AllPairs EndsBefore taken.lost
  pub all : (position : ℕ) → taken.front_before ≤ position → IsMissed before.held before.acked position
      → Any (LiesInGap position) taken.lost
  pub same : taken.lost ≡ [] → after.start ≡ before.start
  pub begins : (gaps : List Lost) (gap : Lost) → taken.lost ≡ gaps ++ gap ∷ [] → after.start ≡ gap.to
  pub none_left : (position : ℕ) → after.start ≤ position → IsMissed before.held before.acked position → ⊥

-- a segment's direction after segments, the newest first
abbrev pub direction_of : Label → List Segment → WayState
direction_of l segments = way_of l.stream l.side (labels segments)

-- whatever came before a segment
abbrev pub GapsLaw : Type 0
GapsLaw = (past : List Segment) (s : Segment)
    → PassesAll (direction_of (label_of s (labels past)) past) (direction_of (label_of s (labels past)) (s ∷ past)) (taken_after past s)
