-- How far the other side has acknowledged a direction's bytes, by the numbers that its segments carry (RFC 9293, 3.4).
use Rattle.std.specs.Prelude.{◌≡◌, ◌<◌, ◌≤◌, ◌+◌, ◌%◌, ◌^◌, ℕ, max, Bool, true, not, List, ◌∷◌, Some}
use Rattle.tcp_streams.specs.declared.segment.Segment.{Segment}
use Rattle.tcp_streams.specs.Ways.{WayState, end_of}
use Rattle.tcp_streams.specs.Labels.{Label, label_of, labels, way_of}

-- the position that a number means: the one nearest to the front end, of those that have it modulo 2^32
pub record IsMeant (origin front number position : ℕ) : Type 0 where
  pub numbered : (origin + position) % 2 ^ 32 ≡ number % 2 ^ 32
  pub low : front ≤ position + 2 ^ 31
  pub high : position < front + 2 ^ 31

-- a segment acknowledges up to a position of the other direction, whose origin is known
pub record Acknowledges (w : WayState) (s : Segment) (position : ℕ) : Type 0 where
  pub acked : s.acked ≡ true
  pub origin : ℕ
  pub known : w.origin ≡ Some origin
  pub meant : IsMeant origin (end_of w) s.ack position

-- a direction before a segment of the other side and after it: what is acknowledged never falls, and nothing else raises it
pub record IsRaised (before after : WayState) (s : Segment) : Type 0 where
  pub raised : (position : ℕ) → Acknowledges before s position → after.acked ≡ max before.acked position
  pub stays : ((position : ℕ) → Acknowledges before s position → ⊥) → after.acked ≡ before.acked

-- the direction of one side of a segment's stream after segments, the newest first
abbrev pub way_beside : Label → Bool → List Segment → WayState
way_beside l side segments = way_of l.stream side (labels segments)

-- whatever came before a segment: so it does to the other direction of its stream, and its own stays as it was
pub record AcksLaw : Type 0 where
  pub other : (past : List Segment) (s : Segment)
      → IsRaised (way_beside (label_of s (labels past)) (not (label_of s (labels past)).side) past)
      (way_beside (label_of s (labels past)) (not (label_of s (labels past)).side) (s ∷ past)) s
  pub own : (past : List Segment) (s : Segment)
      → (way_beside (label_of s (labels past)) (label_of s (labels past)).side (s ∷ past)).acked
      ≡ (way_beside (label_of s (labels past)) (label_of s (labels past)).side past).acked
