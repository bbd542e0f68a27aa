-- Streams of one conversation, whatever else comes between: what they are doesn't depend on other conversations' segments,
-- nor on the numbers of the frames.
use Rattle.std.specs.Prelude.{◌≡◌, ◌⊎◌, ◌&&◌, ℕ, Bool, if◌then◌else◌, List, [], ◌∷◌, Option, None, Some}
use Rattle.std.specs.FinMap.{get}
use Rattle.range_bytes.specs.Held.{Cell}
use Rattle.tcp_streams.specs.declared.segment.Segment.{Segment}
use Rattle.tcp_streams.specs.declared.segment.Taken.{Taken}
use Rattle.tcp_streams.specs.Ways.{WayState, Sided}
use Rattle.tcp_streams.specs.Conversations.{same_ends, ends_of}
use Rattle.tcp_streams.specs.Labels.{Label, labels, way_of, sided_of, taken_after}

-- the same segment, whatever its frame
pub record IsSameButFrame (s t : Segment) : Type 0 where
  pub from : s.from ≡ t.from
  pub to : s.to ≡ t.to
  pub seq : s.seq ≡ t.seq
  pub ack : s.ack ≡ t.ack
  pub syn : s.syn ≡ t.syn
  pub acked : s.acked ≡ t.acked
  pub payload : s.payload ≡ t.payload

pub record IsSameSided (l m : Sided) : Type 0 where
  pub segment : IsSameButFrame l.segment m.segment
  pub side : l.side ≡ m.side

abbrev pub AreSameSided : List Sided → List Sided → Type 0
AreSameSided [] [] = Unit {0}
AreSameSided (l ∷ ls) (m ∷ ms) = IsSameSided l m × AreSameSided ls ms
AreSameSided [] (m ∷ ms) = ⊥
AreSameSided (l ∷ ls) [] = ⊥

-- frames of segments at the same place of two lists
abbrev pub IsPair : List Sided → List Sided → ℕ → ℕ → Type 0
IsPair (l ∷ ls) (m ∷ ms) f g = ((l.segment.frame ≡ f) × (m.segment.frame ≡ g)) ⊎ IsPair ls ms f g
IsPair [] ms f g = ⊥
IsPair (l ∷ ls) [] f g = ⊥

abbrev pub IsSameCell : List Sided → List Sided → Option Cell → Option Cell → Type 0
IsSameCell ls ms None None = Unit {0}
IsSameCell ls ms (Some c) (Some d) = (c.0 ≡ d.0) × IsPair ls ms c.1 d.1
IsSameCell ls ms None (Some d) = ⊥
IsSameCell ls ms (Some c) None = ⊥

-- the same direction, with the frames matched by their segments' places
pub record IsSameWay (ls ms : List Sided) (v w : WayState) : Type 0 where
  pub origin : v.origin ≡ w.origin
  pub held : (position : ℕ) → IsSameCell ls ms (get v.held position) (get w.held position)
  pub earlier : v.earlier ≡ w.earlier
  pub start : v.start ≡ w.start
  pub front : v.front ≡ w.front
  pub acked : v.acked ≡ w.acked

abbrev pub AreSameSegments : List Segment → List Segment → Type 0
AreSameSegments [] [] = Unit {0}
AreSameSegments (s ∷ ss) (t ∷ ts) = IsSameButFrame s t × AreSameSegments ss ts
AreSameSegments [] (t ∷ ts) = ⊥
AreSameSegments (s ∷ ss) [] = ⊥

-- the segments of a segment's conversation
abbrev pub between : Segment → List Segment → List Segment
between s [] = []
between s (t ∷ past) = if same_ends (ends_of t) (ends_of s) then t ∷ between s past else between s past

-- the same segments of a conversation in the same order, whatever comes between
abbrev pub HaveSameBetween : Segment → List Segment → List Segment → Type 0
HaveSameBetween s past ys = AreSameSegments (between s past) (between s ys)

-- the numbers of a conversation's streams, the newest first
abbrev pub streams_of : Segment → List Label → List ℕ
streams_of s [] = []
streams_of s (l ∷ ls) = if l.opens && same_ends (ends_of l.segment) (ends_of s) then l.stream ∷ streams_of s ls else streams_of s ls

-- the same stream, by its numbers in two lists
pub record IsSameStream (ls ms : List Label) (j k : ℕ) : Type 0 where
  pub segments : AreSameSided (sided_of j ls) (sided_of k ms)
  pub way : (side : Bool) → IsSameWay (sided_of j ls) (sided_of k ms) (way_of j side ls) (way_of k side ms)

abbrev pub AreSameStreams : List Label → List Label → List ℕ → List ℕ → Type 0
AreSameStreams ls ms [] [] = Unit {0}
AreSameStreams ls ms (j ∷ js) (k ∷ ks) = IsSameStream ls ms j k × AreSameStreams ls ms js ks
AreSameStreams ls ms [] (k ∷ ks) = ⊥
AreSameStreams ls ms (j ∷ js) [] = ⊥

-- what a segment is told to be, but for its stream's number
pub record IsSameTaken (t u : Taken) : Type 0 where
  pub side : t.side ≡ u.side
  pub seq : t.seq ≡ u.seq
  pub ack : t.ack ≡ u.ack
  pub position : t.position ≡ u.position
  pub front_before : t.front_before ≡ u.front_before
  pub front_after : t.front_after ≡ u.front_after
  pub lost : t.lost ≡ u.lost

-- a conversation's streams are the same in both lists, and so is what its next segment is told to be
pub record IsIsolated (s : Segment) (past ys : List Segment) : Type 0 where
  pub streams : AreSameStreams (labels past) (labels ys) (streams_of s (labels past)) (streams_of s (labels ys))
  pub told : (t : Segment) → IsSameButFrame s t → IsSameTaken (taken_after past s) (taken_after ys t)
