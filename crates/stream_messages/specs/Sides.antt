-- Both directions of a stream, segment by segment: what each shows, and which requests are known when a response begins. Lists of
-- segments have the newest first.
use Rattle.std.specs.Prelude.{◌≡◌, ◌≤◌, ℕ, ◌+◌, if◌then◌else◌, Bool, true, false, not, List, [], ◌∷◌, ◌++◌, length, nat_lt, get_or}
use Rattle.pk_base.specs.declared.stretch.Stretch.{Stretch}
use Rattle.stream_messages.specs.declared.framer.Framer.{Framer}
use Rattle.stream_messages.specs.declared.told.Told.{Told}
use Rattle.stream_messages.specs.declared.told.Told.TheVariants.{Sized, Http}
use Rattle.stream_messages.specs.declared.placed.Placed.{Placed}
use Rattle.stream_messages.specs.Messages.{Asked, AgreeBelow, above, of_stretches, AreLonger}

-- a segment's direction, and the stretches that this has with it
pub record Brought : Type 0 where
  pub side : Bool
  pub stretches : List Stretch

-- the same, and the messages that its frame shows
pub record Noted : Type 0 where
  pub side : Bool
  pub stretches : List Stretch
  pub shown : List Placed

abbrev pub same_side : Bool → Bool → Bool
same_side true other = other
same_side false other = not other

-- the position behind the last of stretches
abbrev pub end_behind : ℕ → List Stretch → ℕ
end_behind end [] = end
end_behind end (s ∷ ss) = end_behind (s.start + length s.bytes) ss

-- a direction's stretches, their end, and all messages that it showed
abbrev pub stretches_in : Bool → List Noted → List Stretch
stretches_in side [] = []
stretches_in side (n ∷ ns) = if same_side side n.side then n.stretches else stretches_in side ns

abbrev pub front_end : Bool → List Noted → ℕ
front_end side ns = end_behind 0 (stretches_in side ns)

abbrev pub shown_in : Bool → List Noted → List Placed
shown_in side [] = []
shown_in side (n ∷ ns) =
    if same_side side n.side then shown_in side ns ++ n.shown else shown_in side ns

-- the requests among messages: whether the method of each is HEAD
abbrev pub head_of : Told → List Bool
head_of (Sized end) = []
head_of (Http shape) = if shape.request then shape.asks_head ∷ [] else []

abbrev pub heads_in : List Placed → List Bool
heads_in [] = []
heads_in (m ∷ ms) = head_of m.told ++ heads_in ms

-- the segments before the first with which a direction reaches past a position
abbrev pub before_longer : Bool → ℕ → List Noted → List Noted
before_longer side at [] = []
before_longer side at (n ∷ ns) =
    if nat_lt at (front_end side (n ∷ ns)) then before_longer side at ns else n ∷ ns

-- a response is to HEAD where the request that it answers is HEAD, and was shown before the response's first byte came: a later
-- request changes nothing (RFC 9112, 6.3 and 9.2; that the first byte decides is a rule of this dissector)
unfoldable pub asked_in : Bool → List Noted → Asked
asked_in side ns at count =
    get_or (heads_in (shown_in (not side) (before_longer side at ns))) count false

-- a frame shows the messages that end past the bytes before it
abbrev pub note_next : Framer → List Noted → Brought → Noted
note_next framer ns b = record {
  side = b.side;
  stretches = b.stretches;
  shown = above (front_end b.side ns) (of_stretches framer (asked_in b.side ns) 0 b.stretches);
}

abbrev pub noted : Framer → List Brought → List Noted
noted framer [] = []
noted framer (b ∷ bs) = note_next framer (noted framer bs) b ∷ noted framer bs

-- stretches one behind the other
abbrev pub AreInOrder : ℕ → List Stretch → Type 0
AreInOrder low [] = Unit {0}
AreInOrder low (s ∷ ss) = (low ≤ s.start) × AreInOrder (s.start + length s.bytes) ss

-- each segment leaves the earlier stretches of its direction as they were, and has the last one grow, or others begin behind it
abbrev pub AllGrow : Framer → List Brought → Type 0
AllGrow framer [] = Unit {0}
AllGrow framer (b ∷ bs) =
    AreLonger (front_end b.side (noted framer bs)) (stretches_in b.side (noted framer bs)) b.stretches
    × (AreInOrder 0 b.stretches × AllGrow framer bs)

-- what is asked below a direction's end is not changed by a further segment
abbrev pub AskedLaw : Type 0
AskedLaw = (side : Bool) (n : Noted) (ns : List Noted)
    → AgreeBelow (front_end side (n ∷ ns)) (asked_in side ns) (asked_in side (n ∷ ns))

-- what is asked past it is told by the requests that the other direction has shown
abbrev pub HeadsLaw : Type 0
HeadsLaw = (side : Bool) (ns : List Noted) (at count : ℕ) → front_end side ns ≤ at
    → asked_in side ns at count ≡ get_or (heads_in (shown_in (not side) ns)) count false

-- the messages that the frames show of a direction, one frame behind the other, are those of its stretches: each in one frame
abbrev pub ShownOnce : Type 0
ShownOnce = (framer : Framer) (side : Bool) (bs : List Brought) → AllGrow framer bs
    → shown_in side (noted framer bs)
    ≡ of_stretches framer (asked_in side (noted framer bs)) 0 (stretches_in side (noted framer bs))

pub record SideLaws : Type 0 where
  pub asked : AskedLaw
  pub heads : HeadsLaw
  pub once : ShownOnce
