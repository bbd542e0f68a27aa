-- The messages of one direction of a stream, one behind the other, and which of them are new in longer bytes.
use Rattle.std.specs.Prelude.{◌≡◌, ◌<◌, ◌≤◌, ℕ, zero, suc, ◌+◌, ◌-◌, if◌then◌else◌, Bool, List, [], ◌∷◌, ◌++◌, length, nat_lt, Option, Some, None}
use Rattle.stream_messages.specs.declared.shape.Then.{Then}
use Rattle.stream_messages.specs.declared.shape.Then.TheVariants.{Follows, Opaque}
use Rattle.pk_base.specs.declared.stretch.Stretch.{Stretch}
use Rattle.stream_messages.specs.declared.framer.Framer.{Framer}
use Rattle.stream_messages.specs.declared.told.Told.{Told}
use Rattle.stream_messages.specs.declared.placed.Placed.{Placed}
use Rattle.stream_messages.specs.Tellings.{first_of, end_of, then_of, passed, answers}

-- which responses are to HEAD: by the position where one begins, and the number of requests that were answered before it
abbrev pub Asked : Type 0
Asked = ℕ → ℕ → Bool

-- nothing behind opaque bytes is known
abbrev pub follow : Then → List Placed → List Placed
follow (Follows count) ms = ms
follow Opaque ms = []

abbrev pub with_first : ℕ → Option Told → (Told → List Placed) → List Placed
with_first at None more = []
with_first at (Some told) more = record { at = at; told = told } ∷ follow (then_of told) (more told)

-- the whole messages of bytes that begin at a position, behind so many that are passed over and so many answers; they end where
-- a message would begin and no whole one stands
unfoldable pub messages : Framer → Asked → ℕ → ℕ → ℕ → List ℕ → List Placed
messages framer asked count at skip [] = []
messages framer asked count at (suc skip) (b ∷ rest) = messages framer asked count (suc at) skip rest
messages framer asked count at zero (b ∷ rest) =
    with_first at (first_of framer (asked at count) (b ∷ rest)) (λ told.
    messages framer asked (count + answers told) (suc at)
    (end_of told - 1 + passed (then_of told)) rest)

-- the messages of a stretch of bytes that begins at a position, behind so many answers
abbrev pub of_front : Framer → Asked → ℕ → ℕ → List ℕ → List Placed
of_front framer asked count start front = messages framer asked count start 0 front

-- the position behind a message
abbrev pub end_at : Placed → ℕ
end_at m = m.at + end_of m.told

-- those that end past a position
abbrev pub above : ℕ → List Placed → List Placed
above before [] = []
above before (m ∷ ms) = if nat_lt before (end_at m) then m ∷ above before ms else above before ms

-- the same answers are to HEAD below a position
abbrev pub AgreeBelow : ℕ → Asked → Asked → Type 0
AgreeBelow end asked later = (at count : ℕ) → at < end → later at count ≡ asked at count

-- what longer bytes add are the messages that end in the new bytes
abbrev pub PrefixLaw : Type 0
PrefixLaw = (framer : Framer) (asked later : Asked) (count start : ℕ) (front more : List ℕ)
    → AgreeBelow (start + length front) asked later
    → of_front framer later count start (front ++ more)
    ≡ of_front framer asked count start front
    ++ above (start + length front) (of_front framer later count start (front ++ more))

-- the answers up to behind messages
abbrev pub answered : ℕ → List Placed → ℕ
answered count [] = count
answered count (m ∷ ms) = answered (count + answers m.told) ms

-- the messages of stretches: each is cut by itself, and the answers are counted over all of them
abbrev pub of_stretches : Framer → Asked → ℕ → List Stretch → List Placed
of_stretches framer asked count [] = []
of_stretches framer asked count (s ∷ ss) =
    of_front framer asked count s.start s.bytes
    ++ of_stretches framer asked (answered count (of_front framer asked count s.start s.bytes)) ss

-- stretches that begin at or behind a position
abbrev pub AllFrom : ℕ → List Stretch → Type 0
AllFrom end [] = Unit {0}
AllFrom end (s ∷ ss) = (end ≤ s.start) × AllFrom end ss

-- stretches that end at or before a position
abbrev pub AllBefore : ℕ → List Stretch → Type 0
AllBefore end [] = Unit {0}
AllBefore end (s ∷ ss) = (s.start + length s.bytes ≤ end) × AllBefore end ss

-- the last of the stretches ends at a position, and has more bytes later; behind it may come others
abbrev pub AreLonger : ℕ → List Stretch → List Stretch → Type 0
AreLonger end [] ts = AllFrom end ts
AreLonger end (s ∷ ss) [] = ⊥
AreLonger end (s ∷ []) (t ∷ ts) =
    (t.start ≡ s.start) × ((more : List ℕ) × (t.bytes ≡ s.bytes ++ more))
    × (s.start + length s.bytes ≡ end) × AllFrom end ts
AreLonger end (s ∷ next ∷ ss) (t ∷ ts) =
    (t ≡ s) × (s.start + length s.bytes ≤ end) × AreLonger end (next ∷ ss) ts

-- so each message of stretches is new once, when its last byte comes
abbrev pub StretchLaw : Type 0
StretchLaw = (framer : Framer) (asked later : Asked) (count end : ℕ) (ss ts : List Stretch)
    → AreLonger end ss ts → AgreeBelow end asked later
    → of_stretches framer later count ts
    ≡ of_stretches framer asked count ss ++ above end (of_stretches framer later count ts)

-- where the last of stretches has grown, the new messages are its own; where others begin behind lost bytes, they are all of theirs
pub record NewLaws : Type 0 where
  pub grown : (framer : Framer) (asked : Asked) (count end : ℕ) (ss : List Stretch) (t : Stretch)
      → AllBefore end ss
      → above end (of_stretches framer asked count (ss ++ t ∷ []))
      ≡ above end (of_front framer asked
      (answered count (of_stretches framer asked count ss)) t.start t.bytes)
  pub begun : (framer : Framer) (asked : Asked) (count end : ℕ) (ss ts : List Stretch) → AllBefore end ss
      → AllFrom end ts
      → above end (of_stretches framer asked count (ss ++ ts))
      ≡ of_stretches framer asked (answered count (of_stretches framer asked count ss)) ts
