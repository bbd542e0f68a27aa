-- Bytes whatever the order: what the segments of a direction say of its positions, with no front, no acknowledgement and
-- no order in it; and when that is what the direction holds.
use Rattle.std.specs.Prelude.{◌≡◌, ℕ, ◌+◌, ◌-◌, ◌^◌, ◌<◌, ◌≤◌, ◌⊎◌, Bool, true, if◌then◌else◌, List, [], ◌∷◌, length, slice_index, Some, unwrap_or}
use Rattle.std.specs.FinMap.{get}
use Rattle.range_bytes.specs.Held.{Cell}
use Rattle.tcp_streams.specs.declared.segment.Segment.{Segment}
use Rattle.tcp_streams.specs.Numbers.{first_number, ahead, window}
use Rattle.tcp_streams.specs.Ways.{Sided, same_side, front_for, way_after}

-- a segment's first position, by the origin alone
abbrev pub offset : ℕ → Segment → ℕ
offset origin s = ahead origin 0 (first_number s)

pub record Gives (origin : ℕ) (s : Segment) (position byte : ℕ) : Type 0 where
  pub low : offset origin s ≤ position
  pub high : position < offset origin s + length s.payload
  pub is : slice_index s.payload (position - offset origin s) ≡ byte

-- a segment among those of one side
abbrev pub IsSent : Bool → List Sided → Segment → Type 0
IsSent side [] s = ⊥
IsSent side (l ∷ ls) s = ((same_side side l.side ≡ true) × (l.segment ≡ s)) ⊎ IsSent side ls s

pub record IsGiven (origin : ℕ) (side : Bool) (ls : List Sided) (position byte : ℕ) : Type 0 where
  pub segment : Segment
  pub sent : IsSent side ls segment
  pub gives : Gives origin segment position byte

-- any two segments that cover a position give the same byte there
abbrev pub AllAgree : ℕ → Bool → List Sided → Type 0
AllAgree origin side ls = (position a b : ℕ) → IsGiven origin side ls position a → IsGiven origin side ls position b → a ≡ b

-- each segment with bytes ends in the window, by the front end at its arrival
abbrev pub AllInWindow : ℕ → Bool → List Sided → Type 0
AllInWindow origin side [] = Unit {0}
AllInWindow origin side (l ∷ ls) =
    (same_side side l.side ≡ true → 0 < length l.segment.payload → offset origin l.segment + length l.segment.payload ≤ front_for (way_after side ls) + window)
    × AllInWindow origin side ls

-- no segment with bytes reaches so far that its number could mean another position
abbrev pub AllShort : ℕ → Bool → List Sided → Type 0
AllShort origin side ls = (s : Segment) → IsSent side ls s → 0 < length s.payload → offset origin s + length s.payload < 2 ^ 31

-- how many bytes a direction's segments have
abbrev pub bytes_sent : Bool → List Sided → ℕ
bytes_sent side [] = 0
bytes_sent side (l ∷ ls) = (if same_side side l.side then length l.segment.payload else 0) + bytes_sent side ls

-- the direction's origin, where a segment has set it
abbrev pub HasOrigin : ℕ → Bool → List Sided → Type 0
HasOrigin origin side ls = unwrap_or (way_after side ls).origin origin ≡ origin

pub record IsOrderly (origin : ℕ) (side : Bool) (ls : List Sided) : Type 0 where
  pub origin_is : HasOrigin origin side ls
  pub agree : AllAgree origin side ls
  pub in_window : AllInWindow origin side ls
  pub short : AllShort origin side ls
  -- no gap was passed
  pub none_lost : (way_after side ls).earlier ≡ []

-- what is held was given
abbrev pub HoldsSent : ℕ → Bool → List Sided → Type 0
HoldsSent origin side ls = (position : ℕ) (cell : Cell) → get (way_after side ls).held position ≡ Some cell → IsGiven origin side ls position cell.0

-- what was given is held
abbrev pub HoldsGiven : ℕ → Bool → List Sided → Type 0
HoldsGiven origin side ls =
    (position byte : ℕ) → IsGiven origin side ls position byte → (frame : ℕ) × (get (way_after side ls).held position ≡ Some (byte, frame))

-- the bytes that are given from position 0 up to the first one that has none
pub record IsRunOf (origin : ℕ) (side : Bool) (ls : List Sided) (bytes : List ℕ) : Type 0 where
  pub given : (position : ℕ) → position < length bytes → IsGiven origin side ls position (slice_index bytes position)
  pub ends : (byte : ℕ) → IsGiven origin side ls (length bytes) byte → ⊥

-- segments that say the same, whatever their frames
pub record IsAlike (s t : Segment) : Type 0 where
  pub seq : s.seq ≡ t.seq
  pub syn : s.syn ≡ t.syn
  pub payload : s.payload ≡ t.payload

abbrev pub HasAlike : Bool → List Sided → Segment → Type 0
HasAlike side ls s = (t : Segment) × IsSent side ls t × IsAlike s t

-- the same segments, in any order and with any repeats
pub record HaveSameSent (side : Bool) (ls ms : List Sided) : Type 0 where
  pub there : (s : Segment) → IsSent side ls s → HasAlike side ms s
  pub back : (s : Segment) → IsSent side ms s → HasAlike side ls s

-- what a direction holds doesn't depend on the order in which its segments came: every held byte is one that was sent there;
-- and where the segments are orderly, what is held is all that was sent, and the front the same for every other order
pub record IsOrderFree (origin : ℕ) (side : Bool) (ls : List Sided) : Type 0 where
  pub sent : HasOrigin origin side ls → AllShort origin side ls → HoldsSent origin side ls
  pub given : IsOrderly origin side ls → HoldsGiven origin side ls
  pub run : IsOrderly origin side ls → IsRunOf origin side ls (way_after side ls).front
  -- that none reaches too far follows where they have few bytes
  pub short : AllInWindow origin side ls → (way_after side ls).earlier ≡ [] → bytes_sent side ls ≤ 2 ^ 30 → AllShort origin side ls
  pub free : (ms : List Sided) → IsOrderly origin side ls → IsOrderly origin side ms → HaveSameSent side ls ms → (way_after side ls).front ≡ (way_after side ms).front
