-- A cursor behind the last whole message of a stretch: what the messages behind it are, and what is known of the next one.
use Rattle.std.specs.Prelude.{◌≡◌, ◌<◌, ◌≤◌, ℕ, ◌+◌, ◌-◌, ◌^◌, min, if◌then◌else◌, Bool, true, false, List, [], ◌∷◌, ◌++◌, length, drop, get_or, slice_get, Option, Some, None}
use Rattle.std.specs.Option.{option_map}
use Rattle.pk_base.specs.declared.stretch.Stretch.{Stretch}
use Rattle.stream_messages.specs.declared.shape.Then.{Then}
use Rattle.stream_messages.specs.declared.shape.Then.TheVariants.{Follows, Opaque}
use Rattle.stream_messages.specs.Framers.{first_sized}
use Rattle.stream_messages.specs.HttpMessages.{resumed, begun as begun_asked}
use Rattle.stream_messages.specs.declared.framer.Framer.{Framer}
use Rattle.stream_messages.specs.declared.framer.Framer.TheVariants as framers
use Rattle.stream_messages.specs.declared.told.Told.{Told}
use Rattle.stream_messages.specs.declared.told.Told.TheVariants.{Sized, Http}
use Rattle.stream_messages.specs.declared.placed.Placed.{Placed}
use Rattle.stream_messages.specs.declared.part.Part.{Part}
use Rattle.stream_messages.specs.declared.part.Part.TheVariants as parts
use Rattle.stream_messages.specs.declared.part.Going.{Going}
use Rattle.stream_messages.specs.declared.part.Going.TheVariants.{Unfinished, Message}
use Rattle.stream_messages.specs.declared.cursor.Cursor.{Cursor}
use Rattle.stream_messages.specs.declared.cursor.Mark.{Mark}
use Rattle.stream_messages.specs.declared.cursor.Next.{Next}
use Rattle.stream_messages.specs.declared.cursor.Next.TheVariants.{Never, Awaited, Begun}
use Rattle.stream_messages.specs.declared.cutting.Shown.{Shown}
use Rattle.stream_messages.specs.declared.cutting.Cut.{Cut}
use Rattle.stream_messages.specs.declared.cutting.Cut.TheVariants.{Whole, Rest}
use Rattle.stream_messages.specs.Tellings.{first_of, end_of, then_of, passed, answers}
use Rattle.stream_messages.specs.Messages.{Asked, of_front, end_at, above, AgreeBelow, answered}

-- ---- a message of which a part was looked at

-- what is found of it
abbrev pub resumed_part : Part → List ℕ → Option Told
resumed_part (parts.Sized head at width) bytes = option_map Sized (first_sized head at width bytes)
resumed_part (parts.Http progress) bytes = option_map Http (resumed progress bytes)

-- what is known of the first message of bytes says it, whatever follows
abbrev pub IsKnown : Framer → Bool → Part → List ℕ → Type 0
IsKnown framer asked part bytes = (more : List ℕ)
    → first_of framer asked (bytes ++ more) ≡ resumed_part part (bytes ++ more)

abbrev pub found : Going → Option Told
found (Unfinished part) = None
found (Message told) = Some told

-- what is found of more bytes than were there
abbrev pub went_on : Going → List ℕ → Option Told
went_on (Unfinished part) bytes = resumed_part part bytes
went_on (Message told) bytes = Some told

-- what is known of a message before its first byte
abbrev pub part_begun : Framer → Bool → Part
part_begun (framers.LengthPrefix head at width) asked = parts.Sized head at width
part_begun framers.Http asked = parts.Http (begun_asked asked)

-- an answer is what is found of the bytes, and nothing is lost for more of them
pub record GoesOn (part : Part) (bytes : List ℕ) (going : Going) : Type 0 where
  pub answer : found going ≡ resumed_part part bytes
  pub later : (more : List ℕ) → resumed_part part (bytes ++ more) ≡ went_on going (bytes ++ more)

-- ---- cursors

-- where the next message begins
abbrev pub next_at : Mark → ℕ
next_at mark = mark.end + mark.skip

abbrev pub next_behind : Then → Next
next_behind (Follows count) = Awaited
next_behind Opaque = Never

-- a number as it is counted: at its last value a count stands still
abbrev pub counted : ℕ → ℕ
counted number = min number (2 ^ 64 - 1)

-- a count stands for a number: one that has reached its last value for each from there on
abbrev pub CountsFor : ℕ → ℕ → Type 0
CountsFor count number = counted count ≡ counted number

-- behind the message that begins there
abbrev pub mark_behind : Mark → Told → Mark
mark_behind mark told = record {
  end = next_at mark + end_of told;
  skip = passed (then_of told);
  answers = counted (mark.answers + answers told);
}

abbrev pub cursor_behind : Mark → Told → Cursor
cursor_behind mark told = record { mark = mark_behind mark told; next = next_behind (then_of told) }

-- before the first byte of a stretch, behind so many answers
abbrev pub begun : ℕ → Cursor
begun count = record { mark = record { end = 0; skip = 0; answers = count }; next = Awaited }

abbrev pub answers_before : Cursor → ℕ
answers_before c = c.mark.answers

-- whether a message may come
abbrev pub goes : Next → Bool
goes Never = false
goes Awaited = true
goes (Begun started) = true

-- the messages behind a cursor of a stretch that begins at a position, behind so many answers
abbrev pub from_cursor : Framer → Asked → ℕ → ℕ → Cursor → List ℕ → List Placed
from_cursor framer asked start number c front =
    if goes c.next then of_front framer asked number (start + next_at c.mark)
    (drop (next_at c.mark) front) else []

-- either no byte of the next message is there, or what is known of it says it
abbrev pub KnowsNext : Framer → Bool → ℕ → List ℕ → Next → Type 0
KnowsNext framer asked at front Never = Unit {0}
KnowsNext framer asked at front Awaited = length front ≤ at
KnowsNext framer asked at front (Begun started) = (at < length front) × IsKnown framer started.asked started.part (drop at front) × (started.asked ≡ asked)

-- a cursor is behind the messages of a stretch: all others come behind it, whatever bytes follow, and whatever is asked of them
pub record IsBehind (framer : Framer) (asked : Asked) (count start : ℕ) (c : Cursor)
    (front : List ℕ) : Type 0 where
  pub behind : (later : Asked) (more : List ℕ) → AgreeBelow (start + length front) asked later
      → of_front framer later count start (front ++ more)
      ≡ of_front framer asked count start front ++ from_cursor framer later start
      (answered count (of_front framer asked count start front)) c (front ++ more)
  pub counts : CountsFor (answers_before c) (answered count (of_front framer asked count start front))
  pub known : KnowsNext framer
      (asked (start + next_at c.mark) (answered count (of_front framer asked count start front)))
      (next_at c.mark) front c.next

-- what a cursor knows of a message that has begun is right
abbrev pub IsSoundNext : Framer → ℕ → List ℕ → Next → Type 0
IsSoundNext framer at front Never = Unit {0}
IsSoundNext framer at front Awaited = Unit {0}
IsSoundNext framer at front (Begun started) = (at < length front) × IsKnown framer started.asked started.part (drop at front)

abbrev pub IsSound : Framer → Cursor → List ℕ → Type 0
IsSound framer c front = IsSoundNext framer (next_at c.mark) front c.next

-- no whole message is left behind a cursor in the bytes of its stretch
abbrev pub IsQuietNext : Framer → ℕ → List ℕ → Next → Type 0
IsQuietNext framer at front Never = Unit {0}
IsQuietNext framer at front Awaited = length front ≤ at
IsQuietNext framer at front (Begun started) = first_of framer started.asked (drop at front) ≡ None

abbrev pub IsQuiet : Framer → Cursor → List ℕ → Type 0
IsQuiet framer c front = IsQuietNext framer (next_at c.mark) front c.next

-- each new message has a new byte, where none was left in the bytes before
abbrev pub AddsFew : Framer → Cursor → List ℕ → List Placed → Type 0
AddsFew framer c front ms =
    (old new : List ℕ) → front ≡ old ++ new → IsQuiet framer c old → length ms ≤ length new

-- how many bytes stretches have
abbrev pub bytes_in : List Stretch → ℕ
bytes_in [] = 0
bytes_in (s ∷ ss) = length s.bytes + bytes_in ss

-- the responses that begin between two positions are to HEAD where the request that they answer is
abbrev pub AsksBetween : ℕ → ℕ → List Bool → Asked → Type 0
AsksBetween from to heads asked = (at count : ℕ) → from ≤ at → at < to
    → asked at count ≡ get_or heads count false

-- the same of all responses from a position on
abbrev pub AsksFrom : ℕ → List Bool → Asked → Type 0
AsksFrom from heads asked = (at count : ℕ) → from ≤ at → asked at count ≡ get_or heads count false

-- a cursor is behind the messages of the last of stretches, or where there are none, it is as before
abbrev pub IsBehindAll : Framer → Asked → ℕ → Cursor → List Stretch → Cursor → Type 0
IsBehindAll framer asked count old [] new = new ≡ old
IsBehindAll framer asked count old (s ∷ []) new = IsBehind framer asked count s.start new s.bytes
IsBehindAll framer asked count old (s ∷ next ∷ ss) new =
    IsBehindAll framer asked (answered count (of_front framer asked count s.start s.bytes)) old
    (next ∷ ss) new

-- what is shown of a longer stretch are its new messages, and the cursor is behind all of them
pub record IsCut (framer : Framer) (asked : Asked) (count start : ℕ) (old front : List ℕ)
    (shown : Shown) : Type 0 where
  pub messages : shown.messages ≡ above (start + length old) (of_front framer asked count start front)
  pub cursor : IsBehind framer asked count start shown.cursor front

-- a message that is shown is the first one of its own bytes
pub record IsWhole (framer : Framer) (start : ℕ) (front : List ℕ) (m : Placed) : Type 0 where
  pub from : start ≤ m.at
  pub within : end_at m ≤ start + length front
  pub first : (asked : Bool) × (first_of framer asked (drop (m.at - start) front) ≡ Some m.told)

-- the same of one of stretches
abbrev pub IsWholeInOne : Framer → List Stretch → Placed → Type 0
IsWholeInOne framer ss m = (number : ℕ) × (s : Stretch) × (slice_get ss number ≡ Some s) × IsWhole framer s.start s.bytes m

-- with one more behind them
abbrev pub with_last : List Stretch → ℕ → List ℕ → List Stretch
with_last ss start front = ss ++ record { start = start; bytes = front } ∷ []

-- how a cursor is kept: it begins at a stretch, serves whatever is asked further on, and what it knows is right, also of more
-- bytes
pub record CursorLaws : Type 0 where
  pub begins : (framer : Framer) (asked : Asked) (number count start : ℕ) → CountsFor number count
      → IsBehind framer asked count start (begun number) []
  pub same : (framer : Framer) (asked later : Asked) (count start : ℕ) (c : Cursor) (front : List ℕ)
      → AgreeBelow (start + length front) asked later
      → IsBehind framer asked count start c front → IsBehind framer later count start c front
  pub sound : (framer : Framer) (asked : Asked) (count start : ℕ) (c : Cursor) (front more : List ℕ)
      → IsBehind framer asked count start c front
      → IsSound framer c (front ++ more)
  pub longer : (framer : Framer) (c : Cursor) (front more : List ℕ) → IsSound framer c front
      → IsSound framer c (front ++ more)

-- ---- one look for a message

-- the request of the next message: the one that it answers, fixed once a byte of it is there
abbrev pub IsAskedOf : Framer → Bool → List Bool → ℕ → Next → List ℕ → Type 0
IsAskedOf framer asked heads count Never bytes = Unit {0}
IsAskedOf framer asked heads count Awaited bytes = 0 < length bytes → asked ≡ get_or heads count false
IsAskedOf framer asked heads count (Begun started) bytes = started.asked ≡ asked

-- a message that begins where the next one does
pub record IsNext (framer : Framer) (asked : Bool) (start : ℕ) (front : List ℕ) (mark : Mark) (m : Placed)
    (c : Cursor) : Type 0 where
  pub first : first_of framer asked (drop (next_at mark) front) ≡ Some m.told
  pub at : m.at ≡ start + next_at mark
  pub cursor : c ≡ cursor_behind mark m.told

-- no whole message is there, and this is what is known of the next one
pub record IsRest (framer : Framer) (asked : Bool) (front : List ℕ) (old new : Cursor) : Type 0 where
  pub mark : new.mark ≡ old.mark
  pub goes_is : goes new.next ≡ goes old.next
  pub none : goes old.next ≡ true → first_of framer asked (drop (next_at old.mark) front) ≡ None
  pub known : KnowsNext framer asked (next_at old.mark) front new.next

abbrev pub IsCutFrom : Framer → Bool → ℕ → List ℕ → Cursor → Cut → Type 0
IsCutFrom framer asked start front old (Whole m new) =
    (goes old.next ≡ true) × IsNext framer asked start front old.mark m new
IsCutFrom framer asked start front old (Rest new) = IsRest framer asked front old new

-- one look for a message is right for the request that it is asked of
abbrev pub IsLook : Framer → ℕ → List ℕ → List Bool → Cursor → Cut → Type 0
IsLook framer start front heads old cut =
    (asked : Bool) (number : ℕ) → CountsFor (answers_before old) number
    → IsAskedOf framer asked heads number old.next (drop (next_at old.mark) front)
    → IsCutFrom framer asked start front old cut

-- the same of a message that has begun
pub record IsPartRest (framer : Framer) (asked : Bool) (front : List ℕ) (mark : Mark)
    (new : Cursor) : Type 0 where
  pub same : new.mark ≡ mark
  pub goes_is : goes new.next ≡ true
  pub none : first_of framer asked (drop (next_at mark) front) ≡ None
  pub known : KnowsNext framer asked (next_at mark) front new.next

abbrev pub IsPartCut : Framer → Bool → ℕ → List ℕ → Mark → Cut → Type 0
IsPartCut framer asked start front mark (Whole m new) = IsNext framer asked start front mark m new
IsPartCut framer asked start front mark (Rest new) = IsPartRest framer asked front mark new
