-- Domain names with compression (RFC 1035, 3.1 and 4.1.4): runs of labels, of which the last ends with a zero byte and
-- each other one with a pointer to an earlier run of the message.
--
--    a label                            the end        a pointer: a place in the message
--    +---+---+---------+- - - -+        +---------+    +---+---+-------------------------+
--    | 0   0 | length  | bytes |        |    0    |    | 1   1 |         target          |
--    +---+---+---------+- - - -+        +---------+    +---+---+-------------------------+
use Rattle.std.specs.Prelude.{◌≡◌, ◌==◌, ◌≤◌, ◌<◌, ◌↔◌, ℕ, zero, suc, ◌+◌, ◌-◌, ◌*◌, if◌then◌else◌, List, [], ◌∷◌, ◌++◌, length, nat_le, nat_lt, slice_index, slice_range, Option, Some, None}
use Rattle.dis_dns.specs.declared.names.NameEnd.{NameEnd}
use Rattle.dis_dns.specs.declared.names.NameEnd.TheVariants.{Name, Leaves, Fails}
use Rattle.dis_dns.specs.declared.names.Turn.{Turn}
use Rattle.dis_dns.specs.declared.names.Turn.TheVariants.{Label, Jump, Over}
use Rattle.dis_dns.specs.declared.names.Walk.{Walk}

-- where the pointer at a place leads: the 14 bits behind its two ones
abbrev pub target_at : List ℕ → ℕ → ℕ
target_at bytes place = (slice_index bytes place - 192) * 256 + slice_index bytes (place + 1)

-- the labels from a place on in a run that begins at a start and may not go past a limit, with those of the runs that it
-- leads to, and the place behind the run; a pointer leads to a run that begins before the one that it ends
pub data IsRun (bytes : List ℕ) : ℕ → ℕ → ℕ → List (List ℕ) → ℕ → Type 0 where
  root : (start limit place : ℕ) → place < limit → slice_index bytes place ≡ 0
      → IsRun bytes start limit place [] (place + 1)
  labelled : (start limit place : ℕ) (labels : List (List ℕ)) (after : ℕ)
      → place + 1 + slice_index bytes place ≤ limit → 0 < slice_index bytes place
      → slice_index bytes place < 64 →
      IsRun bytes start limit (place + 1 + slice_index bytes place) labels after →
      IsRun bytes start limit place
      (slice_range bytes (place + 1) (place + 1 + slice_index bytes place) ∷ labels) after
  pointed : (start limit place : ℕ) (labels : List (List ℕ)) (after : ℕ) → place + 2 ≤ limit
      → 192 ≤ slice_index bytes place → target_at bytes place < start →
      IsRun bytes (target_at bytes place) (length bytes) (target_at bytes place) labels after →
      IsRun bytes start limit place labels (place + 2)

-- the bytes of labels with their lengths
abbrev pub size_of_labels : List (List ℕ) → ℕ
size_of_labels [] = 0
size_of_labels (label ∷ labels) = 1 + length label + size_of_labels labels

-- the name at a place of a message: its labels, and the place behind its first run, which may not go past an end; its
-- lengths, bytes and last zero are at most 255 (RFC 1035, 2.3.4)
pub record IsName (bytes : List ℕ) (end place : ℕ) (labels : List (List ℕ))
    (after : ℕ) : Type 0 where
  pub run : IsRun bytes place end place labels after
  pub short : size_of_labels labels + 1 ≤ 255

-- a text with one more label, behind a dot where it isn't the first
abbrev pub dotted : List ℕ → List ℕ → List ℕ
dotted [] label = label
dotted (letter ∷ text) label = (letter ∷ text) ++ 46 ∷ label

-- a text with more labels
abbrev pub text_on : List ℕ → List (List ℕ) → List ℕ
text_on text [] = text
text_on text (label ∷ labels) = text_on (dotted text label) labels

-- where the name ends: behind its first run
abbrev pub after_or : Option ℕ → ℕ → ℕ
after_or None here = here
after_or (Some after) here = after

-- a run that goes past its limit; only the first one has its own
abbrev pub left_by : Option ℕ → NameEnd
left_by None = Leaves
left_by (Some after) = Fails

-- a label, which is asked for room first and for the limit of a name, with its last zero, second
abbrev pub label_turn : Walk → ℕ → Turn
label_turn w len =
    if nat_lt w.limit (w.place + 1 + len) then Over (left_by w.after)
    else (if nat_lt 255 (w.size + 1 + len + 1) then Over Fails
    else Label len (record w { place = w.place + 1 + len; size = w.size + 1 + len }))

abbrev pub pointer_turn : List ℕ → Walk → Turn
pointer_turn bytes w =
    if nat_lt w.limit (w.place + 2) then Over (left_by w.after)
    else (if nat_lt (target_at bytes w.place) w.start
    then Jump (record {
      start = target_at bytes w.place;
      limit = length bytes;
      place = target_at bytes w.place;
      size = w.size;
      after = Some (after_or w.after (w.place + 2));
    })
    else Over Fails)

-- what stands at the place that a name's reading has come to
unfoldable pub turn_of : List ℕ → Walk → Turn
turn_of bytes w =
    if nat_le w.limit w.place then Over (left_by w.after)
    else (if slice_index bytes w.place == 0 then Over (Name (after_or w.after (w.place + 1)))
    else (if nat_lt (slice_index bytes w.place) 64 then label_turn w (slice_index bytes w.place)
    else (if nat_le 192 (slice_index bytes w.place) then pointer_turn bytes w
    else Over Fails)))

abbrev pub on_turn : (Walk → List ℕ → NameEnd × List ℕ) → List ℕ → Walk → List ℕ → Turn
    → NameEnd × List ℕ
on_turn go bytes w text (Label len next) =
    go next (dotted text (slice_range bytes (w.place + 1) (w.place + 1 + len)))
on_turn go bytes w text (Jump next) = go next text
on_turn go bytes w text (Over end) = (end, text)

unfoldable pub walked : ℕ → List ℕ → Walk → List ℕ → NameEnd × List ℕ
walked zero bytes w text = (Fails, text)
walked (suc turns) bytes w text = on_turn (walked turns bytes) bytes w text (turn_of bytes w)

-- more turns than a name can take: each pointer leads to an earlier run, each label makes the name longer
abbrev pub turns_left : Walk → ℕ
turns_left w = w.start * 256 + (256 - w.size)

abbrev pub first_walk : ℕ → ℕ → Walk
first_walk end place = record { start = place; limit = end; place = place; size = 0; after = None }

-- how the name at a place ends, and the text of the labels that were read
unfoldable pub name_at : List ℕ → ℕ → ℕ → NameEnd × List ℕ
name_at bytes end place = walked (turns_left (first_walk end place)) bytes (first_walk end place) []

-- the reading finds exactly the names that there are
abbrev pub ReadsNames : Type 0
ReadsNames = (bytes : List ℕ) (end place after : ℕ) (text : List ℕ) → end ≤ length bytes →
    (name_at bytes end place ≡ (Name after, text))
    ↔ ((labels : List (List ℕ)) × IsName bytes end place labels after
    × (text ≡ text_on [] labels))

-- the run at a place goes past an end: it is at the end, or a label or a pointer there doesn't fit before it, or one behind
-- labels that make no name too long; the size is that of the labels so far
pub data IsLeaving (bytes : List ℕ) (end : ℕ) : ℕ → ℕ → Type 0 where
  at_end : (place size : ℕ) → end ≤ place → IsLeaving bytes end place size
  in_label : (place size : ℕ) → place < end → 0 < slice_index bytes place
      → slice_index bytes place < 64 → end < place + 1 + slice_index bytes place
      → IsLeaving bytes end place size
  in_pointer : (place size : ℕ) → place < end → 192 ≤ slice_index bytes place → end < place + 2
      → IsLeaving bytes end place size
  past_label : (place size : ℕ) → place + 1 + slice_index bytes place ≤ end
      → 0 < slice_index bytes place → slice_index bytes place < 64
      → size + 1 + slice_index bytes place + 1 ≤ 255 →
      IsLeaving bytes end (place + 1 + slice_index bytes place) (size + 1 + slice_index bytes place)
      → IsLeaving bytes end place size

-- a name leaves its message, or its record's data, exactly where its first run does: any other run's end is the message's
abbrev pub TellsLeaving : Type 0
TellsLeaving = (bytes : List ℕ) (end place : ℕ)
    → ((name_at bytes end place).0 ≡ Leaves) ↔ IsLeaving bytes end place 0

-- a name ends behind its place, inside its message
abbrev pub EndsIn : ℕ → ℕ → NameEnd → Type 0
EndsIn place most (Name after) = (place < after) × (after ≤ most)
EndsIn place most Leaves = Unit {0}
EndsIn place most Fails = Unit {0}

-- a place inside a message of so many bytes, in a name that may still have its last zero; the first run began there
abbrev pub FirstFits : Option ℕ → ℕ → ℕ → ℕ → Type 0
FirstFits None first most here = first ≤ here
FirstFits (Some after) first most here = (first < after) × (after ≤ most)

pub record IsWalkIn (most first : ℕ) (w : Walk) : Type 0 where
  pub limit : w.limit ≤ most
  pub begun : w.start ≤ w.place
  pub short : w.size + 1 ≤ 255
  pub ends : FirstFits w.after first most w.place

abbrev pub TurnFits : List ℕ → ℕ → Walk → Turn → Type 0
TurnFits bytes first w (Label len next) =
    IsWalkIn (length bytes) first next × (turns_left next < turns_left w) × (0 < len)
    × (w.place + 1 + len ≤ length bytes)
TurnFits bytes first w (Jump next) =
    IsWalkIn (length bytes) first next × (turns_left next < turns_left w)
TurnFits bytes first w (Over end) = EndsIn first (length bytes) end
