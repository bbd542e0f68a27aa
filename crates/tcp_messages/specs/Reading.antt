-- What reading a segment does to what is kept of its stream.
use Rattle.std.specs.Prelude.{◌≡◌, ◌==◌, ◌≤◌, ◌^◌, ℕ, Bool, not, All, List, [], ◌∷◌, ◌++◌, length, Option, None, Some, slice_get, slice_set}
use Rattle.pk_base.specs.declared.lost.Lost.{Lost}
use Rattle.pk_base.specs.declared.stretch.Stretch.{Stretch}
use Rattle.tcp_streams.specs.declared.segment.Segment.{Segment}
use Rattle.tcp_streams.specs.declared.segment.Taken.{Taken}
use Rattle.tcp_streams.specs.Labels.{Label, labels, opened, taken_after}
use Rattle.tcp_streams.specs.declared.streams.Streams.{Streams}
use Rattle.tcp_streams.specs.LetGo.{IsKeptOf, StandsFrom}
use Rattle.tcp_streams.specs.Standing.{AreReady, AreStepped, stream_count, streams_of}
use Rattle.tcp_streams.specs.Stands.{AllBelow}
use Rattle.tcp_streams.specs.Ways.{WayState, end_of, lost_in, own_step, stretches, IsWay}
use Rattle.stream_messages.specs.declared.placed.Placed.{Placed}
use Rattle.stream_messages.specs.declared.cursor.Cursor.{Cursor}
use Rattle.stream_messages.specs.declared.cutting.Shown.{Shown}
use Rattle.stream_messages.specs.declared.framer.Framer.{Framer}
use Rattle.stream_messages.specs.Messages.{Asked}
use Rattle.stream_messages.specs.Cursors.{AsksFrom, IsQuiet, IsWholeInOne}
use Rattle.stream_messages.specs.Sides.{heads_in}
use Rattle.tcp_messages.specs.declared.readers.Reader.{Reader}
use Rattle.tcp_messages.specs.declared.readers.Readers.{Readers}
use Rattle.tcp_messages.specs.Readers.{CutsWayFrom, IsBegun, IsBehindWayFrom, IsOfEnds, IsRight, ReadsStreamsFrom, reader_of, starts_of}

-- a message that lies in one of stretches, however it is framed
abbrev pub IsSomeWhole : List Stretch → Placed → Type 0
IsSomeWhole ss m = (framer : Framer) × IsWholeInOne framer ss m

-- messages that are framed so; where it isn't known where messages end, there are none
abbrev pub AreWholeIn : Option Framer → List Stretch → List Placed → Type 0
AreWholeIn None ss ms = ms ≡ []
AreWholeIn (Some framer) ss ms = All (IsWholeInOne framer ss) ms

-- a segment moves a front end by two windows at most, and each message that it brings has a byte of its own there
abbrev pub AreFew : Framer → WayState → List Lost → Cursor → List Placed → Type 0
AreFew framer v lost c messages = (w : WayState) (s : Segment) → IsWay w → v ≡ own_step w s → lost ≡ lost_in w
    → IsQuiet framer c w.front → length messages ≤ 2 ^ 25

-- what is cut of what is kept of a direction, are the messages that a segment of it brings to the direction
abbrev pub CutsFrom : Framer → List Bool → WayState → List Lost → Cursor → Shown → Type 0
CutsFrom framer heads v lost cursor shown = (asked : Asked) (w u : WayState) (s : Segment) → IsWay w → IsWay u → IsKeptOf w u → v ≡ own_step u s → lost ≡ lost_in u → AsksFrom (end_of w) heads asked
    → IsBehindWayFrom framer asked w u.start cursor → CutsWayFrom framer asked (end_of w) (own_step w s) v.start shown

-- a direction's reader with a segment that was read: the direction has these stretches with it
pub record IsRead (framer : Framer) (heads : List Bool) (v : WayState) (lost : List Lost) (old new : Reader) (messages : List Placed) : Type 0 where
  pub right : IsRight framer new.cursor v.front
  pub whole : All (IsWholeInOne framer (stretches v)) messages
  pub few : AreFew framer v lost old.cursor messages
  pub heads_are : new.heads.items ≡ old.heads.items ++ heads_in messages
  pub cut : CutsFrom framer heads v lost old.cursor (record { messages = messages; cursor = new.cursor })

abbrev pub side_of : Taken → Bool
side_of taken = taken.side == 1

-- both readers of its stream
pub record IsReadOn (v : WayState) (taken : Taken) (old new : Readers) (messages : List Placed) : Type 0 where
  pub framer : new.framer ≡ old.framer
  pub other : reader_of new (not (side_of taken)) ≡ reader_of old (not (side_of taken))
  pub own : IsRead old.framer (reader_of old (not (side_of taken))).heads.items v taken.lost (reader_of old (side_of taken)) (reader_of new (side_of taken)) messages

-- where it isn't known where messages end, nothing is kept
abbrev pub IsReadFrom : WayState → Taken → List (Option Readers) → List (Option Readers) → List Placed → Option Readers → Type 0
IsReadFrom v taken old new messages None = (new ≡ old) × (messages ≡ [])
IsReadFrom v taken old new messages (Some r) = (s : Readers) × (new ≡ slice_set old taken.stream (Some s)) × IsReadOn v taken r s messages

abbrev pub IsReadAt : WayState → Taken → List (Option Readers) → List (Option Readers) → List Placed → Type 0
IsReadAt v taken old new messages = (r : Option Readers) → slice_get old taken.stream ≡ Some r → IsReadFrom v taken old new messages r

-- as much is kept as streams were opened
pub record AreListed (ls : List Label) (readers : List (Option Readers)) : Type 0 where
  pub size : length readers ≡ opened ls
  pub below : AllBelow (opened ls) ls

-- what is kept of a new stream, which comes behind the others
abbrev pub IsNew : Option Framer → Option Readers → Type 0
IsNew None r = r ≡ None
IsNew (Some framer) None = ⊥
IsNew (Some framer) (Some r) = (r.framer ≡ framer) × ((side : Bool) → IsBegun (reader_of r side))

abbrev pub IsOpenedAt : Option Framer → ℕ → List (Option Readers) → List (Option Readers) → Type 0
IsOpenedAt framer number old new =
    (number ≡ length old → (r : Option Readers) × IsNew framer r × (new ≡ old ++ r ∷ [])) × ((number ≡ length old → ⊥) → new ≡ old)

-- a segment of streams of which bytes may have been let go, and what was kept before it
pub record IsBefore (framer_of : Segment → Option Framer) (framer : Option Framer) (past : List Segment) (s : Segment) (taken : Taken) (old new : Streams) (readers : List (Option Readers)) : Type 0 where
  pub ends : IsOfEnds framer_of
  pub framer_is : framer ≡ framer_of s
  pub stands : StandsFrom past old
  pub ready : AreReady old
  pub stepped : AreStepped s taken (streams_of old) (streams_of new)
  pub taken_is : taken ≡ taken_after past s
  pub listed : AreListed (labels past) readers
  pub count : length readers ≡ stream_count old
  pub reads : ReadsStreamsFrom framer_of (starts_of (streams_of old)) (labels past) readers
