-- What a dissector keeps, and what it stands for.
use Rattle.std.specs.Prelude.{◌≡◌, ℕ, ◌+◌, ◌-◌, ◌*◌, ◌<◌, ◌≤◌, ◌^◌, Bool, true, false, List, length, Option}
use Rattle.pk_fields.specs.declared.rules.DecodeAs.{DecodeAs}
use Rattle.pk_fields.specs.declared.rules.PortRule.{PortRule}
use Rattle.capture_read.specs.declared.frame.Frame.{Frame}
use Rattle.capture_read.specs.FrameList.{captured_bytes}
use Rattle.pk_base.specs.declared.heads.After.{After}
use Rattle.pk_base.specs.declared.heads.After.TheVariants as afters
use Rattle.pk_tree.specs.Trees.{TreeShown, IsTree}
use Rattle.ip_join.specs.Stands.{Stands as JoinsStandFor}
use Rattle.ip_join.specs.Waiting.{bytes_waiting}
use Rattle.tcp_streams.specs.PlacesStanding.{PlacesStandFor, places_taken}
use Rattle.tcp_streams.specs.Standing.{bytes_so_far, taken_so_far}
use Rattle.tcp_messages.specs.Standing.{ReadsFor, ReadsFrom, streams_in}
use Rattle.tcp_messages.specs.declared.message_streams.MessageStreams.{MessageStreams}
use Rattle.tcp_streams.specs.declared.segment.Segment.{Segment}
use Rattle.stream_messages.specs.declared.framer.Framer.{Framer}
use Rattle.message_links.specs.declared.notes.Direction.{Direction}
use Rattle.message_links.specs.declared.notes.Note.{Note}
use Rattle.dissect.specs.declared.state.State.{State}
use Rattle.app_layers.specs.declared.times.Times.{Times}
use Rattle.dissect.specs.declared.todo.Todo.{Todo}
use Rattle.dissect.specs.declared.todo.Todo.TheVariants as todos
use Rattle.dissect.specs.Conversations.{udp_opened}
use Rattle.dissect.specs.Events.{Event}
use Rattle.app_layers.specs.Aside.{LacksOnly}
use Rattle.dissect.specs.Fragments.{fragments_of}
use Rattle.dissect.specs.Keeping.{KeepsFor, KeepsWhole, followed_of, keeps_all, tells_places}
use Rattle.message_links.specs.LinkTables.{LinksStandFor}
use Rattle.message_links.specs.Linked.{linked}
use Rattle.message_links.specs.Links.{links_of}
use Rattle.dissect.specs.Links.{newest_links}
use Rattle.app_layers.specs.MessageLayers.{framer_of_segment}
use Rattle.message_links.specs.Notes.{Noted, noted_on}
use Rattle.dissect.specs.Notes.{noted}
use Rattle.dissect.specs.Segments.{segments_of}
use Rattle.app_layers.specs.Times.{AreTimes}
use Rattle.dissect.specs.Trees.{times_of, events_of}
use Rattle.dissect.specs.Walks.{Walk}

-- a dissector: the rules for ports, the fields that it was made for, whether it keeps only what their values need, whether it answered
-- an error, how many frames it took and how many captured bytes they had, and what later frames are read by
pub record DissectorShown : Type 0 where
  pub decode : DecodeAs
  pub wanted : List ℕ
  pub sparing : Bool
  pub spent : Bool
  pub taken : ℕ
  pub captured : ℕ
  pub times : Times
  pub state : State

-- the streams of segments, and their messages: every byte, unless those are let go that no later message needs
pub record StreamsStand (lets_go : Bool) (framer_of : Segment → Option Framer) (past : List Segment) (m : MessageStreams) : Type 0 where
  pub from : ReadsFrom framer_of past m
  pub whole : lets_go ≡ false → ReadsFor framer_of past m

-- what is kept of events: the fragments of datagrams that aren't whole yet, where they are numbered the conversations over UDP, where no
-- byte is kept the places in streams of TCP, else of the segments that are taken their streams, with the messages that they have by the
-- rules for ports, and where all is kept what links ask of messages, and the links of the newest frame
pub record StandsAt (rules : List PortRule) (es : List Event) (state : State) : Type 0 where
  pub joins : JoinsStandFor (fragments_of es) state.joins
  pub udp : state.keeps.numbers ≡ true → state.udp ≡ udp_opened es
  pub places : tells_places state.keeps.follows ≡ true → PlacesStandFor (segments_of es) state.places
  pub streams : StreamsStand state.keeps.lets_go (framer_of_segment rules) (followed_of rules state.keeps.follows (segments_of es)) state.streams
  pub links : keeps_all state.keeps ≡ true → LinksStandFor (noted rules es) state.links
  pub found : keeps_all state.keeps ≡ true → state.found.items ≡ newest_links rules es

-- the messages that a frame shows are linked, and kept for later links
pub record IsLinked (frame : ℕ) (at : Direction) (notes : List Note) (old new : State) : Type 0 where
  pub found : (ns : List Noted) → LinksStandFor ns old.links → new.found.items ≡ links_of ns at notes
  pub links : (ns : List Noted) → LinksStandFor ns old.links → LinksStandFor (noted_on frame at notes ns) new.links

-- nothing else of what is kept is changed
pub record IsSameButLinks (old new : State) : Type 0 where
  pub joins : new.joins ≡ old.joins
  pub udp : new.udp ≡ old.udp
  pub keeps : new.keeps ≡ old.keeps
  pub places : new.places ≡ old.places
  pub streams : new.streams ≡ old.streams

-- nothing but the conversations over UDP is changed
pub record IsSameButNumbers (old new : State) : Type 0 where
  pub joins : new.joins ≡ old.joins
  pub keeps : new.keeps ≡ old.keeps
  pub places : new.places ≡ old.places
  pub streams : new.streams ≡ old.streams
  pub links : new.links ≡ old.links
  pub found : new.found.items ≡ old.found.items

-- how many segments were taken, with their bytes or for their places alone
abbrev pub segments_taken : State → ℕ
segments_taken state = taken_so_far (streams_in state.streams) + places_taken state.places

-- at most so many conversations over UDP were opened, and segments of TCP taken; the same is kept as before
pub record AddsAtMost (most : ℕ) (old new : State) : Type 0 where
  pub udp : length new.udp ≤ length old.udp + most
  pub tcp : segments_taken new ≤ segments_taken old + most
  pub keeps : new.keeps ≡ old.keeps

-- how many bytes of packets are kept: those that streams were sent, and those of fragments that wait
abbrev pub bytes_kept : State → ℕ
bytes_kept state = bytes_so_far (streams_in state.streams) + bytes_waiting state.joins

-- a header adds at most one, and then nothing more is to be read of its frame; of so many bytes those are kept that aren't still to be
-- read
abbrev pub AddsOneThenEnds : ℕ → State → State → Todo → Type 0
AddsOneThenEnds bytes old new todos.Done = AddsAtMost 1 old new × (bytes_kept new ≤ bytes_kept old + bytes)
AddsOneThenEnds bytes old new (todos.Head head) = AddsAtMost 0 old new × (bytes_kept new + head.span.len ≤ bytes_kept old + bytes)

-- there is room for one conversation and one segment more, and for so many bytes
pub record HasRoomForOne (more : ℕ) (state : State) : Type 0 where
  pub udp : length state.udp + 1 < 2 ^ 32
  pub tcp : segments_taken state < 2 ^ 32 - 1
  pub bytes : bytes_kept state + more < 2 ^ 32

-- so there is where a header is still to be read
abbrev pub HasRoom : State → Todo → Type 0
HasRoom state todos.Done = Unit {0}
HasRoom state (todos.Head head) = HasRoomForOne head.span.len state

-- how many bytes follow a header
abbrev pub bytes_behind : After → ℕ
bytes_behind (afters.Next which span) = span.len
bytes_behind (afters.Packet which span packet) = span.len
bytes_behind (afters.Fragment head span) = span.len
bytes_behind (afters.Datagram head span) = span.len
bytes_behind (afters.Segment head span) = span.len
bytes_behind afters.End = 0

-- there is room for a header more: for what it adds to the state, of so many bytes, for so many layers, and for a buffer; and for the
-- messages that come behind the last one
pub record IsReady (most bytes : ℕ) (st : State) (t : TreeShown) : Type 0 where
  pub state : HasRoomForOne bytes st
  pub layers : length t.layers + most < 2 ^ 31
  pub buffers : length t.buffers + 1 < 2 ^ 31

-- where a header follows, few layers were added, and at most one buffer
abbrev pub AddsFew : ℕ → TreeShown → TreeShown → Todo → Type 0
AddsFew most old new todos.Done = Unit {0}
AddsFew most old new (todos.Head head) = (length new.layers ≤ length old.layers + most) × (length new.buffers ≤ length old.buffers + 1)

-- where a header follows, there is room for so many headers
abbrev pub HasSpace : ℕ → TreeShown → Todo → Type 0
HasSpace left t todos.Done = Unit {0}
HasSpace left t (todos.Head head) = (length t.layers + 6 * left ≤ 224) × (length t.buffers + left ≤ 34)

-- the tree that a way leads to; where not everything is kept and the way has ended, it lacks only what has nothing to show, if what is
-- kept is enough
pub record IsToldAs (state : State) (next : Todo) (whole t : TreeShown) : Type 0 where
  pub wanted : t.wanted ≡ whole.wanted
  pub same : (next ≡ todos.Done → keeps_all state.keeps ≡ true) → t ≡ whole
  pub lacks : KeepsFor state.keeps whole.wanted → LacksOnly whole t

-- how far a frame is read, with what is kept then
pub record IsWalked (rules : List PortRule) (w : Walk) (state : State) (t : TreeShown) (next : Todo) : Type 0 where
  pub stands : StandsAt rules w.events state
  pub tree : IsToldAs state next w.tree t
  pub todo : next ≡ w.todo

-- a frame that was read: the tree of a way that has ended, with the links of the wanted fields
pub record IsRead (rules : List PortRule) (wanted : List ℕ) (w : Walk) (state : State) (t : TreeShown) : Type 0 where
  pub bare : TreeShown
  pub fits : IsTree bare
  pub walked : IsWalked rules w state bare todos.Done
  pub with_links : t ≡ linked wanted state.found.items bare

-- the dissector after it took these frames, the newest first, by its rules
pub record IsAfter (past : List Frame) (d : DissectorShown) : Type 0 where
  pub not_spent : d.spent ≡ false
  pub taken : d.taken ≡ length past
  pub captured : d.captured ≡ captured_bytes past
  pub times : d.times ≡ times_of past
  pub state : StandsAt d.decode.rules (events_of past) d.state

-- a dissector that keeps everything stands for the frames that it took
unfoldable pub Stands : List Frame → DissectorShown → Type 0
Stands past d = IsAfter past d × (keeps_all d.state.keeps ≡ true) × (d.state.keeps.lets_go ≡ false)

-- any dissector does so as far as the fields go that it was made for
unfoldable pub StandsWithin : List Frame → DissectorShown → Type 0
StandsWithin past d = IsAfter past d

-- a dissector that has answered no error has opened at most as many conversations over UDP as it took frames, and taken at most
-- as many segments, and keeps no more bytes of packets than were captured; what it keeps is enough for the values of the fields that
-- it was made for, and for their trees where it wasn't made for values alone
pub record IsKept (d : DissectorShown) : Type 0 where
  pub times : AreTimes d.times
  pub udp : length d.state.udp < 2 ^ 32
  pub udp_few : d.spent ≡ false → length d.state.udp ≤ d.taken
  pub tcp_few : d.spent ≡ false → segments_taken d.state ≤ d.taken
  pub bytes_few : d.spent ≡ false → bytes_kept d.state ≤ d.captured
  pub asked : KeepsFor d.state.keeps d.wanted
  pub whole : d.sparing ≡ false → KeepsWhole d.state.keeps d.wanted
