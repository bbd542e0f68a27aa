-- A frame's tree rests on its own conversation. Of all earlier frames it reads their times, the fragments of its datagrams (RFC 791, 3.2;
-- RFC 8200, 4.5), the segments of its conversation of TCP (RFC 9293, 3.3.1), and what number its stream of TCP or conversation over UDP
-- has; its links read the messages of its stream. Whatever else came before, or between, changes nothing. Lists have the newest first.
use Rattle.std.specs.Prelude.{◌≡◌, ◌==◌, ◌&&◌, Bool, List, [], ◌∷◌, ◌++◌, filter}
use Rattle.pk_fields.specs.declared.rules.PortRule.{PortRule}
use Rattle.ip_join.specs.Stands.{of_key}
use Rattle.tcp_streams.specs.declared.segment.Segment.{Segment}
use Rattle.tcp_streams.specs.Conversations.{same_bool}
use Rattle.tcp_streams.specs.Isolation.{between}
use Rattle.tcp_streams.specs.Labels.{taken_after}
use Rattle.message_links.specs.declared.notes.Direction.{Direction}
use Rattle.message_links.specs.Notes.{Noted, tcp_direction, udp_direction}
use Rattle.capture_read.specs.declared.frame.Frame.{Frame}
use Rattle.app_layers.specs.declared.times.Times.{Times}
use Rattle.dissect.specs.Conversations.{udp_stream}
use Rattle.dissect.specs.Events.{Event, NewFrame, Piece, Udp, Tcp}
use Rattle.dissect.specs.Fragments.{fragments_of}
use Rattle.dissect.specs.Notes.{noted}
use Rattle.dissect.specs.Segments.{segment_from, segments_of}
use Rattle.dissect.specs.Trees.{bare_tree, events_of, times_of, tree_at, walk_of}

-- what the newest frame brought: the events since it began
abbrev pub newest_events : List Event → List Event
newest_events [] = []
newest_events (NewFrame ∷ es) = []
newest_events (Piece frame head bytes ∷ es) = Piece frame head bytes ∷ newest_events es
newest_events (Udp frame packet head bytes ∷ es) = Udp frame packet head bytes ∷ newest_events es
newest_events (Tcp frame packet head bytes ∷ es) = Tcp frame packet head bytes ∷ newest_events es

abbrev pub brought : List Frame → Frame → List Event
brought past frame = newest_events (events_of (frame ∷ past))

-- the same segments of a segment's conversation, in the same order, and the same number for its stream
pub record HaveSameSegments (s : Segment) (past others : List Segment) : Type 0 where
  pub segments : between s past ≡ between s others
  pub number : (taken_after past s).stream ≡ (taken_after others s).stream

-- what two pasts have in common, for what a frame brings: for a fragment the fragments of its datagram, for a packet over UDP the number
-- of its conversation, for a segment the segments of its conversation and the number of its stream
abbrev pub AreAlikeFor : List Event → List Event → List Event → Type 0
AreAlikeFor [] es others = Unit {0}
AreAlikeFor (NewFrame ∷ own) es others = AreAlikeFor own es others
AreAlikeFor (Piece frame head bytes ∷ own) es others =
    (of_key head (fragments_of es) ≡ of_key head (fragments_of others)) × AreAlikeFor own es others
AreAlikeFor (Udp frame packet head bytes ∷ own) es others =
    (udp_stream es packet head ≡ udp_stream others packet head) × AreAlikeFor own es others
AreAlikeFor (Tcp frame packet head bytes ∷ own) es others =
    HaveSameSegments (segment_from frame packet head bytes) (segments_of es) (segments_of others) × AreAlikeFor own es others

-- the messages of a direction's stream, of both its sides
abbrev pub same_stream : Direction → Direction → Bool
same_stream one other = same_bool one.tcp other.tcp && one.stream == other.stream

abbrev pub in_stream : Direction → List Noted → List Noted
in_stream at ns = filter (λ n. same_stream n.at at) ns

-- the same messages were shown of the stream of what a frame brings
abbrev pub HaveSameNotes : List PortRule → List Event → List Event → List Event → Type 0
HaveSameNotes rules [] es others = Unit {0}
HaveSameNotes rules (NewFrame ∷ own) es others = HaveSameNotes rules own es others
HaveSameNotes rules (Piece frame head bytes ∷ own) es others = HaveSameNotes rules own es others
HaveSameNotes rules (Udp frame packet head bytes ∷ own) es others =
    (in_stream (udp_direction (udp_stream es packet head)) (noted rules es) ≡ in_stream (udp_direction (udp_stream es packet head)) (noted rules others))
    × HaveSameNotes rules own es others
HaveSameNotes rules (Tcp frame packet head bytes ∷ own) es others =
    (in_stream (tcp_direction (taken_after (segments_of es) (segment_from frame packet head bytes))) (noted rules es)
    ≡ in_stream (tcp_direction (taken_after (segments_of es) (segment_from frame packet head bytes))) (noted rules others))
    × HaveSameNotes rules own es others

-- a frame behind two pasts: its bare tree is the same, and it brings the same to later frames; with the same messages in its stream so
-- is its tree with links
pub record IsReadAlike (rules : List PortRule) (past others : List Frame) (frame : Frame) : Type 0 where
  pub bare : bare_tree rules past frame ≡ bare_tree rules others frame
  pub brings : brought past frame ≡ brought others frame
  pub tree : HaveSameNotes rules (brought past frame) (events_of past) (events_of others) → tree_at rules past frame ≡ tree_at rules others frame

-- so it is where both pasts tell the frame's layer the same times, and are alike for what the frame brings
abbrev pub TreesStandAlone : Type 0
TreesStandAlone = (rules : List PortRule) (past others : List Frame) (frame : Frame) → times_of past ≡ times_of others
    → AreAlikeFor (brought past frame) (events_of past) (events_of others)
    → IsReadAlike rules past others frame

-- none of these events is a fragment of a datagram, or a segment of the conversation, of what a frame brings
abbrev pub ShareNothing : List Event → List Event → Type 0
ShareNothing [] theirs = Unit {0}
ShareNothing (NewFrame ∷ own) theirs = ShareNothing own theirs
ShareNothing (Piece frame head bytes ∷ own) theirs = (of_key head (fragments_of theirs) ≡ []) × ShareNothing own theirs
ShareNothing (Udp frame packet head bytes ∷ own) theirs = ShareNothing own theirs
ShareNothing (Tcp frame packet head bytes ∷ own) theirs =
    (between (segment_from frame packet head bytes) (segments_of theirs) ≡ []) × ShareNothing own theirs

-- what a frame brings has the same number, of its stream of TCP or its conversation over UDP, behind both
abbrev pub HaveSameNumbers : List Event → List Event → List Event → Type 0
HaveSameNumbers [] es others = Unit {0}
HaveSameNumbers (NewFrame ∷ own) es others = HaveSameNumbers own es others
HaveSameNumbers (Piece frame head bytes ∷ own) es others = HaveSameNumbers own es others
HaveSameNumbers (Udp frame packet head bytes ∷ own) es others =
    (udp_stream es packet head ≡ udp_stream others packet head) × HaveSameNumbers own es others
HaveSameNumbers (Tcp frame packet head bytes ∷ own) es others =
    ((taken_after (segments_of es) (segment_from frame packet head bytes)).stream
    ≡ (taken_after (segments_of others) (segment_from frame packet head bytes)).stream)
    × HaveSameNumbers own es others

-- a frame with the same times is read to the same tree, and brings the same
pub record IsReadWithout (rules : List PortRule) (times : Times) (es others : List Event) (frame : Frame) : Type 0 where
  pub tree : (walk_of rules times es frame).tree ≡ (walk_of rules times others frame).tree
  pub brings : newest_events (walk_of rules times es frame).events ≡ newest_events (walk_of rules times others frame).events

-- events of other datagrams and conversations may be left out, wherever they stand, where the frame's numbers stay the same
abbrev pub OthersLeftOut : Type 0
OthersLeftOut = (rules : List PortRule) (times : Times) (later theirs earlier : List Event) (frame : Frame)
    → ShareNothing (newest_events (walk_of rules times (later ++ (theirs ++ earlier)) frame).events) theirs
    → HaveSameNumbers (newest_events (walk_of rules times (later ++ (theirs ++ earlier)) frame).events) (later ++ (theirs ++ earlier)) (later ++ earlier)
    → IsReadWithout rules times (later ++ (theirs ++ earlier)) (later ++ earlier) frame

-- or put in: the same, by what the frame brings without them
abbrev pub OthersPutIn : Type 0
OthersPutIn = (rules : List PortRule) (times : Times) (later theirs earlier : List Event) (frame : Frame)
    → ShareNothing (newest_events (walk_of rules times (later ++ earlier) frame).events) theirs
    → HaveSameNumbers (newest_events (walk_of rules times (later ++ earlier) frame).events) (later ++ (theirs ++ earlier)) (later ++ earlier)
    → IsReadWithout rules times (later ++ (theirs ++ earlier)) (later ++ earlier) frame

-- so a frame reads the same without the frame before it that shares nothing with it
abbrev pub OtherFrameLeftOut : Type 0
OtherFrameLeftOut = (rules : List PortRule) (times : Times) (past : List Frame) (other frame : Frame)
    → ShareNothing (newest_events (walk_of rules times (events_of (other ∷ past)) frame).events) (brought past other)
    → HaveSameNumbers (newest_events (walk_of rules times (events_of (other ∷ past)) frame).events) (events_of (other ∷ past)) (events_of past)
    → IsReadWithout rules times (events_of (other ∷ past)) (events_of past) frame
