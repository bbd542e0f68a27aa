-- A frame's tree but for numbers. Of a tree some items tell where a frame or a stream stands among others: numbers of frames and of streams,
-- and times since earlier frames. All its other items rest on the frame's own bytes, on the fragments of its datagrams (RFC 791, 3.2; RFC 8200,
-- 4.5) and on the segments of its conversation of TCP (RFC 9293, 3.3.1) alone, whatever numbers the frames of these have. So a capture from
-- which other conversations' frames were taken out gives the same of each frame that stays. Lists have the newest first.
use Rattle.std.specs.Prelude.{◌≡◌, ◌==◌, ℕ, Bool, true, false, List, [], ◌∷◌, ◌++◌, map, filter, if◌then◌else◌}
use Rattle.std.specs.List.{AllByRecursion}
use Rattle.pk_base.specs.declared.chosen.Layers.{Layers}
use Rattle.pk_fields.specs.FieldSets.{is_in}
use Rattle.pk_fields.specs.Ids.{FRAME_NUMBER, FRAME_TIME_RELATIVE, FRAME_TIME_DELTA, IP_FRAGMENT, IP_REASSEMBLED_IN, IPV6_FRAGMENT, IPV6_REASSEMBLED_IN, UDP_STREAM, TCP_STREAM, TCP_SEGMENT, TCP_REASSEMBLED_IN, DNS_RESPONSE_TO, DNS_RESPONSE_IN, HTTP_REQUEST_IN, HTTP_RESPONSE_IN}
use Rattle.pk_fields.specs.declared.rules.PortRule.{PortRule}
use Rattle.pk_tree.specs.FieldValues.{values_of}
use Rattle.pk_tree.specs.Trees.{kept_tree}
use Rattle.ip_join.specs.Renumbered.{renumbered as fragment_renumbered}
use Rattle.ip_join.specs.Stands.{of_key}
use Rattle.tcp_streams.specs.declared.segment.Segment.{Segment}
use Rattle.tcp_streams.specs.Isolation.{between}
use Rattle.tcp_messages.specs.Renumbered.{KeepsOrder, frames_of, renumbered as segment_renumbered}
use Rattle.capture_read.specs.declared.frame.Frame.{Frame}
use Rattle.dissect.specs.Events.{Event, NewFrame, Piece, Udp, Tcp}
use Rattle.dissect.specs.Fragments.{fragments_of}
use Rattle.dissect.specs.Isolation.{brought}
use Rattle.dissect.specs.Segments.{segment_from, segments_of}
use Rattle.dissect.specs.Trees.{bare_tree, events_of, tree_at}

-- the fields whose values are numbers of frames or of streams, or times since earlier frames
abbrev pub numbering : List ℕ
numbering =
    FRAME_NUMBER ∷ FRAME_TIME_RELATIVE ∷ FRAME_TIME_DELTA ∷
    IP_FRAGMENT ∷ IP_REASSEMBLED_IN ∷ IPV6_FRAGMENT ∷ IPV6_REASSEMBLED_IN ∷
    UDP_STREAM ∷ TCP_STREAM ∷ TCP_SEGMENT ∷ TCP_REASSEMBLED_IN ∷
    DNS_RESPONSE_TO ∷ DNS_RESPONSE_IN ∷ HTTP_REQUEST_IN ∷ HTTP_RESPONSE_IN ∷ []

-- none of them is in a set of fields, or is this field
abbrev pub HasNoNumbering : List ℕ → Type 0
HasNoNumbering wanted = AllByRecursion (λ field. is_in wanted field ≡ false) numbering

abbrev pub IsNoNumbering : ℕ → Type 0
IsNoNumbering field = AllByRecursion (λ other. (other == field) ≡ false) numbering

-- a frame, and what a frame brings, by other numbers
abbrev pub frame_renumbered : (ℕ → ℕ) → Frame → Frame
frame_renumbered renumber frame = record frame { number = renumber frame.number }

abbrev pub event_renumbered : (ℕ → ℕ) → Event → Event
event_renumbered renumber NewFrame = NewFrame
event_renumbered renumber (Piece frame head bytes) = Piece (renumber frame) head bytes
event_renumbered renumber (Udp frame packet head bytes) = Udp (renumber frame) packet head bytes
event_renumbered renumber (Tcp frame packet head bytes) = Tcp (renumber frame) packet head bytes

-- two pasts have the same fragments of each datagram that a frame brings a fragment of, but for the numbers of their frames
abbrev pub HaveSameFragments : (ℕ → ℕ) → List Event → List Event → List Event → Type 0
HaveSameFragments renumber [] es others = Unit {0}
HaveSameFragments renumber (NewFrame ∷ own) es others = HaveSameFragments renumber own es others
HaveSameFragments renumber (Piece frame head bytes ∷ own) es others =
    (of_key head (fragments_of others) ≡ map (fragment_renumbered renumber) (of_key head (fragments_of es))) × HaveSameFragments renumber own es others
HaveSameFragments renumber (Udp frame packet head bytes ∷ own) es others = HaveSameFragments renumber own es others
HaveSameFragments renumber (Tcp frame packet head bytes ∷ own) es others = HaveSameFragments renumber own es others

-- they have the same segments of a segment's conversation, in the same order, but for the numbers of their frames, which keep their order
pub record HaveSameConversation (renumber : ℕ → ℕ) (s : Segment) (past others : List Segment) : Type 0 where
  pub order : KeepsOrder renumber (frames_of (s ∷ between s past))
  pub segments : between s others ≡ map (segment_renumbered renumber) (between s past)

abbrev pub HaveSameConversations : (ℕ → ℕ) → List Event → List Event → List Event → Type 0
HaveSameConversations renumber [] es others = Unit {0}
HaveSameConversations renumber (NewFrame ∷ own) es others = HaveSameConversations renumber own es others
HaveSameConversations renumber (Piece frame head bytes ∷ own) es others = HaveSameConversations renumber own es others
HaveSameConversations renumber (Udp frame packet head bytes ∷ own) es others = HaveSameConversations renumber own es others
HaveSameConversations renumber (Tcp frame packet head bytes ∷ own) es others =
    HaveSameConversation renumber (segment_from frame packet head bytes) (segments_of es) (segments_of others)
    × HaveSameConversations renumber own es others

-- a frame's tree behind one past, and that of the frame by another number behind another: they are the same but for the items that number,
-- and so are those without links; each field that doesn't number has the same values
pub record IsSameButNumbers (rules : List PortRule) (renumber : ℕ → ℕ) (past others : List Frame) (frame : Frame) : Type 0 where
  pub bare : (wanted : List ℕ) → HasNoNumbering wanted
      → kept_tree wanted (bare_tree rules others (frame_renumbered renumber frame)) ≡ kept_tree wanted (bare_tree rules past frame)
  pub tree : (wanted : List ℕ) → HasNoNumbering wanted
      → kept_tree wanted (tree_at rules others (frame_renumbered renumber frame)) ≡ kept_tree wanted (tree_at rules past frame)
  pub values : (field : ℕ) (layers : Layers) → IsNoNumbering field
      → values_of (tree_at rules others (frame_renumbered renumber frame)) field layers ≡ values_of (tree_at rules past frame) field layers

-- so it is where both pasts have the same fragments of its datagrams and the same segments of its conversation, whatever else they have,
-- and whatever times
abbrev pub TreesButNumbers : Type 0
TreesButNumbers = (rules : List PortRule) (renumber : ℕ → ℕ) (past others : List Frame) (frame : Frame)
    → HaveSameFragments renumber (brought past frame) (events_of past) (events_of others)
    → HaveSameConversations renumber (brought past frame) (events_of past) (events_of others)
    → IsSameButNumbers rules renumber past others frame

-- what a frame brings to later frames rests on the fragments of its datagrams alone
abbrev pub BringsTheSame : Type 0
BringsTheSame = (renumber : ℕ → ℕ) (past others : List Frame) (frame : Frame)
    → HaveSameFragments renumber (brought past frame) (events_of past) (events_of others)
    → brought others (frame_renumbered renumber frame) ≡ map (event_renumbered renumber) (brought past frame)

-- ---- a capture from which frames were taken out

-- the frames that stay, by other numbers; and what they brought while all were there
abbrev pub staying : (Frame → Bool) → (ℕ → ℕ) → List Frame → List Frame
staying stays renumber past = map (frame_renumbered renumber) (filter stays past)

abbrev pub events_staying : (Frame → Bool) → List Frame → List Event
events_staying stays [] = []
events_staying stays (frame ∷ past) =
    if stays frame then brought past frame ++ (NewFrame ∷ events_staying stays past) else events_staying stays past

-- of the datagrams that a frame brings fragments of, all fragments stay
abbrev pub FragmentsStay : List Event → List Event → List Event → Type 0
FragmentsStay [] all stayed = Unit {0}
FragmentsStay (NewFrame ∷ own) all stayed = FragmentsStay own all stayed
FragmentsStay (Piece frame head bytes ∷ own) all stayed =
    (of_key head (fragments_of stayed) ≡ of_key head (fragments_of all)) × FragmentsStay own all stayed
FragmentsStay (Udp frame packet head bytes ∷ own) all stayed = FragmentsStay own all stayed
FragmentsStay (Tcp frame packet head bytes ∷ own) all stayed = FragmentsStay own all stayed

-- so it is for each frame that stays: no datagram is cut apart
abbrev pub DatagramsStay : (Frame → Bool) → List Frame → Type 0
DatagramsStay stays [] = Unit {0}
DatagramsStay stays (frame ∷ past) =
    (stays frame ≡ true → FragmentsStay (brought past frame) (events_of past) (events_staying stays past)) × DatagramsStay stays past

-- of the conversation that a frame brings a segment of, all segments stay, and the numbers of their frames keep their order
pub record ConversationStays (renumber : ℕ → ℕ) (s : Segment) (all stayed : List Segment) : Type 0 where
  pub order : KeepsOrder renumber (frames_of (s ∷ between s all))
  pub segments : between s stayed ≡ between s all

abbrev pub ConversationsStay : (ℕ → ℕ) → List Event → List Event → List Event → Type 0
ConversationsStay renumber [] all stayed = Unit {0}
ConversationsStay renumber (NewFrame ∷ own) all stayed = ConversationsStay renumber own all stayed
ConversationsStay renumber (Piece frame head bytes ∷ own) all stayed = ConversationsStay renumber own all stayed
ConversationsStay renumber (Udp frame packet head bytes ∷ own) all stayed = ConversationsStay renumber own all stayed
ConversationsStay renumber (Tcp frame packet head bytes ∷ own) all stayed =
    ConversationStays renumber (segment_from frame packet head bytes) (segments_of all) (segments_of stayed)
    × ConversationsStay renumber own all stayed

-- a frame's tree is then the same but for numbers
abbrev pub OthersTakenOut : Type 0
OthersTakenOut = (rules : List PortRule) (renumber : ℕ → ℕ) (stays : Frame → Bool) (past : List Frame) (frame : Frame)
    → DatagramsStay stays past
    → FragmentsStay (brought past frame) (events_of past) (events_staying stays past)
    → ConversationsStay renumber (brought past frame) (events_of past) (events_staying stays past)
    → IsSameButNumbers rules renumber past (staying stays renumber past) frame
