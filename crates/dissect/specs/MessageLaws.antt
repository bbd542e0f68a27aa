-- The messages of TCP streams, as the trees of frames show them. Lists of frames have the newest first.
use Rattle.std.specs.Prelude.{◌≡◌, ◌⊎◌, ◌==◌, ℕ, ◌+◌, ◌-◌, Bool, false, ◌&&◌, ◌||◌, if◌then◌else◌, List, [], ◌∷◌, ◌++◌, length, map, take, drop, nat_lt, Option, None, Some, option_map}
use Rattle.pk_base.specs.declared.stretch.Stretch.{Stretch}
use Rattle.pk_tree.specs.Buffers.{bytes_of}
use Rattle.pk_fields.specs.Ids.{TCP, TCP_STREAM}
use Rattle.pk_fields.specs.declared.rules.PortRule.{PortRule}
use Rattle.pk_tree.specs.declared.item.Item.{Item}
use Rattle.pk_tree.specs.declared.layer.Layer.{Layer}
use Rattle.pk_tree.specs.Trees.{TreeShown, made_of}
use Rattle.pk_base.specs.declared.value.Value.TheVariants.{Uint}
use Rattle.capture_read.specs.declared.frame.Frame.{Frame}
use Rattle.tcp_streams.specs.declared.segment.Segment.{Segment}
use Rattle.tcp_streams.specs.Labels.{Label, label_of, labels, way_of}
use Rattle.tcp_streams.specs.Ways.{stretches}
use Rattle.stream_messages.specs.declared.placed.Placed.{Placed}
use Rattle.pk_fields.specs.declared.apps.App.{App}
use Rattle.app_layers.specs.declared.streamed.StreamApp.{StreamApp}
use Rattle.stream_messages.specs.Messages.{of_stretches}
use Rattle.stream_messages.specs.Sides.{asked_in, noted, same_side}
use Rattle.stream_messages.specs.Tellings.{end_of}
use Rattle.tcp_messages.specs.declared.met.ShownMessage.{ShownMessage}
use Rattle.tcp_messages.specs.Brought.{brought}
use Rattle.tcp_messages.specs.Shown.{bytes_from, shown_after}
use Rattle.app_layers.specs.MessageLayers.{app_among, app_of_segment, framer_of_segment}
use Rattle.app_layers.specs.Rows.{framed_apps}
use Rattle.dissect.specs.Events.{Event, NewFrame, Piece, Udp, Tcp}
use Rattle.dissect.specs.Segments.{segment_from, segments_of}
use Rattle.dissect.specs.Trees.{events_of, tree_at}

-- ---- what a tree shows

-- a message: its application, and its bytes
pub record MessageShown : Type 0 where
  pub app : App
  pub bytes : List ℕ

abbrev pub message_of : Option App → List ℕ → List MessageShown
message_of None bytes = []
message_of (Some app) bytes = record { app = app; bytes = bytes } ∷ []

-- a layer of an application whose messages streams carry is a message, which has the bytes of the layer's span
abbrev pub layer_message : List (List ℕ) → Layer → List MessageShown
layer_message buffers layer = message_of (app_among framed_apps layer.proto) (bytes_of buffers layer.span)

abbrev pub layer_messages : List (List ℕ) → List Layer → List MessageShown
layer_messages buffers [] = []
layer_messages buffers (layer ∷ layers) = layer_message buffers layer ++ layer_messages buffers layers

abbrev pub has_tcp : List Layer → Bool
has_tcp [] = false
has_tcp (layer ∷ layers) = layer.proto == TCP || has_tcp layers

-- the layers behind the last one of TCP; there are none where no layer is of TCP
abbrev pub behind_tcp : List Layer → List Layer
behind_tcp [] = []
behind_tcp (layer ∷ layers) = if has_tcp layers then behind_tcp layers else (if layer.proto == TCP then layers else [])

abbrev pub tree_messages : TreeShown → List MessageShown
tree_messages t = layer_messages t.buffers (behind_tcp t.layers)

-- ---- what a frame's segment shows

-- a message of a segment's frame, by the application of the segment's stream and the segment's payload
abbrev pub message_shown : App → List ℕ → ShownMessage → MessageShown
message_shown app payload m = record { app = app; bytes = bytes_from payload (end_of m.message.told) m.source }

-- all of them; where the stream has no application, there are none
abbrev pub messages_shown : Option StreamApp → List ℕ → List ShownMessage → List MessageShown
messages_shown None payload ms = []
messages_shown (Some app) payload ms = map (message_shown app.app payload) ms

-- those of a segment, given the segments before it
abbrev pub segment_messages : List PortRule → List Segment → Option Segment → List MessageShown
segment_messages rules past None = []
segment_messages rules past (Some s) = messages_shown (app_of_segment rules s) s.payload (shown_after (framer_of_segment rules s) past s)

-- the segment that the newest frame brought, if it brought one: nothing of a frame is read behind it
abbrev pub newest_segment : List Event → Option Segment
newest_segment [] = None
newest_segment (NewFrame ∷ es) = None
newest_segment (Piece frame head bytes ∷ es) = None
newest_segment (Udp frame packet head bytes ∷ es) = None
newest_segment (Tcp frame packet head bytes ∷ es) = Some (segment_from frame packet head bytes)

abbrev pub segments_before : List Frame → List Segment
segments_before past = segments_of (events_of past)

abbrev pub frame_segment : List Frame → Frame → Option Segment
frame_segment past frame = newest_segment (events_of (frame ∷ past))

-- ---- what the frames show of a direction of a stream

abbrev pub labels_before : List Frame → List Label
labels_before past = labels (segments_before past)

-- whether a frame's segment, if it brought one, is of a direction of a stream
abbrev pub is_of : ℕ → Bool → Option Label → Bool
is_of stream side None = false
is_of stream side (Some l) = l.stream == stream && same_side side l.side

abbrev pub label_in : List Frame → Frame → Option Label
label_in past frame = option_map (λ (s : Segment). label_of s (labels_before past)) (frame_segment past frame)

-- an item tells the number of a stream
abbrev pub HasStream : ℕ → List Item → Type 0
HasStream stream [] = ⊥
HasStream stream (item ∷ items) = (item ≡ made_of TCP_STREAM (Uint stream)) ⊎ HasStream stream items

-- the last layer of TCP has such an item
abbrev pub TellsStream : ℕ → List Layer → Type 0
TellsStream stream [] = ⊥
TellsStream stream (layer ∷ layers) =
    ((layer.proto ≡ TCP) × (has_tcp layers ≡ false) × HasStream stream layer.items) ⊎ TellsStream stream layers

-- so is told of which stream a frame's segment is, where it brought one
abbrev pub TellsLabel : Option Label → TreeShown → Type 0
TellsLabel None t = Unit {0}
TellsLabel (Some l) t = TellsStream l.stream t.layers

-- the messages that the trees of its frames show, one frame behind the other; each tree is told by the frames before it
abbrev pub trees_show : (List Frame → Frame → TreeShown) → ℕ → Bool → List Frame → List MessageShown
trees_show tree stream side [] = []
trees_show tree stream side (frame ∷ past) =
    trees_show tree stream side past ++ (if is_of stream side (label_in past frame) then tree_messages (tree past frame) else [])

-- so many bytes of stretches from a position on, which lies in one of them
abbrev pub bytes_in : List Stretch → ℕ → ℕ → List ℕ
bytes_in [] at len = []
bytes_in (s ∷ ss) at len = if nat_lt at (s.start + length s.bytes) then take len (drop (at - s.start) s.bytes) else bytes_in ss at len

-- a whole message of stretches
abbrev pub message_in : App → List Stretch → Placed → MessageShown
message_in app ss m = record { app = app; bytes = bytes_in ss m.at (end_of m.told) }

-- the application of a stream, by the ports of its segments
abbrev pub app_of_stream : List PortRule → ℕ → List Label → Option StreamApp
app_of_stream rules stream [] = None
app_of_stream rules stream (l ∷ ls) = if l.stream == stream then app_of_segment rules l.segment else app_of_stream rules stream ls

-- the whole messages of a direction's stretches, in their order; where the stream has no application, there are none
abbrev pub whole_messages : Option StreamApp → ℕ → Bool → List Label → List MessageShown
whole_messages None stream side ls = []
whole_messages (Some app) stream side ls =
    map (message_in app.app (stretches (way_of stream side ls)))
    (of_stretches app.framer (asked_in side (noted app.framer (brought stream ls))) 0 (stretches (way_of stream side ls)))

-- ---- the laws

-- behind the last layer of TCP a frame's tree shows the messages of the frame's segment, each with its bytes
abbrev pub FramesShow : Type 0
FramesShow = (rules : List PortRule) (past : List Frame) (frame : Frame)
    → tree_messages (tree_at rules past frame) ≡ segment_messages rules (segments_before past) (frame_segment past frame)

-- that layer tells the number of the segment's stream
abbrev pub FramesTell : Type 0
FramesTell = (rules : List PortRule) (past : List Frame) (frame : Frame) → TellsLabel (label_in past frame) (tree_at rules past frame)

-- and those of a direction of a stream, one frame behind the other, are the whole messages of its stretches in their order: each
-- in one frame
abbrev pub MessagesInTrees : Type 0
MessagesInTrees = (rules : List PortRule) (past : List Frame) (stream : ℕ) (side : Bool)
    → trees_show (tree_at rules) stream side past
    ≡ whole_messages (app_of_stream rules stream (labels_before past)) stream side (labels_before past)
