-- What the tree of a frame shows of the messages of a TCP stream: the frames that brought them, and then their layers, one behind
-- the other.
use Rattle.std.specs.Prelude.{◌==◌, ℕ, Bool, true, false, if◌then◌else◌, List, [], ◌∷◌, length, Option, Some, None, option_map}
use Rattle.pk_base.specs.declared.span.Span.{Span}
use Rattle.pk_tree.specs.Buffers.{bytes_of}
use Rattle.pk_fields.specs.Ids.{TCP_SEGMENT}
use Rattle.pk_base.specs.declared.heads.Mode.TheVariants.{Plain as PlainMode}
use Rattle.pk_tree.specs.Layouts.{layer_read, within}
use Rattle.pk_tree.specs.Trees.{TreeShown, with_buffer}
use Rattle.dis_http.specs.Http.{http_read}
use Rattle.tcp_streams.specs.declared.segment.Segment.{Segment}
use Rattle.stream_messages.specs.declared.framer.Framer.{Framer}
use Rattle.stream_messages.specs.declared.framer.Framer.TheVariants as framers
use Rattle.stream_messages.specs.declared.told.Told.{Told}
use Rattle.stream_messages.specs.declared.told.Told.TheVariants as tellings
use Rattle.stream_messages.specs.Tellings.{end_of}
use Rattle.tcp_messages.specs.declared.met.ShownMessage.{ShownMessage}
use Rattle.tcp_messages.specs.declared.met.Source.{Source}
use Rattle.tcp_messages.specs.declared.met.Source.TheVariants as sources
use Rattle.tcp_messages.specs.Shown.{frames_told as gathered_from}
use Rattle.pk_fields.specs.declared.apps.App.{App}
use Rattle.pk_fields.specs.declared.rules.PortRule.{PortRule}
use Rattle.pk_fields.specs.Applications.{tcp_app}
use Rattle.app_layers.specs.declared.streamed.StreamApp.{StreamApp}
use Rattle.app_layers.specs.DataLayer.{data_over}
use Rattle.app_layers.specs.Payloads.{with_number}
use Rattle.app_layers.specs.Rows.{framer_of, layout_of, proto_of}

-- whether the head of a message tells its length
abbrev pub tells_length : Option Framer → Bool
tells_length None = false
tells_length (Some (framers.LengthPrefix head at width)) = true
tells_length (Some framers.Http) = false

abbrev pub framed : App → Framer → StreamApp
framed app framer = record { app = app; framer = framer }

-- those that have messages in streams
abbrev pub in_streams : Option App → Option StreamApp
in_streams None = None
in_streams (Some app) = option_map (framed app) (framer_of app)

abbrev pub framing : Option StreamApp → Option Framer
framing None = None
framing (Some app) = Some app.framer

abbrev pub application : Option StreamApp → Option App
application None = None
application (Some app) = Some app.app

-- the application of a stream, by the ports of one of its segments
unfoldable pub stream_app : List PortRule → ℕ → ℕ → Option StreamApp
stream_app rules source target = in_streams (tcp_app rules source target)

abbrev pub app_of_segment : List PortRule → Segment → Option StreamApp
app_of_segment rules s = stream_app rules s.from.port s.to.port

-- where the messages of its stream end
abbrev pub framer_of_segment : List PortRule → Segment → Option Framer
framer_of_segment rules s = framing (app_of_segment rules s)

-- the one among applications whose messages are of a protocol
abbrev pub app_among : List App → ℕ → Option App
app_among [] proto = None
app_among (app ∷ apps) proto = if proto == proto_of app then Some app else app_among apps proto

-- the frames that brought the bytes of messages, in the layer of the TCP header
abbrev pub with_segments : TreeShown → List ℕ → TreeShown
with_segments t [] = t
with_segments t (frame ∷ frames) = with_segments (with_number t TCP_SEGMENT frame) frames

-- the layer of a message whose head tells its length, by its application; others have no such messages
abbrev pub sized_over : App → Bool → TreeShown → Span → TreeShown
sized_over app cut t span =
    if tells_length (framer_of app) then layer_read t (proto_of app) span (layout_of app true (bytes_of t.buffers span)) PlainMode cut else t

-- a message's layer over its bytes
abbrev pub told_over : App → Bool → TreeShown → Span → Told → TreeShown
told_over app cut t span (tellings.Sized end) = sized_over app cut t span
told_over app cut t span (tellings.Http shape) = http_read t span shape

-- all of a buffer that is added
abbrev pub added_span : TreeShown → List ℕ → Span
added_span t bytes = record { buffer = length t.buffers; start = 0; len = length bytes }

-- a message that its frame alone brought lies in the bytes of the frame's segment; the bytes of any other are a buffer of their own
abbrev pub sourced_over : App → Bool → Span → TreeShown → Told → Source → TreeShown
sourced_over app cut span t told (sources.Segment place) = told_over app cut t (within span place (end_of told)) told
sourced_over app cut span t told (sources.Gathered g) = told_over app cut (with_buffer t g.bytes) (added_span t g.bytes) told

unfoldable pub message_over : App → Bool → Span → TreeShown → ShownMessage → TreeShown
message_over app cut span t m = sourced_over app cut span t m.message.told m.source

-- one message behind the other
abbrev pub messages_over : App → Bool → Span → TreeShown → List ShownMessage → TreeShown
messages_over app cut span t [] = t
messages_over app cut span t (m ∷ ms) = messages_over app cut span (message_over app cut span t m) ms

-- the messages that a frame shows, behind the frames that brought them
abbrev pub shown_over : App → Bool → Span → TreeShown → List ShownMessage → TreeShown
shown_over app cut span t messages = messages_over app cut span (with_segments t (gathered_from messages)) messages

-- what a segment carries: the messages that its frame shows, and where its stream has no application, its bytes as data
unfoldable pub carried_over : Option StreamApp → Bool → Span → TreeShown → List ShownMessage → TreeShown
carried_over None cut span t messages = data_over t span
carried_over (Some app) cut span t messages = shown_over app.app cut span t messages
