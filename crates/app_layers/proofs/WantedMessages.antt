-- Messages and data leave the wanted fields as they are.
use Rattle.std.specs.Prelude.{◌&&◌, nat_lt}
use Rattle.std.proofs.Common.{◌≡◌, ◌==◌, [], length, ℕ, Bool, true, false, List, ◌∷◌, Option, Some, None, if◌then◌else◌, refl, ◌∙◌}
use Rattle.pk_base.specs.declared.span.Span.{Span}
use Rattle.pk_tree.specs.Buffers.{bytes_of}
use Rattle.pk_fields.specs.Ids.{DATA, HTTP, HTTP_FILE_DATA, TCP_SEGMENT}
use Rattle.pk_base.specs.declared.heads.Mode.{Mode}
use Rattle.pk_base.specs.declared.heads.Mode.TheVariants.{Plain}
use Rattle.pk_tree.specs.declared.layout.Step.{Step}
use Rattle.pk_tree.specs.Layouts.{is_all, layer_read, reach, with_fault, within}
use Rattle.pk_tree.specs.Trees.{TreeShown, with_layer, with_item, with_buffer, read_of}
use Rattle.stream_messages.specs.declared.shape.Body.{Body}
use Rattle.stream_messages.specs.declared.shape.Body.TheVariants as bodies
use Rattle.stream_messages.specs.declared.shape.Shape.{Shape}
use Rattle.dis_http.specs.Http.{http_layout, http_read, body_read, plain_read, with_content, joined}
use Rattle.pk_fields.specs.declared.apps.App.{App}
use Rattle.app_layers.specs.declared.streamed.StreamApp.{StreamApp}
use Rattle.stream_messages.specs.declared.told.Told.{Told}
use Rattle.stream_messages.specs.declared.told.Told.TheVariants as tellings
use Rattle.stream_messages.specs.Tellings.{end_of}
use Rattle.tcp_messages.specs.declared.met.ShownMessage.{ShownMessage}
use Rattle.tcp_messages.specs.declared.met.Source.{Source}
use Rattle.tcp_messages.specs.declared.met.Source.TheVariants as sources
use Rattle.tcp_messages.specs.Shown.{frames_told as gathered_from}
use Rattle.app_layers.specs.DataLayer.{data_layout, data_over}
use Rattle.app_layers.specs.MessageLayers.{added_span, carried_over, message_over, messages_over, sized_over, sourced_over, tells_length, told_over, with_segments}
use Rattle.app_layers.specs.Rows.{framer_of, layout_of, proto_of}
use Rattle.app_layers.specs.Payloads.{with_number}
use Rattle.app_layers.proofs.ToldHeads.{if_wanted, item_wanted, number_wanted}

fault_wanted : (t : TreeShown) (span : Span) (fault : Option ℕ) → (with_fault t span fault).wanted ≡ t.wanted
unfolding with_layer
fault_wanted t span None = refl
fault_wanted t span (Some fault) = refl

layer_wanted : (t : TreeShown) (proto : ℕ) (span : Span) (steps : List Step) (mode : Mode) (cut : Bool) → (layer_read t proto span steps mode cut).wanted ≡ t.wanted
unfolding layer_read with_layer
layer_wanted t proto span steps mode cut = fault_wanted _ span _

data_wanted : (t : TreeShown) (span : Span) → (data_over t span).wanted ≡ t.wanted
unfolding data_over
data_wanted t span = if_wanted (span.len == 0) t t (layer_read t DATA span (data_layout span.len) Plain false) refl (layer_wanted t DATA span (data_layout span.len) Plain false)

content_wanted : (t : TreeShown) (whole : Bool) (number : ℕ) (content : List ℕ) → (with_content t whole number content).wanted ≡ t.wanted
content_wanted t whole number content =
    if_wanted (whole && nat_lt 0 (length content)) t (with_item t (read_of t.buffers HTTP_FILE_DATA (record { buffer = number; start = 0; len = length content }))) t (item_wanted t _) refl

plain_wanted : (t : TreeShown) (span : Span) (steps : List Step) → (plain_read t span steps).wanted ≡ t.wanted
plain_wanted t span steps = layer_wanted t HTTP span steps Plain false

buffer_wanted : (t : TreeShown) (bytes : List ℕ) → (with_buffer t bytes).wanted ≡ t.wanted
unfolding with_buffer
buffer_wanted t bytes = refl

body_wanted : (t : TreeShown) (span : Span) (steps : List Step) (bytes : List ℕ) (body : Body) → (body_read t span steps bytes body).wanted ≡ t.wanted
body_wanted t span steps bytes bodies.None = plain_wanted t span steps
body_wanted t span steps bytes (bodies.Plain len) = plain_wanted t span steps
body_wanted t span steps bytes (bodies.Chunked pieces) =
    content_wanted (plain_read (with_buffer t (joined bytes pieces)) span steps) (is_all (reach span.len steps)) (length t.buffers) (joined bytes pieces)
    ∙ plain_wanted (with_buffer t (joined bytes pieces)) span steps ∙ buffer_wanted t (joined bytes pieces)
body_wanted t span steps bytes bodies.NotShown = plain_wanted t span steps

http_wanted : (t : TreeShown) (span : Span) (shape : Shape) → (http_read t span shape).wanted ≡ t.wanted
unfolding http_read
http_wanted t span shape = body_wanted t span (http_layout shape (bytes_of t.buffers span)) (bytes_of t.buffers span) shape.body

sized_wanted : (app : App) (cut : Bool) (t : TreeShown) (span : Span) → (sized_over app cut t span).wanted ≡ t.wanted
sized_wanted app cut t span =
    if_wanted (tells_length (framer_of app)) t _ t (layer_wanted t (proto_of app) span (layout_of app true (bytes_of t.buffers span)) Plain cut) refl

message_wanted : (app : App) (cut : Bool) (t : TreeShown) (span : Span) (told : Told) → (told_over app cut t span told).wanted ≡ t.wanted
message_wanted app cut t span (tellings.Sized end) = sized_wanted app cut t span
message_wanted app cut t span (tellings.Http shape) = http_wanted t span shape

sourced_wanted : (app : App) (cut : Bool) (span : Span) (t : TreeShown) (told : Told) (source : Source) → (sourced_over app cut span t told source).wanted ≡ t.wanted
sourced_wanted app cut span t told (sources.Segment place) = message_wanted app cut t (within span place (end_of told)) told
sourced_wanted app cut span t told (sources.Gathered g) = message_wanted app cut (with_buffer t g.bytes) (added_span t g.bytes) told ∙ buffer_wanted t g.bytes

messages_wanted : (app : App) (cut : Bool) (span : Span) (t : TreeShown) (ms : List ShownMessage) → (messages_over app cut span t ms).wanted ≡ t.wanted
unfolding message_over
messages_wanted app cut span t [] = refl
messages_wanted app cut span t (m ∷ ms) = messages_wanted app cut span (message_over app cut span t m) ms ∙ sourced_wanted app cut span t m.message.told m.source

segments_wanted : (t : TreeShown) (frames : List ℕ) → (with_segments t frames).wanted ≡ t.wanted
segments_wanted t [] = refl
segments_wanted t (frame ∷ frames) = segments_wanted (with_number t TCP_SEGMENT frame) frames ∙ number_wanted t TCP_SEGMENT frame

pub carried_over_wanted : (app : Option StreamApp) (cut : Bool) (span : Span) (t : TreeShown) (ms : List ShownMessage) → (carried_over app cut span t ms).wanted ≡ t.wanted
unfolding carried_over
carried_over_wanted None cut span t ms = data_wanted t span
carried_over_wanted (Some app) cut span t ms = messages_wanted app.app cut span (with_segments t (gathered_from ms)) ms ∙ segments_wanted t (gathered_from ms)
