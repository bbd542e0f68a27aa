-- Reading the messages of streams with some fields is reading all of them and keeping those.
use Rattle.std.proofs.Common.{ℕ, Bool, true, false, if◌then◌else◌, List, [], ◌∷◌, length, Option, None, Some}
use Rattle.std.specs.Prelude.{◌&&◌, nat_lt}
use Rattle.pk_base.specs.declared.span.Span.{Span}
use Rattle.pk_tree.specs.Buffers.{bytes_of}
use Rattle.pk_fields.specs.Ids.{HTTP, HTTP_FILE_DATA, TCP_SEGMENT}
use Rattle.pk_base.specs.declared.heads.Mode.TheVariants.{Plain as PlainMode}
use Rattle.pk_tree.specs.declared.layout.Step.{Step}
use Rattle.pk_base.specs.declared.value.Value.TheVariants.{Uint}
use Rattle.pk_tree.specs.Layouts.{is_all, reach, within}
use Rattle.pk_tree.specs.Trees.{TreeShown, IsKept as IsKeptTree, kept_tree, read_of, made_of}
use Rattle.pk_tree.proofs.KeptTrees.{item_kept, buffer_kept, layer_kept}
use Rattle.stream_messages.specs.declared.shape.Body.{Body}
use Rattle.stream_messages.specs.declared.shape.Body.TheVariants.{None as Bodiless, Plain, Chunked, NotShown}
use Rattle.stream_messages.specs.declared.shape.Shape.{Shape}
use Rattle.dis_http.specs.Http.{http_layout, http_read, body_read, chunked_read, plain_read, with_content, joined}
use Rattle.pk_fields.specs.declared.apps.App.{App}
use Rattle.app_layers.specs.declared.streamed.StreamApp.{StreamApp}
use Rattle.stream_messages.specs.declared.told.Told.{Told}
use Rattle.stream_messages.specs.declared.told.Told.TheVariants as tellings
use Rattle.stream_messages.specs.Tellings.{end_of}
use Rattle.tcp_messages.specs.declared.met.ShownMessage.{ShownMessage}
use Rattle.tcp_messages.specs.declared.met.Source.{Source}
use Rattle.tcp_messages.specs.declared.met.Source.TheVariants as sources
use Rattle.tcp_messages.specs.Shown.{frames_told as gathered_from}
use Rattle.app_layers.specs.DataLayer.{data_over}
use Rattle.app_layers.specs.MessageLayers.{added_span, with_segments, told_over, sized_over, sourced_over, message_over, messages_over, carried_over, tells_length}
use Rattle.app_layers.specs.Rows.{framer_of, layout_of, proto_of}
use Rattle.app_layers.specs.Payloads.{with_number}
use Rattle.app_layers.proofs.KeptHeads.{tree_as, kept_if}

plain_kept : (wanted : List ℕ) (span : Span) (steps : List Step) (t u : TreeShown) → IsKeptTree wanted t u → IsKeptTree wanted (plain_read t span steps) (plain_read u span steps)
plain_kept wanted span steps t u k = layer_kept wanted t u HTTP span steps PlainMode false k

content_kept : (wanted : List ℕ) (whole : Bool) (number : ℕ) (content : List ℕ) (t u : TreeShown) → IsKeptTree wanted t u → IsKeptTree wanted (with_content t whole number content) (with_content u whole number content)
content_kept wanted whole number content t u k =
    tree_as wanted (λ v. with_content v whole number content) t u k
    (λ one. kept_if wanted (whole && nat_lt 0 (length content)) _ _ t (kept_tree wanted t) (item_kept wanted t (kept_tree wanted t) (read_of t.buffers HTTP_FILE_DATA (record { buffer = number; start = 0; len = length content })) one) one)

chunked_kept : (wanted : List ℕ) (span : Span) (steps : List Step) (content : List ℕ) (t u : TreeShown) → IsKeptTree wanted t u → IsKeptTree wanted (chunked_read t span steps content) (chunked_read u span steps content)
chunked_kept wanted span steps content t u k =
    tree_as wanted (λ v. chunked_read v span steps content) t u k
    (λ one. content_kept wanted (is_all (reach span.len steps)) (length t.buffers) content _ _
    (plain_kept wanted span steps _ _ (buffer_kept wanted t (kept_tree wanted t) content one)))

body_kept : (wanted : List ℕ) (span : Span) (steps : List Step) (bytes : List ℕ) (body : Body) (t u : TreeShown) → IsKeptTree wanted t u → IsKeptTree wanted (body_read t span steps bytes body) (body_read u span steps bytes body)
body_kept wanted span steps bytes Bodiless t u k = plain_kept wanted span steps t u k
body_kept wanted span steps bytes (Plain len) t u k = plain_kept wanted span steps t u k
body_kept wanted span steps bytes (Chunked pieces) t u k = chunked_kept wanted span steps (joined bytes pieces) t u k
body_kept wanted span steps bytes NotShown t u k = plain_kept wanted span steps t u k

pub http_kept : (wanted : List ℕ) (span : Span) (shape : Shape) (t u : TreeShown) → IsKeptTree wanted t u → IsKeptTree wanted (http_read t span shape) (http_read u span shape)
unfolding http_read
http_kept wanted span shape t u k =
    tree_as wanted (λ v. http_read v span shape) t u k
    (λ one. body_kept wanted span (http_layout shape (bytes_of t.buffers span)) (bytes_of t.buffers span) shape.body t (kept_tree wanted t) one)

-- the messages that a frame shows, one behind the other
segments_kept : (wanted frames : List ℕ) (t u : TreeShown) → IsKeptTree wanted t u → IsKeptTree wanted (with_segments t frames) (with_segments u frames)
segments_kept wanted [] t u k = k
segments_kept wanted (frame ∷ frames) t u k =
    segments_kept wanted frames (with_number t TCP_SEGMENT frame) (with_number u TCP_SEGMENT frame) (item_kept wanted t u (made_of TCP_SEGMENT (Uint frame)) k)

sized_kept : (wanted : List ℕ) (app : App) (cut : Bool) (span : Span) (t u : TreeShown) → IsKeptTree wanted t u → IsKeptTree wanted (sized_over app cut t span) (sized_over app cut u span)
sized_kept wanted app cut span t u k =
    tree_as wanted (λ v. sized_over app cut v span) t u k
    (λ one. kept_if wanted (tells_length (framer_of app)) _ _ _ _
    (layer_kept wanted t (kept_tree wanted t) (proto_of app) span (layout_of app true (bytes_of t.buffers span)) PlainMode cut one) one)

told_kept : (wanted : List ℕ) (app : App) (cut : Bool) (span : Span) (told : Told) (t u : TreeShown) → IsKeptTree wanted t u → IsKeptTree wanted (told_over app cut t span told) (told_over app cut u span told)
told_kept wanted app cut span (tellings.Sized end) t u k = sized_kept wanted app cut span t u k
told_kept wanted app cut span (tellings.Http shape) t u k = http_kept wanted span shape t u k

sourced_kept : (wanted : List ℕ) (app : App) (cut : Bool) (span : Span) (told : Told) (source : Source) (t u : TreeShown) → IsKeptTree wanted t u → IsKeptTree wanted (sourced_over app cut span t told source) (sourced_over app cut span u told source)
sourced_kept wanted app cut span told (sources.Segment place) t u k = told_kept wanted app cut (within span place (end_of told)) told t u k
sourced_kept wanted app cut span told (sources.Gathered g) t u k =
    tree_as wanted (λ v. sourced_over app cut span v told (sources.Gathered g)) t u k
    (λ one. told_kept wanted app cut (added_span t g.bytes) told _ _ (buffer_kept wanted t (kept_tree wanted t) g.bytes one))

messages_kept : (wanted : List ℕ) (app : App) (cut : Bool) (span : Span) (messages : List ShownMessage) (t u : TreeShown) → IsKeptTree wanted t u → IsKeptTree wanted (messages_over app cut span t messages) (messages_over app cut span u messages)
unfolding message_over
messages_kept wanted app cut span [] t u k = k
messages_kept wanted app cut span (m ∷ ms) t u k =
    messages_kept wanted app cut span ms (message_over app cut span t m) (message_over app cut span u m) (sourced_kept wanted app cut span m.message.told m.source t u k)

pub carried_kept : (wanted : List ℕ) (app : Option StreamApp) (cut : Bool) (span : Span) (messages : List ShownMessage) (t u : TreeShown)
    → IsKeptTree wanted (data_over t span) (data_over u span) → IsKeptTree wanted t u → IsKeptTree wanted (carried_over app cut span t messages) (carried_over app cut span u messages)
unfolding carried_over
carried_kept wanted None cut span messages t u as_data k = as_data
carried_kept wanted (Some app) cut span messages t u as_data k =
    messages_kept wanted app.app cut span messages (with_segments t (gathered_from messages)) (with_segments u (gathered_from messages))
    (segments_kept wanted (gathered_from messages) t u k)
