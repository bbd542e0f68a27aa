-- Each message of a segment stands behind the layer of TCP, with its bytes.
use Rattle.std.proofs.Common.{◌≡◌, ◌==◌, ℕ, zero, suc, ◌+◌, ◌-◌, ◌<◌, ◌≤◌, Bool, true, false, ◌&&◌, if◌then◌else◌, List, [], ◌∷◌, ◌++◌, length, map, take, drop, Option, Some, None, refl, sym, ap, ◌∙◌, subst, arith, append_assoc, append-nil, length-drop}
use Rattle.std.specs.Prelude.{IsSome, nat_lt}
use Rattle.std.specs.List.{slice_range}
use Rattle.std.proofs.lemmas.Bool.{cond-true}
use Rattle.std.proofs.lemmas.List.{get_or_push, length-take}
use Rattle.pk_base.specs.declared.span.Span.{Span}
use Rattle.pk_tree.specs.Buffers.{buffer_of, bytes_of}
use Rattle.pk_tree.proofs.Spans.{bytes_of-part}
use Rattle.pk_fields.specs.Ids.{DATA, HTTP, HTTP_FILE_DATA, TCP_ACK, TCP_LEN, TCP_LOST, TCP_PAYLOAD, TCP_SEGMENT, TCP_SEQ, TCP_STREAM}
use Rattle.pk_base.specs.declared.heads.Mode.TheVariants.{Plain as PlainMode}
use Rattle.pk_base.specs.declared.value.Value.TheVariants.{Uint}
use Rattle.pk_tree.specs.declared.layout.Step.{Step}
use Rattle.pk_tree.specs.Layouts.{is_all, layer_read, reach, within}
use Rattle.pk_tree.specs.Trees.{TreeShown, made_of, read_of, with_buffer}
use Rattle.dis_http.specs.Http.{body_read, chunked_read, http_layout, http_read, joined, plain_read, with_content}
use Rattle.tcp_streams.specs.declared.segment.Taken.{Taken}
use Rattle.tcp_streams.specs.Gaps.{lost_bytes}
use Rattle.stream_messages.specs.declared.shape.Body.{Body}
use Rattle.stream_messages.specs.declared.shape.Shape.{Shape}
use Rattle.stream_messages.specs.declared.shape.Body.TheVariants.{None as Bodiless, Plain, Chunked, NotShown}
use Rattle.app_layers.specs.declared.streamed.StreamApp.{StreamApp}
use Rattle.pk_fields.specs.declared.apps.App.{App}
use Rattle.pk_fields.specs.declared.apps.App.TheVariants as apps
use Rattle.stream_messages.specs.declared.told.Told.{Told}
use Rattle.stream_messages.specs.declared.told.Told.TheVariants as tellings
use Rattle.stream_messages.specs.Tellings.{end_of}
use Rattle.tcp_messages.specs.declared.met.ShownMessage.{ShownMessage}
use Rattle.tcp_messages.specs.declared.met.Source.{Source}
use Rattle.tcp_messages.specs.declared.met.Source.TheVariants as sources
use Rattle.tcp_messages.specs.Shown.{bytes_from, frames_told as gathered_from}
use Rattle.app_layers.specs.DataLayer.{data_layout, data_over}
use Rattle.app_layers.specs.MessageLayers.{added_span, carried_over, message_over, messages_over, sized_over, sourced_over, tells_length, told_over, with_segments}
use Rattle.app_layers.specs.Rows.{framer_of, layout_of, proto_of}
use Rattle.app_layers.proofs.RowLemmas.{framed_found, http_row, not_tcp}
use Rattle.app_layers.specs.Payloads.{carried_told, place_told, segment_told, with_ack, with_lost, with_number, with_payload}
use Rattle.app_layers.proofs.MessagesAside.{sized_some}
use Rattle.app_layers.proofs.MessageBuffers.{GrowsBy, grows_none, grows_on, grows_one, http_grows, if_same, layer_same}
use Rattle.dissect.specs.MessageLaws.{MessageShown, message_of, message_shown}
use Rattle.dissect.proofs.Tellings.{AreShownOf, IsOf}
use Rattle.dissect.proofs.TreeMessages.{AreSome, IsSameBare, Shows, bytes_stay, item_bare, same_if, same_on, same_self, shows_as, shows_buffer, shows_read, shows_same, some_append}

-- ---- what is told in the header's layer changes items alone

number_bare : (t : TreeShown) (field number : ℕ) → IsSameBare t (with_number t field number)
number_bare t field number = item_bare t (made_of field (Uint number))

ack_bare : (t : TreeShown) (ack : Option ℕ) → IsSameBare t (with_ack t ack)
ack_bare t None = same_self t
ack_bare t (Some ack) = number_bare t TCP_ACK ack

place_bare : (t : TreeShown) (taken : Taken) → IsSameBare t (place_told t taken)
unfolding place_told
place_bare t taken =
    let one : TreeShown = with_number t TCP_STREAM taken.stream in
    let two : TreeShown = with_number one TCP_SEQ taken.seq in
    same_on t one _ (number_bare t TCP_STREAM taken.stream) (same_on one two _ (number_bare one TCP_SEQ taken.seq) (ack_bare two taken.ack))

pub payload_bare : (t : TreeShown) (field : ℕ) (span : Span) → IsSameBare t (with_payload t field span)
payload_bare t field span = same_if (span.len == 0) t t _ (same_self t) (item_bare t (read_of t.buffers field span))

carried_bare : (t : TreeShown) (span : Span) → IsSameBare t (carried_told t span)
carried_bare t span =
    let one : TreeShown = with_number t TCP_LEN span.len in
    same_on t one _ (number_bare t TCP_LEN span.len) (payload_bare one TCP_PAYLOAD span)

lost_bare : (t : TreeShown) (lost : ℕ) → IsSameBare t (with_lost t lost)
lost_bare t lost = same_if (lost == 0) t t _ (same_self t) (number_bare t TCP_LOST lost)

pub segment_bare : (t : TreeShown) (taken : Taken) (span : Span) → IsSameBare t (segment_told t taken span)
unfolding segment_told
segment_bare t taken span =
    let one : TreeShown = place_told t taken in
    let two : TreeShown = carried_told one span in
    same_on t one _ (place_bare t taken) (same_on one two _ (carried_bare one span) (lost_bare two (lost_bytes taken.lost)))

segments_bare : (t : TreeShown) (frames : List ℕ) → IsSameBare t (with_segments t frames)
segments_bare t [] = same_self t
segments_bare t (frame ∷ frames) =
    let one : TreeShown = with_number t TCP_SEGMENT frame in
    same_on t one _ (number_bare t TCP_SEGMENT frame) (segments_bare one frames)

-- ---- buffers

sized_grows : (app : App) (cut : Bool) (t : TreeShown) (span : Span) → GrowsBy 1 t.buffers (sized_over app cut t span).buffers
sized_grows app cut t span =
    grows_none 1 _ _ (if_same (tells_length (framer_of app)) t _ (layer_same t (proto_of app) span (layout_of app true (bytes_of t.buffers span)) PlainMode cut))

told_grows : (app : App) (cut : Bool) (t : TreeShown) (span : Span) (told : Told) → GrowsBy 1 t.buffers (told_over app cut t span told).buffers
told_grows app cut t span (tellings.Sized end) = sized_grows app cut t span
told_grows app cut t span (tellings.Http shape) = http_grows t span shape

added_one : (t : TreeShown) (bytes : List ℕ) → GrowsBy 1 t.buffers (with_buffer t bytes).buffers
unfolding with_buffer
added_one t bytes = grows_one _ _ bytes refl

sourced_grows : (app : App) (cut : Bool) (span : Span) (t : TreeShown) (told : Told) (source : Source) → GrowsBy 2 t.buffers (sourced_over app cut span t told source).buffers
sourced_grows app cut span t told (sources.Segment place) =
    let one = told_grows app cut t (within span place (end_of told)) told in
    record { more = one.more; all = one.all; few = omega (arith, one.few) }
sourced_grows app cut span t told (sources.Gathered g) =
    grows_on 1 1 t.buffers (with_buffer t g.bytes).buffers _ (added_one t g.bytes) (told_grows app cut (with_buffer t g.bytes) (added_span t g.bytes) told)

take_all : (xs : List ℕ) → take (length xs) xs ≡ xs
take_all [] = refl
take_all (x ∷ xs) = ap (λ (ys : List ℕ). x ∷ ys) (take_all xs)

-- a buffer that is added has its bytes
added_bytes : (t : TreeShown) (bytes : List ℕ) → bytes_of (with_buffer t bytes).buffers (added_span t bytes) ≡ bytes
unfolding with_buffer bytes_of
added_bytes t bytes =
    ap (λ (xs : List ℕ). take (length bytes) xs) (get_or_push t.buffers bytes [] (length t.buffers) refl) ∙ take_all bytes

-- ---- a message

shows_if : (b : Bool) (t u : TreeShown) (ms : List MessageShown) → Shows t ms → Shows u ms → Shows (if b then t else u) ms
shows_if true t u ms one other = one
shows_if false t u ms one other = other

-- bytes that are data are no message
pub data_shows : (t : TreeShown) (ms : List MessageShown) (span : Span) → Shows t ms → Shows (data_over t span) ms
unfolding data_over
data_shows t ms span shows =
    shows_if (span.len == 0) t _ ms shows (shows_as _ _ _ (append-nil ms) (shows_read t ms [] DATA span (data_layout span.len) PlainMode false refl (λ nth. refl) shows))

-- a layer of an application's messages is one
read_shows : (app : App) (t : TreeShown) (ms : List MessageShown) (span : Span) (bytes : List ℕ) (steps : List Step) (cut : Bool) → IsSome (framer_of app) → bytes_of t.buffers span ≡ bytes → Shows t ms
    → Shows (layer_read t (proto_of app) span steps PlainMode cut) (ms ++ record { app = app; bytes = bytes } ∷ [])
read_shows app t ms span bytes steps cut framed is shows =
    shows_read t ms (record { app = app; bytes = bytes } ∷ []) (proto_of app) span steps PlainMode cut (not_tcp app)
    (λ nth. ap (λ (one : Option App). message_of one (bytes_of t.buffers span)) (framed_found app framed) ∙ ap (message_of (Some app)) is) shows

plain_shows : (t : TreeShown) (ms : List MessageShown) (span : Span) (bytes : List ℕ) (steps : List Step) → bytes_of t.buffers span ≡ bytes → Shows t ms
    → Shows (plain_read t span steps) (ms ++ record { app = apps.Http; bytes = bytes } ∷ [])
plain_shows t ms span bytes steps is shows =
    shows_read t ms (record { app = apps.Http; bytes = bytes } ∷ []) HTTP span steps PlainMode false refl
    (λ nth. ap (λ (xs : List ℕ). record { app = apps.Http; bytes = xs } ∷ []) is) shows

content_bare : (t : TreeShown) (whole : Bool) (number : ℕ) (content : List ℕ) → IsSameBare t (with_content t whole number content)
content_bare t whole number content =
    same_if (whole && nat_lt 0 (length content)) t _ t
    (item_bare t (read_of t.buffers HTTP_FILE_DATA (record { buffer = number; start = 0; len = length content }))) (same_self t)

chunked_shows : (t : TreeShown) (ms : List MessageShown) (span : Span) (bytes : List ℕ) (steps : List Step) (content : List ℕ) → bytes_of t.buffers span ≡ bytes → 0 < length bytes → AreSome ms → Shows t ms
    → Shows (chunked_read t span steps content) (ms ++ record { app = apps.Http; bytes = bytes } ∷ [])
unfolding with_buffer
chunked_shows t ms span bytes steps content is some all shows =
    let u : TreeShown = with_buffer t content in
    let stays : bytes_of u.buffers span ≡ bytes = bytes_stay t.buffers (content ∷ []) span (subst (λ (xs : List ℕ). 0 < length xs) (sym is) some) ∙ is in
    shows_same (plain_read u span steps) _ _ (content_bare (plain_read u span steps) (is_all (reach span.len steps)) (length t.buffers) content)
    (plain_shows u ms span bytes steps stays (shows_buffer t ms content all shows))

body_shows : (t : TreeShown) (ms : List MessageShown) (span : Span) (bytes : List ℕ) (steps : List Step) (given : List ℕ) (body : Body) → bytes_of t.buffers span ≡ bytes → 0 < length bytes → AreSome ms → Shows t ms
    → Shows (body_read t span steps given body) (ms ++ record { app = apps.Http; bytes = bytes } ∷ [])
body_shows t ms span bytes steps given Bodiless is some all shows = plain_shows t ms span bytes steps is shows
body_shows t ms span bytes steps given (Plain len) is some all shows = plain_shows t ms span bytes steps is shows
body_shows t ms span bytes steps given (Chunked pieces) is some all shows = chunked_shows t ms span bytes steps (joined given pieces) is some all shows
body_shows t ms span bytes steps given NotShown is some all shows = plain_shows t ms span bytes steps is shows

sized_shows : (app : App) (cut : Bool) (t : TreeShown) (ms : List MessageShown) (span : Span) (bytes : List ℕ) (end : ℕ) → IsOf app (tellings.Sized end) → bytes_of t.buffers span ≡ bytes → Shows t ms
    → Shows (sized_over app cut t span) (ms ++ record { app = app; bytes = bytes } ∷ [])
sized_shows app cut t ms span bytes end of is shows =
    let here : layer_read t (proto_of app) span (layout_of app true (bytes_of t.buffers span)) PlainMode cut ≡ sized_over app cut t span =
    sym (cond-true (tells_length (framer_of app)) (layer_read t (proto_of app) span (layout_of app true (bytes_of t.buffers span)) PlainMode cut) t of) in
    subst (λ (u : TreeShown). Shows u (ms ++ record { app = app; bytes = bytes } ∷ [])) here
    (read_shows app t ms span bytes (layout_of app true (bytes_of t.buffers span)) cut (sized_some (framer_of app) of) is shows)

http_shows : (app : App) (t : TreeShown) (ms : List MessageShown) (span : Span) (bytes : List ℕ) (shape : Shape) → IsOf app (tellings.Http shape) → bytes_of t.buffers span ≡ bytes → 0 < length bytes → AreSome ms → Shows t ms
    → Shows (http_read t span shape) (ms ++ record { app = app; bytes = bytes } ∷ [])
unfolding http_read
http_shows app t ms span bytes shape of is some all shows =
    http_row (λ (one : App). Shows (http_read t span shape) (ms ++ record { app = one; bytes = bytes } ∷ []))
    (body_shows t ms span bytes (http_layout shape (bytes_of t.buffers span)) (bytes_of t.buffers span) shape.body is some all shows) app of

told_shows : (app : App) (cut : Bool) (t : TreeShown) (ms : List MessageShown) (span : Span) (bytes : List ℕ) (told : Told) → IsOf app told → bytes_of t.buffers span ≡ bytes → 0 < length bytes → AreSome ms → Shows t ms
    → Shows (told_over app cut t span told) (ms ++ record { app = app; bytes = bytes } ∷ [])
told_shows app cut t ms span bytes (tellings.Sized end) of is some all shows = sized_shows app cut t ms span bytes end of is shows
told_shows app cut t ms span bytes (tellings.Http shape) of is some all shows = http_shows app t ms span bytes shape of is some all shows

-- ---- where its bytes are

-- a message has as many bytes as it tells, and has some
pub record IsFit (payload : List ℕ) (m : ShownMessage) : Type 0 where
  pub size : length (bytes_from payload (end_of m.message.told) m.source) ≡ end_of m.message.told
  pub some : 0 < end_of m.message.told

abbrev pub AreFit : List ℕ → List ShownMessage → Type 0
AreFit payload [] = Unit {0}
AreFit payload (m ∷ ms) = IsFit payload m × AreFit payload ms

part_fits : (payload : List ℕ) (place len : ℕ) → length (slice_range payload place (place + len)) ≡ len → 0 < len → place + len ≤ length payload
part_fits payload place len whole some =
    let few : length (slice_range payload place (place + len)) ≤ length (drop place payload) = at_most (place + len - place) (drop place payload) in
    omega (arith, few, whole, some, length-drop place payload)
  where
    at_most : (n : ℕ) (xs : List ℕ) → length (take n xs) ≤ length xs
    at_most zero xs = omega arith
    at_most (suc n) [] = omega arith
    at_most (suc n) (x ∷ xs) = omega (arith, at_most n xs)

span_short : (buffers : List (List ℕ)) (span : Span) → length (bytes_of buffers span) ≤ span.len
unfolding bytes_of
span_short buffers span = omega (arith, length-take span.len (drop span.start (buffer_of buffers span.buffer)))

-- the bytes of a segment's part, where the buffers are those that hold the payload, or more
part_bytes : (base more : List (List ℕ)) (span : Span) (payload : List ℕ) (place len : ℕ) → bytes_of base span ≡ payload → length (slice_range payload place (place + len)) ≡ len → 0 < len
    → bytes_of (base ++ more) (within span place len) ≡ slice_range payload place (place + len)
part_bytes base more span payload place len is size some =
    let fits : place + len ≤ length payload = part_fits payload place len size some in
    let low : place + len ≤ span.len = omega (arith, fits, ap length is, span_short base span) in
    let there : 0 < length (bytes_of base span) = omega (arith, fits, ap length is, some) in
    let same : len ≡ place + len - place = omega arith in
    bytes_of-part (base ++ more) span place len low
    ∙ ap (λ (xs : List ℕ). take len (drop place xs)) (bytes_stay base more span there ∙ is)
    ∙ ap (λ (n : ℕ). take n (drop place payload)) same

sourced_shows : (app : App) (cut : Bool) (span : Span) (t : TreeShown) (ms : List MessageShown) (base more : List (List ℕ)) (payload : List ℕ) (told : Told) (source : Source)
    → IsOf app told → t.buffers ≡ base ++ more → bytes_of base span ≡ payload → length (bytes_from payload (end_of told) source) ≡ end_of told → 0 < end_of told → AreSome ms → Shows t ms
    → Shows (sourced_over app cut span t told source) (ms ++ record { app = app; bytes = bytes_from payload (end_of told) source } ∷ [])
sourced_shows app cut span t ms base more payload told (sources.Segment place) of grown is size some all shows =
    let len : ℕ = end_of told in
    told_shows app cut t ms (within span place len) (slice_range payload place (place + len)) told of
    (ap (λ (buffers : List (List ℕ)). bytes_of buffers (within span place len)) grown ∙ part_bytes base more span payload place len is size some)
    (omega (arith, size, some)) all shows
sourced_shows app cut span t ms base more payload told (sources.Gathered g) of grown is size some all shows =
    told_shows app cut (with_buffer t g.bytes) ms (added_span t g.bytes) g.bytes told of (added_bytes t g.bytes) (omega (arith, size, some)) all (shows_buffer t ms g.bytes all shows)

-- one message behind the other
abbrev pub shown_with : App → List ℕ → List ShownMessage → List MessageShown
shown_with app payload ms = map (message_shown app payload) ms

messages_show : (app : App) (cut : Bool) (span : Span) (t : TreeShown) (before : List MessageShown) (base more : List (List ℕ)) (payload : List ℕ) (ms : List ShownMessage)
    → AreShownOf app ms → t.buffers ≡ base ++ more → bytes_of base span ≡ payload → AreFit payload ms → AreSome before → Shows t before → Shows (messages_over app cut span t ms) (before ++ shown_with app payload ms)
unfolding message_over
messages_show app cut span t before base more payload [] are grown is fit all shows = shows_as _ _ _ (sym (append-nil before)) shows
messages_show app cut span t before base more payload (m ∷ ms) are grown is fit all shows =
    let one : MessageShown = message_shown app payload m in
    let u : TreeShown = message_over app cut span t m in
    let next : Shows u (before ++ one ∷ []) = sourced_shows app cut span t before base more payload m.message.told m.source are.0 grown is fit.0.size fit.0.some all shows in
    let grows : GrowsBy 2 t.buffers u.buffers = sourced_grows app cut span t m.message.told m.source in
    let buffers : u.buffers ≡ base ++ (more ++ grows.more) = grows.all ∙ ap (λ (bs : List (List ℕ)). bs ++ grows.more) grown ∙ append_assoc base more grows.more in
    let some : AreSome (before ++ one ∷ []) = some_append before (one ∷ []) all (omega (arith, fit.0.size, fit.0.some), tt) in
    shows_as _ _ _ (append_assoc before (one ∷ []) (shown_with app payload ms))
    (messages_show app cut span u (before ++ one ∷ []) base (more ++ grows.more) payload ms are.1 buffers is fit.1 some next)

-- all that a segment carries, behind the layer of its header
pub carried_shows : (app : StreamApp) (cut : Bool) (span : Span) (t : TreeShown) (payload : List ℕ) (taken : Taken) (ms : List ShownMessage) → AreShownOf app.app ms → bytes_of t.buffers span ≡ payload → AreFit payload ms → Shows t []
    → Shows (carried_over (Some app) cut span (segment_told t taken span) ms) (shown_with app.app payload ms)
unfolding carried_over
carried_shows app cut span t payload taken ms are is fit shows =
    let u : TreeShown = segment_told t taken span in
    let v : TreeShown = with_segments u (gathered_from ms) in
    let same : IsSameBare t v = same_on t u v (segment_bare t taken span) (segments_bare u (gathered_from ms)) in
    messages_show app.app cut span v [] t.buffers [] payload ms are (same.buffers ∙ sym (append-nil t.buffers)) is fit tt (shows_same t v [] same shows)

pub data_carried : (cut : Bool) (span : Span) (t : TreeShown) (taken : Taken) (ms : List ShownMessage) → Shows t [] → Shows (carried_over None cut span (segment_told t taken span) ms) []
unfolding carried_over
data_carried cut span t taken ms shows =
    let u : TreeShown = segment_told t taken span in
    data_shows u [] span (shows_same t u [] (segment_bare t taken span) shows)
