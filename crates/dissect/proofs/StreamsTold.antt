-- The last layer of TCP tells the number of its segment's stream, and goes on to do so as a tree grows.
use Rattle.std.proofs.Common.{◌≡◌, ◌==◌, ℕ, zero, suc, ◌+◌, ◌-◌, Bool, true, false, ◌&&◌, ◌||◌, if◌then◌else◌, List, [], ◌∷◌, ◌++◌, length, map, Option, Some, None, refl, sym, ap, ◌∙◌, subst, inl, inr, arith, length-append}
use Rattle.std.specs.Prelude.{nat_lt}
use Rattle.std.proofs.lemmas.Bool.{cond-true}
use Rattle.pk_base.specs.declared.heads.After.{After}
use Rattle.pk_base.specs.declared.heads.After.TheVariants as afters
use Rattle.pk_base.specs.declared.heads.Mode.{Mode}
use Rattle.pk_base.specs.declared.heads.Mode.TheVariants.{Plain as PlainMode, Embedded}
use Rattle.pk_base.specs.declared.heads.Next.TheVariants as nexts
use Rattle.pk_base.specs.declared.heads.TcpHead.{TcpHead}
use Rattle.pk_base.specs.declared.span.Span.{Span}
use Rattle.pk_base.specs.declared.value.Value.TheVariants.{Uint}
use Rattle.pk_fields.specs.FieldSets.{every_field, is_in}
use Rattle.pk_fields.specs.Ids.{DATA, HTTP, HTTP_FILE_DATA, TCP, TCP_ACK, TCP_LEN, TCP_LOST, TCP_PAYLOAD, TCP_SEGMENT, TCP_SEQ, TCP_STREAM, WS_MALFORMED, WS_SHORT}
use Rattle.pk_fields.proofs.FieldSetLemmas.{in_every}
use Rattle.pk_tree.specs.Buffers.{bytes_of}
use Rattle.pk_tree.specs.Following.{behind}
use Rattle.pk_tree.specs.Layouts.{end_of, fault_of, is_all, items_read, layer_read, reach, reaches_end, with_fault, within}
use Rattle.pk_tree.specs.Trees.{TreeShown, kept, layer_gets, layers_of, made_of, read_of, with_buffer, with_item, with_item_at, with_last, with_layer}
use Rattle.pk_tree.specs.declared.item.Item.{Item}
use Rattle.pk_tree.specs.declared.layer.Layer.{Layer}
use Rattle.pk_tree.specs.declared.layout.Reach.{Reach}
use Rattle.pk_tree.specs.declared.layout.Reach.TheVariants.{All, Short, Failed}
use Rattle.pk_tree.specs.declared.layout.Step.{Step}
use Rattle.dis_http.specs.Http.{body_read, http_layout, http_read, joined, plain_read, with_content}
use Rattle.dis_ports.specs.Tcp.{header_len, tcp_after, tcp_carries, tcp_head, tcp_layout}
use Rattle.message_links.specs.Linked.{layer_link, layer_linked, linked, with_link}
use Rattle.tcp_streams.specs.declared.segment.Taken.{Taken}
use Rattle.tcp_streams.specs.Gaps.{lost_bytes}
use Rattle.stream_messages.specs.declared.shape.Body.{Body}
use Rattle.stream_messages.specs.declared.shape.Body.TheVariants.{None as Bodiless, Plain, Chunked, NotShown}
use Rattle.pk_fields.specs.declared.apps.App.{App}
use Rattle.app_layers.specs.declared.streamed.StreamApp.{StreamApp}
use Rattle.stream_messages.specs.declared.told.Told.{Told}
use Rattle.stream_messages.specs.declared.told.Told.TheVariants as tellings
use Rattle.stream_messages.specs.Tellings.{end_of as told_end}
use Rattle.tcp_messages.specs.declared.met.ShownMessage.{ShownMessage}
use Rattle.tcp_messages.specs.declared.met.Source.{Source}
use Rattle.tcp_messages.specs.declared.met.Source.TheVariants as sources
use Rattle.tcp_messages.specs.Shown.{frames_told as gathered_from}
use Rattle.app_layers.specs.DataLayer.{data_layout, data_over}
use Rattle.app_layers.specs.MessageLayers.{added_span, carried_over, message_over, messages_over, sized_over, sourced_over, tells_length, told_over, with_segments}
use Rattle.app_layers.specs.Rows.{framer_of, layout_of, proto_of}
use Rattle.app_layers.proofs.RowLemmas.{not_tcp}
use Rattle.app_layers.specs.Payloads.{place_told, segment_told, with_ack, with_number, with_payload}
use Rattle.dissect.specs.MessageLaws.{HasStream, TellsStream, has_tcp}
use Rattle.dissect.proofs.TreeMessages.{IsOther, each_fault, gets_bares, has_bares, none_append}

-- ---- layers

has_more : (n : ℕ) (items more : List Item) → HasStream n items → HasStream n (items ++ more)
has_more n [] more has = absurd has
has_more n (item ∷ items) more (inl here) = inl here
has_more n (item ∷ items) more (inr rest) = inr (has_more n items more rest)

has_last : (n : ℕ) (items : List Item) → HasStream n (items ++ made_of TCP_STREAM (Uint n) ∷ [])
has_last n [] = inl refl
has_last n (item ∷ items) = inr (has_last n items)

gets_has : (layers : List Layer) (at : ℕ) (item : Item) → has_tcp (layer_gets layers at item) ≡ has_tcp layers
gets_has layers at item = sym (has_bares (layer_gets layers at item)) ∙ ap has_tcp (gets_bares layers at item) ∙ has_bares layers

gets_tells : (n : ℕ) (layers : List Layer) (at : ℕ) (item : Item) → TellsStream n layers → TellsStream n (layer_gets layers at item)
gets_tells n [] at item tells = absurd tells
gets_tells n (layer ∷ layers) zero item (inl here) = inl (here.0, here.1, has_more n layer.items (item ∷ []) here.2)
gets_tells n (layer ∷ layers) zero item (inr rest) = inr rest
gets_tells n (layer ∷ layers) (suc at) item (inl here) = inl (here.0, gets_has layers at item ∙ here.1, here.2)
gets_tells n (layer ∷ layers) (suc at) item (inr rest) = inr (gets_tells n layers at item rest)

append_tells : (n : ℕ) (layers more : List Layer) → has_tcp more ≡ false → TellsStream n layers → TellsStream n (layers ++ more)
append_tells n [] more none tells = absurd tells
append_tells n (layer ∷ layers) more none (inl here) = inl (here.0, none_append layers more here.1 none, here.2)
append_tells n (layer ∷ layers) more none (inr rest) = inr (append_tells n layers more none rest)

push_tells : (n : ℕ) (before : List Layer) (tcp : Layer) → tcp.proto ≡ TCP → TellsStream n (layer_gets (before ++ tcp ∷ []) (length before) (made_of TCP_STREAM (Uint n)))
push_tells n [] tcp is = inl (is, refl, has_last n tcp.items)
push_tells n (layer ∷ before) tcp is = inr (push_tells n before tcp is)

link_proto : (wanted : List ℕ) (links : List (Option ℕ)) (layer : Layer) → (layer_linked wanted links layer).proto ≡ layer.proto
link_proto wanted links layer = elim (layer_link wanted links layer) as (λ o. (with_link layer o).proto ≡ layer.proto) [
  | None ↦ refl
  | Some link ↦ refl
]

link_has : (n : ℕ) (wanted : List ℕ) (links : List (Option ℕ)) (layer : Layer) → HasStream n layer.items → HasStream n (layer_linked wanted links layer).items
link_has n wanted links layer has = elim (layer_link wanted links layer) as (λ o. HasStream n (with_link layer o).items) [
  | None ↦ has
  | Some link ↦ has_more n layer.items _ has
]

links_has : (wanted : List ℕ) (links : List (Option ℕ)) (layers : List Layer) → has_tcp (map (layer_linked wanted links) layers) ≡ has_tcp layers
links_has wanted links [] = refl
links_has wanted links (layer ∷ layers) =
    ap (λ (proto : ℕ). proto == TCP || has_tcp (map (layer_linked wanted links) layers)) (link_proto wanted links layer)
    ∙ ap (λ (b : Bool). layer.proto == TCP || b) (links_has wanted links layers)

links_tell : (n : ℕ) (wanted : List ℕ) (links : List (Option ℕ)) (layers : List Layer) → TellsStream n layers → TellsStream n (map (layer_linked wanted links) layers)
links_tell n wanted links [] tells = absurd tells
links_tell n wanted links (layer ∷ layers) (inl here) =
    inl (link_proto wanted links layer ∙ here.0, links_has wanted links layers ∙ here.1, link_has n wanted links layer here.2)
links_tell n wanted links (layer ∷ layers) (inr rest) = inr (links_tell n wanted links layers rest)

-- ---- trees

abbrev pub GrowsOn : TreeShown → TreeShown → Type 0
GrowsOn t u = (n : ℕ) → TellsStream n t.layers → TellsStream n u.layers

on_if : (b : Bool) (t u v : TreeShown) → GrowsOn t u → GrowsOn t v → GrowsOn t (if b then u else v)
on_if true t u v one other = one
on_if false t u v one other = other

self_on : (t : TreeShown) → GrowsOn t t
self_on t = λ n tells. tells

item_on : (t : TreeShown) (item : Item) → GrowsOn t (with_item t item)
unfolding with_item with_last with_item_at
item_on t item = on_if (is_in t.wanted item.field) t (with_last t item) t (λ n tells. gets_tells n t.layers (length t.layers - 1) item tells) (self_on t)

buffer_on : (t : TreeShown) (bytes : List ℕ) → GrowsOn t (with_buffer t bytes)
unfolding with_buffer
buffer_on t bytes = λ n tells. tells

layer_on : (t : TreeShown) (proto : ℕ) (span : Span) (items : List Item) → IsOther proto → GrowsOn t (with_layer t proto span items)
unfolding with_layer
layer_on t proto span items other = λ n tells.
    append_tells n t.layers (record { proto = proto; nth = layers_of proto t.layers + 1; span = span; items = kept t.wanted items } ∷ [])
    (ap (λ (b : Bool). b || false) other) tells

read_on : (t : TreeShown) (proto : ℕ) (span : Span) (steps : List Step) (mode : Mode) (cut : Bool) → IsOther proto → GrowsOn t (layer_read t proto span steps mode cut)
unfolding layer_read
read_on t proto span steps mode cut other =
    let u : TreeShown = with_layer t proto span (items_read t.buffers span steps) in
    let one : GrowsOn t u = layer_on t proto span (items_read t.buffers span steps) other in
    each_fault (λ (fault : Option ℕ). GrowsOn t (with_fault u span fault)) mode (cut && reaches_end t.buffers span) (reach span.len steps) one
    (λ n tells. layer_on u WS_SHORT (end_of span) [] refl n (one n tells)) (λ n tells. layer_on u WS_MALFORMED (end_of span) [] refl n (one n tells))

pub data_on : (t : TreeShown) (span : Span) → GrowsOn t (data_over t span)
unfolding data_over
data_on t span = on_if (span.len == 0) t t _ (self_on t) (read_on t DATA span (data_layout span.len) PlainMode false refl)

pub linked_on : (wanted : List ℕ) (links : List (Option ℕ)) (t : TreeShown) → GrowsOn t (linked wanted links t)
unfolding linked
linked_on wanted links t = λ n tells. links_tell n wanted links t.layers tells

-- ---- what a segment carries

number_on : (t : TreeShown) (field number : ℕ) → GrowsOn t (with_number t field number)
number_on t field number = item_on t (made_of field (Uint number))

ack_on : (t : TreeShown) (ack : Option ℕ) → GrowsOn t (with_ack t ack)
ack_on t None = self_on t
ack_on t (Some ack) = number_on t TCP_ACK ack

segments_on : (t : TreeShown) (frames : List ℕ) → GrowsOn t (with_segments t frames)
segments_on t [] = self_on t
segments_on t (frame ∷ frames) = λ n tells. segments_on (with_number t TCP_SEGMENT frame) frames n (number_on t TCP_SEGMENT frame n tells)

segment_on : (t : TreeShown) (taken : Taken) (span : Span) → GrowsOn (with_number t TCP_STREAM taken.stream) (segment_told t taken span)
unfolding segment_told place_told
segment_on t taken span = λ n tells.
    let one : TreeShown = with_number t TCP_STREAM taken.stream in
    let two : TreeShown = with_number one TCP_SEQ taken.seq in
    let three : TreeShown = with_ack two taken.ack in
    let four : TreeShown = with_number three TCP_LEN span.len in
    let five : TreeShown = with_payload four TCP_PAYLOAD span in
    on_if (lost_bytes taken.lost == 0) five five _ (self_on five) (number_on five TCP_LOST (lost_bytes taken.lost)) n
    (on_if (span.len == 0) four four _ (self_on four) (item_on four (read_of four.buffers TCP_PAYLOAD span)) n
    (number_on three TCP_LEN span.len n (ack_on two taken.ack n (number_on one TCP_SEQ taken.seq n tells))))

content_on : (t : TreeShown) (whole : Bool) (number : ℕ) (content : List ℕ) → GrowsOn t (with_content t whole number content)
content_on t whole number content =
    on_if (whole && nat_lt 0 (length content)) t _ t (item_on t (read_of t.buffers HTTP_FILE_DATA (record { buffer = number; start = 0; len = length content }))) (self_on t)

body_on : (t : TreeShown) (span : Span) (steps : List Step) (bytes : List ℕ) (body : Body) → GrowsOn t (body_read t span steps bytes body)
body_on t span steps bytes Bodiless = read_on t HTTP span steps PlainMode false refl
body_on t span steps bytes (Plain len) = read_on t HTTP span steps PlainMode false refl
body_on t span steps bytes (Chunked pieces) = λ n tells.
    let content : List ℕ = joined bytes pieces in
    let u : TreeShown = with_buffer t content in
    content_on (plain_read u span steps) (is_all (reach span.len steps)) (length t.buffers) content n
    (read_on u HTTP span steps PlainMode false refl n (buffer_on t content n tells))
body_on t span steps bytes NotShown = read_on t HTTP span steps PlainMode false refl

sized_on : (app : App) (cut : Bool) (t : TreeShown) (span : Span) → GrowsOn t (sized_over app cut t span)
sized_on app cut t span =
    on_if (tells_length (framer_of app)) t _ t (read_on t (proto_of app) span (layout_of app true (bytes_of t.buffers span)) PlainMode cut (not_tcp app)) (self_on t)

told_on : (app : App) (cut : Bool) (t : TreeShown) (span : Span) (told : Told) → GrowsOn t (told_over app cut t span told)
unfolding http_read
told_on app cut t span (tellings.Sized end) = sized_on app cut t span
told_on app cut t span (tellings.Http shape) = body_on t span (http_layout shape (bytes_of t.buffers span)) (bytes_of t.buffers span) shape.body

sourced_on : (app : App) (cut : Bool) (span : Span) (t : TreeShown) (told : Told) (source : Source) → GrowsOn t (sourced_over app cut span t told source)
sourced_on app cut span t told (sources.Segment place) = told_on app cut t (within span place (told_end told)) told
sourced_on app cut span t told (sources.Gathered g) = λ n tells. told_on app cut (with_buffer t g.bytes) (added_span t g.bytes) told n (buffer_on t g.bytes n tells)

messages_on : (app : App) (cut : Bool) (span : Span) (t : TreeShown) (ms : List ShownMessage) → GrowsOn t (messages_over app cut span t ms)
unfolding message_over
messages_on app cut span t [] = self_on t
messages_on app cut span t (m ∷ ms) = λ n tells. messages_on app cut span (message_over app cut span t m) ms n (sourced_on app cut span t m.message.told m.source n tells)

carried_on : (app : Option StreamApp) (cut : Bool) (span : Span) (t : TreeShown) (ms : List ShownMessage) → GrowsOn t (carried_over app cut span t ms)
unfolding carried_over
carried_on None cut span t ms = data_on t span
carried_on (Some app) cut span t ms = λ n tells.
    messages_on app.app cut span (with_segments t (gathered_from ms)) ms n (segments_on t (gathered_from ms) n tells)

-- ---- the layer of TCP

-- where a segment follows, its header's layer is the last, and takes the stream's number
abbrev pub TakesStream : After → TreeShown → Type 0
TakesStream (afters.Next next span) t = Unit {0}
TakesStream (afters.Packet next span packet) t = Unit {0}
TakesStream (afters.Fragment head span) t = Unit {0}
TakesStream (afters.Datagram head span) t = Unit {0}
TakesStream (afters.Segment head span) t = (n : ℕ) → TellsStream n (with_number t TCP_STREAM n).layers
TakesStream afters.End t = Unit {0}

takes_if : (b : Bool) (x y : After) (t : TreeShown) → TakesStream x t → TakesStream y t → TakesStream (if b then x else y) t
takes_if true x y t one other = one
takes_if false x y t one other = other

last_takes : (t : TreeShown) (before : List Layer) (tcp : Layer) → t.layers ≡ before ++ tcp ∷ [] → tcp.proto ≡ TCP → t.wanted ≡ every_field → (n : ℕ) → TellsStream n (with_number t TCP_STREAM n).layers
unfolding with_item with_last with_item_at
last_takes t before tcp is proto all n =
    let item : Item = made_of TCP_STREAM (Uint n) in
    let wanted : is_in t.wanted TCP_STREAM ≡ true = ap (λ (w : List ℕ). is_in w TCP_STREAM) all ∙ in_every TCP_STREAM in
    let last : length (before ++ tcp ∷ []) - 1 ≡ length before = omega (arith, length-append before (tcp ∷ [])) in
    subst (λ (u : TreeShown). TellsStream n u.layers) (sym (cond-true _ _ _ wanted))
    (subst (λ (layers : List Layer). TellsStream n (layer_gets layers (length layers - 1) item)) (sym is)
    (subst (λ (at : ℕ). TellsStream n (layer_gets (before ++ tcp ∷ []) at item)) (sym last) (push_tells n before tcp proto)))

carries_takes : (r : Reach) (mode : Mode) (torn : Bool) (head : TcpHead) (header : ℕ) (span : Span) (t : TreeShown) → ((n : ℕ) → TellsStream n (with_number t TCP_STREAM n).layers)
    → TakesStream (tcp_carries r mode head header span) (with_fault t span (fault_of mode torn r))
carries_takes All PlainMode torn head header span t takes = takes
carries_takes All Embedded torn head header span t takes = takes_if _ (afters.Next nexts.Rest (behind span header)) afters.End t tt tt
carries_takes Short mode torn head header span t takes = tt
carries_takes Failed mode torn head header span t takes = tt

pub tcp_takes : (t : TreeShown) (span : Span) (bytes : List ℕ) (mode : Mode) (cut : Bool) → t.wanted ≡ every_field → TakesStream (tcp_after mode span bytes) (layer_read t TCP span (tcp_layout bytes) mode cut)
unfolding tcp_after layer_read with_layer
tcp_takes t span bytes mode cut all =
    let items : List Item = items_read t.buffers span (tcp_layout bytes) in
    carries_takes (reach span.len (tcp_layout bytes)) mode (cut && reaches_end t.buffers span) (tcp_head bytes) (header_len bytes) span (with_layer t TCP span items)
    (last_takes (with_layer t TCP span items) t.layers (record { proto = TCP; nth = layers_of TCP t.layers + 1; span = span; items = kept t.wanted items }) refl refl all)

pub segment_tells : (app : Option StreamApp) (cut : Bool) (span : Span) (t : TreeShown) (taken : Taken) (ms : List ShownMessage) → ((n : ℕ) → TellsStream n (with_number t TCP_STREAM n).layers)
    → TellsStream taken.stream (carried_over app cut span (segment_told t taken span) ms).layers
segment_tells app cut span t taken ms takes =
    carried_on app cut span (segment_told t taken span) ms taken.stream (segment_on t taken span taken.stream (takes taken.stream))
