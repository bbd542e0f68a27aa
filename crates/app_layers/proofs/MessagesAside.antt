-- Where nothing of messages is asked, a tree without them lacks only layers that have nothing to show, and buffers.
use Rattle.std.proofs.Common.{◌≡◌, ℕ, ◌+◌, Bool, true, false, ◌&&◌, if◌then◌else◌, List, [], ◌∷◌, ◌++◌, length, Option, None, Some, refl, sym, ap, ◌∙◌, subst, append_assoc, append-nil}
use Rattle.std.specs.Prelude.{nat_lt, IsSome}
use Rattle.std.proofs.lemmas.Bool.{true≢false}
use Rattle.std.specs.List.{AllByRecursion as Each}
use Rattle.pk_base.specs.declared.span.Span.{Span}
use Rattle.pk_tree.specs.Buffers.{bytes_of}
use Rattle.pk_fields.specs.Fields.{row_of}
use Rattle.pk_fields.specs.FieldSets.{is_in}
use Rattle.pk_fields.specs.Ids.{HTTP, HTTP_FILE_DATA, TCP_SEGMENT, WS_MALFORMED, WS_SHORT}
use Rattle.pk_fields.specs.Table.{rows}
use Rattle.pk_base.specs.declared.heads.Mode.{Mode}
use Rattle.pk_base.specs.declared.heads.Mode.TheVariants.{Plain as PlainMode}
use Rattle.pk_tree.specs.declared.item.Item.{Item}
use Rattle.pk_tree.specs.declared.layer.Layer.{Layer}
use Rattle.pk_tree.specs.declared.layout.Reach.{Reach}
use Rattle.pk_tree.specs.declared.layout.Reach.TheVariants as reaches
use Rattle.pk_tree.specs.declared.layout.Step.{Step}
use Rattle.pk_base.specs.declared.value.Value.TheVariants.{Uint}
use Rattle.pk_tree.specs.Layouts.{end_of, fault_of, is_all, items_read, layer_read, reach, reaches_end, with_fault, within}
use Rattle.pk_tree.specs.Trees.{TreeShown, kept, layers_of, made_of, read_of, with_buffer, with_item, with_layer}
use Rattle.pk_tree.proofs.KeptLemmas.{none_asked, passed}
use Rattle.stream_messages.specs.declared.shape.Body.{Body}
use Rattle.stream_messages.specs.declared.shape.Body.TheVariants.{None as Bodiless, Plain, Chunked, NotShown}
use Rattle.stream_messages.specs.declared.shape.Shape.{Shape}
use Rattle.stream_messages.specs.declared.framer.Framer.{Framer}
use Rattle.dis_http.specs.Http.{http_layout, http_read, body_read, plain_read, with_content, joined}
use Rattle.pk_fields.specs.declared.apps.App.{App}
use Rattle.pk_fields.specs.declared.apps.App.TheVariants as apps
use Rattle.app_layers.specs.declared.streamed.StreamApp.{StreamApp}
use Rattle.stream_messages.specs.declared.told.Told.{Told}
use Rattle.stream_messages.specs.declared.told.Told.TheVariants as tellings
use Rattle.stream_messages.specs.Tellings.{end_of as told_end}
use Rattle.tcp_messages.specs.declared.met.ShownMessage.{ShownMessage}
use Rattle.tcp_messages.specs.declared.met.Source.{Source}
use Rattle.tcp_messages.specs.declared.met.Source.TheVariants as sources
use Rattle.tcp_messages.specs.Shown.{frames_told as gathered_from}
use Rattle.app_layers.specs.DataLayer.{data_over}
use Rattle.app_layers.specs.Aside.{IsAside, LacksOnly}
use Rattle.app_layers.specs.MessageLayers.{added_span, carried_over, message_over, messages_over, sized_over, sourced_over, tells_length, told_over, with_segments}
use Rattle.app_layers.specs.Rows.{framer_of, layout_of, proto_of}
use Rattle.app_layers.proofs.RowLemmas.{home_of, rows_fit}
use Rattle.app_layers.specs.Payloads.{with_number}
use Rattle.app_layers.proofs.HttpUnasked.{http_unasked}

pub record AsksNoMessages (wanted : List ℕ) : Type 0 where
  pub segment : is_in wanted TCP_SEGMENT ≡ false
  pub short : is_in wanted WS_SHORT ≡ false
  pub malformed : is_in wanted WS_MALFORMED ≡ false
  pub fields : (app : App) → IsSome (framer_of app) → (f : ℕ) → (row_of f).proto ≡ proto_of app → is_in wanted f ≡ false

-- nothing of a protocol is asked, nor the fault layers behind its messages
pub record AsksNoneOf (proto : ℕ) (wanted : List ℕ) : Type 0 where
  pub short : is_in wanted WS_SHORT ≡ false
  pub malformed : is_in wanted WS_MALFORMED ≡ false
  pub fields : (f : ℕ) → (row_of f).proto ≡ proto → is_in wanted f ≡ false

-- nothing of an application's messages whose head tells their length
abbrev pub AsksNotSized : App → List ℕ → Type 0
AsksNotSized app wanted = tells_length (framer_of app) ≡ true → AsksNoneOf (proto_of app) wanted

-- nothing of what a message of an application is told as
abbrev pub AsksNotTold : App → List ℕ → Told → Type 0
AsksNotTold app wanted (tellings.Sized end) = AsksNotSized app wanted
AsksNotTold app wanted (tellings.Http shape) = AsksNoneOf HTTP wanted

abbrev pub AsksNotShown : App → List ℕ → List ShownMessage → Type 0
AsksNotShown app wanted ms = Each (λ m. AsksNotTold app wanted m.message.told) ms

-- nothing of what a stream shows, if its application is known
abbrev pub AsksNotCarried : Option StreamApp → List ℕ → List ShownMessage → Type 0
AsksNotCarried None wanted ms = Unit {0}
AsksNotCarried (Some app) wanted ms = AsksNotShown app.app wanted ms

pub sized_some : (framer : Option Framer) → tells_length framer ≡ true → IsSome framer
sized_some None sized = absurd (true≢false (sym sized))
sized_some (Some framer) sized = refl

none_sized : (app : App) (wanted : List ℕ) → AsksNoMessages wanted → AsksNotSized app wanted
none_sized app wanted none sized = record { short = none.short; malformed = none.malformed; fields = none.fields app (sized_some (framer_of app) sized) }

none_told : (app : App) (wanted : List ℕ) (told : Told) → AsksNoMessages wanted → AsksNotTold app wanted told
none_told app wanted (tellings.Sized end) none = none_sized app wanted none
none_told app wanted (tellings.Http shape) none = record { short = none.short; malformed = none.malformed; fields = none.fields apps.Http refl }

all_none : (app : App) (wanted : List ℕ) (ms : List ShownMessage) → AsksNoMessages wanted → AsksNotShown app wanted ms
all_none app wanted [] none = tt
all_none app wanted (m ∷ ms) none = (none_told app wanted m.message.told none, all_none app wanted ms none)

pub none_shown : (app : Option StreamApp) (wanted : List ℕ) (ms : List ShownMessage) → AsksNoMessages wanted → AsksNotCarried app wanted ms
none_shown None wanted ms none = tt
none_shown (Some app) wanted ms none = all_none app.app wanted ms none

-- ---- a tree that lacks something, as one fact with its wanted fields

pub record Lacks (whole t : TreeShown) : Type 0 where
  pub wanted : whole.wanted ≡ t.wanted
  pub only : LacksOnly whole t

pub lacks_none : (t : TreeShown) → LacksOnly t t
lacks_none t = record { layers = []; whole_layers = sym (append-nil t.layers); aside = tt; buffers = []; whole_buffers = sym (append-nil t.buffers) }

each_both : (P : Layer → Type 0) (xs ys : List Layer) → Each P xs → Each P ys → Each P (xs ++ ys)
each_both P [] ys front back = back
each_both P (x ∷ xs) ys front back = (front.0, each_both P xs ys front.1 back)

pub lacks_on : (whole mid t : TreeShown) → mid.wanted ≡ whole.wanted → LacksOnly whole mid → LacksOnly mid t → LacksOnly whole t
lacks_on whole mid t same first second = record {
  layers = second.layers ++ first.layers;
  whole_layers = first.whole_layers ∙ ap (λ (ls : List Layer). ls ++ first.layers) second.whole_layers ∙ append_assoc t.layers second.layers first.layers;
  aside = each_both (IsAside whole.wanted) second.layers first.layers (subst (λ (wanted : List ℕ). Each (IsAside wanted) second.layers) same second.aside) first.aside;
  buffers = second.buffers ++ first.buffers;
  whole_buffers = first.whole_buffers ∙ ap (λ (bs : List (List ℕ)). bs ++ first.buffers) second.whole_buffers ∙ append_assoc t.buffers second.buffers first.buffers;
}

both : (whole mid t : TreeShown) → Lacks whole mid → Lacks mid t → Lacks whole t
both whole mid t first second = record { wanted = first.wanted ∙ second.wanted; only = lacks_on whole mid t (sym first.wanted) first.only second.only }

same_lacks : (whole t : TreeShown) → whole ≡ t → Lacks whole t
same_lacks whole t is = subst (λ (w : TreeShown). Lacks w t) (sym is) (record { wanted = refl; only = lacks_none t })

-- ---- what adds nothing to show

layer_lacks : (t : TreeShown) (proto : ℕ) (span : Span) (items : List Item) → is_in t.wanted proto ≡ false → kept t.wanted items ≡ [] → Lacks (with_layer t proto span items) t
unfolding with_layer
layer_lacks t proto span items aside none = record {
  wanted = refl;
  only = record {
    layers = (record { proto = proto; nth = layers_of proto t.layers + 1; span = span; items = kept t.wanted items }) ∷ [];
    whole_layers = refl;
    aside = ((aside, none), tt);
    buffers = [];
    whole_buffers = sym (append-nil t.buffers);
  };
}

no_items : (wanted : List ℕ) → kept wanted [] ≡ []
unfolding kept
no_items wanted = refl

buffer_lacks : (t : TreeShown) (bytes : List ℕ) → Lacks (with_buffer t bytes) t
unfolding with_buffer
buffer_lacks t bytes = record {
  wanted = refl;
  only = record { layers = []; whole_layers = sym (append-nil t.layers); aside = tt; buffers = bytes ∷ []; whole_buffers = refl };
}

item_none : (t : TreeShown) (item : Item) → is_in t.wanted item.field ≡ false → with_item t item ≡ t
unfolding with_item
item_none t item none = rw none refl

-- a fault layer, or none
IsFault : Option ℕ → List ℕ → Type 0
IsFault None wanted = Unit {0}
IsFault (Some fault) wanted = is_in wanted fault ≡ false

fault_is : (mode : Mode) (torn : Bool) (r : Reach) (wanted : List ℕ) → mode ≡ PlainMode → is_in wanted WS_SHORT ≡ false → is_in wanted WS_MALFORMED ≡ false → IsFault (fault_of mode torn r) wanted
unfolding IsFault
fault_is PlainMode torn reaches.All wanted plain short malformed = tt
fault_is PlainMode true reaches.Short wanted plain short malformed = short
fault_is PlainMode false reaches.Short wanted plain short malformed = malformed
fault_is PlainMode torn reaches.Failed wanted plain short malformed = malformed
fault_is mode torn r wanted plain short malformed = absurd (cc)

fault_lacks : (t : TreeShown) (span : Span) (fault : Option ℕ) → IsFault fault t.wanted → Lacks (with_fault t span fault) t
unfolding IsFault
fault_lacks t span None is = same_lacks t t refl
fault_lacks t span (Some fault) is = layer_lacks t fault (end_of span) [] is (no_items t.wanted)

read_lacks : (t : TreeShown) (proto : ℕ) (span : Span) (steps : List Step) (cut : Bool) → AsksNoneOf proto t.wanted → is_in t.wanted proto ≡ false → kept t.wanted (items_read t.buffers span steps) ≡ []
    → Lacks (layer_read t proto span steps PlainMode cut) t
unfolding layer_read
read_lacks t proto span steps cut unasked aside none =
    let u = with_layer t proto span (items_read t.buffers span steps) in
    let one = layer_lacks t proto span (items_read t.buffers span steps) aside none in
    let r = reach span.len steps in
    let torn = cut && reaches_end t.buffers span in
    both (with_fault u span (fault_of PlainMode torn r)) u t
    (fault_lacks u span (fault_of PlainMode torn r) (subst (IsFault (fault_of PlainMode torn r)) (sym one.wanted) (fault_is PlainMode torn r t.wanted refl unasked.short unasked.malformed))) one

-- ---- messages

home_http : (row_of HTTP).proto ≡ HTTP
unfolding row_of rows
home_http = refl

file_http : (row_of HTTP_FILE_DATA).proto ≡ HTTP
unfolding row_of rows
file_http = refl

if_lacks : (test : Bool) (t u v : TreeShown) → Lacks u v → Lacks t v → Lacks (if test then u else t) v
if_lacks true t u v one other = one
if_lacks false t u v one other = other

content_lacks : (t v : TreeShown) (number : ℕ) (content : List ℕ) (whole : Bool) → AsksNoneOf HTTP t.wanted → Lacks t v → Lacks (with_content t whole number content) v
content_lacks t v number content whole unasked lacks =
    let item = read_of t.buffers HTTP_FILE_DATA (record { buffer = number; start = 0; len = length content }) in
    if_lacks (whole && nat_lt 0 (length content)) t (with_item t item) v (subst (λ (u : TreeShown). Lacks u v) (sym (item_none t item (unasked.fields HTTP_FILE_DATA file_http))) lacks) lacks

plain_lacks : (t : TreeShown) (span : Span) (shape : Shape) (bytes : List ℕ) → AsksNoneOf HTTP t.wanted → Lacks (plain_read t span (http_layout shape bytes)) t
plain_lacks t span shape bytes unasked =
    read_lacks t HTTP span (http_layout shape bytes) false unasked (unasked.fields HTTP home_http)
    (none_asked t.wanted t.buffers span (http_layout shape bytes) (http_unasked t.wanted unasked.fields shape bytes))

body_lacks : (t : TreeShown) (span : Span) (shape : Shape) (bytes : List ℕ) (body : Body) → AsksNoneOf HTTP t.wanted → Lacks (body_read t span (http_layout shape bytes) bytes body) t
body_lacks t span shape bytes Bodiless unasked = plain_lacks t span shape bytes unasked
body_lacks t span shape bytes (Plain len) unasked = plain_lacks t span shape bytes unasked
body_lacks t span shape bytes (Chunked pieces) unasked =
    let content : List ℕ = joined bytes pieces in
    let u = with_buffer t content in
    let one = buffer_lacks t content in
    let asked : AsksNoneOf HTTP u.wanted = subst (AsksNoneOf HTTP) (sym one.wanted) unasked in
    let two = both (plain_read u span (http_layout shape bytes)) u t (plain_lacks u span shape bytes asked) one in
    content_lacks (plain_read u span (http_layout shape bytes)) t (length t.buffers) content (is_all (reach span.len (http_layout shape bytes))) (subst (AsksNoneOf HTTP) (sym two.wanted) unasked) two
body_lacks t span shape bytes NotShown unasked = plain_lacks t span shape bytes unasked

http_lacks : (t : TreeShown) (span : Span) (shape : Shape) → AsksNoneOf HTTP t.wanted → Lacks (http_read t span shape) t
unfolding http_read
http_lacks t span shape unasked = body_lacks t span shape (bytes_of t.buffers span) shape.body unasked

opened_same : (t : TreeShown) (proto : ℕ) (span : Span) → (with_layer t proto span []).buffers ≡ t.buffers
unfolding with_layer
opened_same t proto span = refl

row_lacks : (app : App) (t : TreeShown) (span : Span) (bytes : List ℕ) (cut : Bool) → tells_length (framer_of app) ≡ true → AsksNoneOf (proto_of app) t.wanted
    → Lacks (layer_read t (proto_of app) span (layout_of app true bytes) PlainMode cut) t
row_lacks app t span bytes cut sized unasked =
    let proto = proto_of app in
    let steps = layout_of app true bytes in
    let u = with_layer t proto span [] in
    let fault = fault_of PlainMode (cut && reaches_end u.buffers span) (reach span.len steps) in
    let one = layer_lacks t proto span [] (unasked.fields proto (home_of app)) (no_items t.wanted) in
    let closed : with_fault u span fault ≡ layer_read t proto span steps PlainMode cut =
    passed t u (with_fault u span fault) proto span steps PlainMode cut (reach span.len steps) unasked.fields refl (opened_same t proto span) refl (rows_fit app sized bytes) refl in
    subst (λ (v : TreeShown). Lacks v t) closed
    (both (with_fault u span fault) u t
    (fault_lacks u span fault (subst (IsFault fault) (sym one.wanted) (fault_is PlainMode (cut && reaches_end u.buffers span) (reach span.len steps) t.wanted refl unasked.short unasked.malformed))) one)

sized_lacks : (app : App) (cut : Bool) (t : TreeShown) (span : Span) → AsksNotSized app t.wanted → Lacks (sized_over app cut t span) t
sized_lacks app cut t span unasked = by_test (tells_length (framer_of app)) refl
  where
    by_test : (test : Bool) → tells_length (framer_of app) ≡ test → Lacks (if test then layer_read t (proto_of app) span (layout_of app true (bytes_of t.buffers span)) PlainMode cut else t) t
    by_test true is = row_lacks app t span (bytes_of t.buffers span) cut is (unasked is)
    by_test false is = same_lacks t t refl

told_lacks : (app : App) (cut : Bool) (t : TreeShown) (span : Span) (told : Told) → AsksNotTold app t.wanted told → Lacks (told_over app cut t span told) t
told_lacks app cut t span (tellings.Sized end) unasked = sized_lacks app cut t span unasked
told_lacks app cut t span (tellings.Http shape) unasked = http_lacks t span shape unasked

sourced_lacks : (app : App) (cut : Bool) (span : Span) (t : TreeShown) (told : Told) (source : Source) → AsksNotTold app t.wanted told → Lacks (sourced_over app cut span t told source) t
sourced_lacks app cut span t told (sources.Segment place) unasked = told_lacks app cut t (within span place (told_end told)) told unasked
sourced_lacks app cut span t told (sources.Gathered g) unasked =
    let one = buffer_lacks t g.bytes in
    both _ (with_buffer t g.bytes) t (told_lacks app cut (with_buffer t g.bytes) (added_span t g.bytes) told (subst (λ (wanted : List ℕ). AsksNotTold app wanted told) (sym one.wanted) unasked)) one

messages_lack : (app : App) (cut : Bool) (span : Span) (t : TreeShown) (ms : List ShownMessage) → AsksNotShown app t.wanted ms → Lacks (messages_over app cut span t ms) t
unfolding message_over
messages_lack app cut span t [] unasked = same_lacks t t refl
messages_lack app cut span t (m ∷ ms) unasked =
    let one = sourced_lacks app cut span t m.message.told m.source unasked.0 in
    both _ (message_over app cut span t m) t (messages_lack app cut span (message_over app cut span t m) ms (subst (λ (wanted : List ℕ). AsksNotShown app wanted ms) (sym one.wanted) unasked.1)) one

segments_none : (t : TreeShown) (frames : List ℕ) → is_in t.wanted TCP_SEGMENT ≡ false → with_segments t frames ≡ t
segments_none t [] unasked = refl
segments_none t (frame ∷ frames) unasked =
    let one : with_number t TCP_SEGMENT frame ≡ t = item_none t (made_of TCP_SEGMENT (Uint frame)) unasked in
    ap (λ (u : TreeShown). with_segments u frames) one ∙ segments_none t frames unasked

-- of messages of one application, and the frames that brought them
pub shown_lacks : (app : Option StreamApp) (cut : Bool) (span : Span) (t : TreeShown) (ms : List ShownMessage) → is_in t.wanted TCP_SEGMENT ≡ false → AsksNotCarried app t.wanted ms
    → LacksOnly (carried_over app cut span t ms) (carried_over app cut span t [])
unfolding carried_over
shown_lacks None cut span t ms segment unasked = lacks_none (data_over t span)
shown_lacks (Some app) cut span t ms segment unasked =
    let same : with_segments t (gathered_from ms) ≡ t = segments_none t (gathered_from ms) segment in
    (subst (λ (u : TreeShown). Lacks (messages_over app.app cut span u ms) t) (sym same) (messages_lack app.app cut span t ms unasked)).only

pub carried_lacks : (app : Option StreamApp) (cut : Bool) (span : Span) (t : TreeShown) (ms : List ShownMessage) → AsksNoMessages t.wanted → LacksOnly (carried_over app cut span t ms) (carried_over app cut span t [])
carried_lacks app cut span t ms unasked = shown_lacks app cut span t ms unasked.segment (none_shown app t.wanted ms unasked)
