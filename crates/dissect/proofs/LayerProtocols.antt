-- Each layer of a frame's whole tree is of one of the protocols.
use Rattle.std.proofs.Common.{◌≡◌, ◌==◌, ℕ, zero, suc, ◌+◌, ◌-◌, Bool, true, false, if◌then◌else◌, List, [], ◌∷◌, ◌++◌, map, length, Option, None, Some, refl, arith}
use Rattle.std.specs.Prelude.{◌&&◌, nat_lt}
use Rattle.pk_base.specs.declared.span.Span.{Span}
use Rattle.pk_base.specs.declared.heads.After.{After}
use Rattle.pk_base.specs.declared.heads.After.TheVariants as afters
use Rattle.pk_base.specs.declared.heads.FragmentHead.{FragmentHead}
use Rattle.pk_base.specs.declared.heads.Mode.{Mode}
use Rattle.pk_base.specs.declared.heads.Mode.TheVariants.{Plain as PlainMode, Embedded}
use Rattle.pk_base.specs.declared.heads.Next.{Next}
use Rattle.pk_base.specs.declared.heads.Next.TheVariants as nexts
use Rattle.pk_base.specs.declared.heads.PacketHead.{PacketHead}
use Rattle.pk_base.specs.declared.heads.PortsHead.{PortsHead}
use Rattle.pk_base.specs.declared.heads.TcpHead.{TcpHead}
use Rattle.pk_base.specs.declared.value.Value.TheVariants.{Uint}
use Rattle.pk_fields.specs.Fields.{row_of}
use Rattle.pk_fields.specs.FieldSets.{every_field}
use Rattle.pk_fields.specs.Ids.{FRAME, ETH, NULL, SLL, SLL2, VLAN, ARP, IP, IPV6, IPV6_HOPOPTS, IPV6_ROUTING, IPV6_DSTOPTS, IPV6_FRAGHDR, ICMP, ICMPV6, ND, IGMP, UDP, UDP_STREAM, UDP_PAYLOAD, TCP, TCP_STREAM, TCP_SEQ, TCP_ACK, TCP_LEN, TCP_PAYLOAD, TCP_LOST, TCP_SEGMENT, HTTP, HTTP_FILE_DATA, DATA, WS_SHORT, WS_MALFORMED}
use Rattle.pk_fields.specs.Table.{rows}
use Rattle.pk_fields.specs.declared.apps.App.{App}
use Rattle.pk_fields.specs.declared.apps.App.TheVariants as apps
use Rattle.pk_fields.specs.declared.rules.PortRule.{PortRule}
use Rattle.pk_tree.specs.Buffers.{bytes_of}
use Rattle.pk_tree.specs.declared.item.Item.{Item}
use Rattle.pk_tree.specs.declared.layer.Layer.{Layer}
use Rattle.pk_tree.specs.declared.layout.Reach.{Reach}
use Rattle.pk_tree.specs.declared.layout.Reach.TheVariants as reaches
use Rattle.pk_tree.specs.declared.layout.Step.{Step}
use Rattle.pk_tree.specs.Layouts.{end_of, fault_of, is_all, items_read, layer_read, reach, reaches_end, with_fault, within}
use Rattle.pk_tree.specs.Trees.{TreeShown, kept, layer_gets, layers_of, made_of, read_of, with_buffer, with_item, with_item_at, with_last, with_layer}
use Rattle.dis_link.specs.Link.{link_of, link_read}
use Rattle.dis_http.specs.Http.{http_layout, http_read, body_read, chunked_read, plain_read, joined}
use Rattle.ip_join.specs.declared.joined.Datagram.{Datagram}
use Rattle.ip_join.specs.declared.joined.Joined.{Joined}
use Rattle.ip_join.specs.declared.joined.Joined.TheVariants.{Pending, Whole, Conflict}
use Rattle.tcp_streams.specs.declared.segment.Taken.{Taken}
use Rattle.tcp_streams.specs.Gaps.{lost_bytes}
use Rattle.stream_messages.specs.declared.shape.Body.{Body}
use Rattle.stream_messages.specs.declared.shape.Body.TheVariants as bodies
use Rattle.stream_messages.specs.declared.shape.Shape.{Shape}
use Rattle.stream_messages.specs.declared.told.Told.{Told}
use Rattle.stream_messages.specs.declared.told.Told.TheVariants as tellings
use Rattle.stream_messages.specs.Tellings.{end_of as told_end}
use Rattle.tcp_messages.specs.declared.met.ShownMessage.{ShownMessage}
use Rattle.tcp_messages.specs.declared.met.Source.{Source}
use Rattle.tcp_messages.specs.declared.met.Source.TheVariants as sources
use Rattle.tcp_messages.specs.Shown.{frames_told as gathered_from}
use Rattle.capture_read.specs.declared.frame.Frame.{Frame}
use Rattle.app_layers.specs.declared.streamed.StreamApp.{StreamApp}
use Rattle.app_layers.specs.declared.times.Times.{Times}
use Rattle.app_layers.specs.Applications.{data_behind, message_over as payload_message, payload_over}
use Rattle.app_layers.specs.DataLayer.{data_over}
use Rattle.app_layers.specs.Fragments.{conflict_told, frame_field, frames_told, joined_told, length_field, number_told}
use Rattle.app_layers.specs.FrameLayer.{frame_span, frame_tree, is_cut, kept_frame}
use Rattle.app_layers.specs.MessageLayers.{added_span, carried_over, message_over, messages_over, sourced_over, tells_length, told_over, with_segments}
use Rattle.app_layers.specs.Payloads.{carried_told, datagram_told, place_told, segment_told, with_ack, with_number, with_payload}
use Rattle.app_layers.specs.Rows.{framer_of, in_datagrams, proto_of}
use Rattle.app_layers.proofs.RowLemmas.{is_field, is_protocol}
use Rattle.message_links.specs.Linked.{layer_link, layer_linked, linked, with_link}
use Rattle.dissect.specs.declared.todo.Head.{Head}
use Rattle.dissect.specs.declared.todo.Todo.{Todo}
use Rattle.dissect.specs.declared.todo.Todo.TheVariants as todos
use Rattle.dissect.specs.Events.{Event, NewFrame}
use Rattle.dissect.specs.Trees.{bare_tree, events_of, times_of, tree_at, walk_of}
use Rattle.dissect.specs.Links.{newest_links}
use Rattle.dissect.specs.Protocols.{AreOnes, IsOne}
use Rattle.dissect.specs.Walks.{Walk, stop, joined_met, fragment_by, fragment_met, datagram_met, segment_met, followed, layer_met, message_met, mode_behind, head_by, step_on, step, rest_on, chain, link_met, all_met, no_packet}

abbrev Has : TreeShown → Type 0
Has t = AreOnes t.layers

-- ---- the protocols

is_frame : IsOne FRAME
unfolding IsOne row_of rows
is_frame = (omega arith, refl)

is_eth : IsOne ETH
unfolding IsOne row_of rows
is_eth = (omega arith, refl)

is_null : IsOne NULL
unfolding IsOne row_of rows
is_null = (omega arith, refl)

is_sll : IsOne SLL
unfolding IsOne row_of rows
is_sll = (omega arith, refl)

is_sll2 : IsOne SLL2
unfolding IsOne row_of rows
is_sll2 = (omega arith, refl)

is_data : IsOne DATA
unfolding IsOne row_of rows
is_data = (omega arith, refl)

is_short : IsOne WS_SHORT
unfolding IsOne row_of rows
is_short = (omega arith, refl)

is_malformed : IsOne WS_MALFORMED
unfolding IsOne row_of rows
is_malformed = (omega arith, refl)

is_app : (app : App) → IsOne (proto_of app)
unfolding IsOne
is_app app = (is_field app, is_protocol app)

-- the protocol of a header
abbrev head_proto : Next → ℕ
head_proto nexts.Ip4 = IP
head_proto nexts.Ip6 = IPV6
head_proto nexts.Arp = ARP
head_proto nexts.Vlan = VLAN
head_proto nexts.Icmp = ICMP
head_proto nexts.Icmp6 = ICMPV6
head_proto nexts.Udp = UDP
head_proto nexts.Tcp = TCP
head_proto nexts.HopOpts = IPV6_HOPOPTS
head_proto nexts.Routing = IPV6_ROUTING
head_proto nexts.DstOpts = IPV6_DSTOPTS
head_proto nexts.FragHdr = IPV6_FRAGHDR
head_proto (nexts.Neigh kind) = ND
head_proto nexts.Igmp = IGMP
head_proto nexts.Rest = DATA

is_header : (which : Next) → IsOne (head_proto which)
unfolding IsOne row_of rows
is_header nexts.Ip4 = (omega arith, refl)
is_header nexts.Ip6 = (omega arith, refl)
is_header nexts.Arp = (omega arith, refl)
is_header nexts.Vlan = (omega arith, refl)
is_header nexts.Icmp = (omega arith, refl)
is_header nexts.Icmp6 = (omega arith, refl)
is_header nexts.Udp = (omega arith, refl)
is_header nexts.Tcp = (omega arith, refl)
is_header nexts.HopOpts = (omega arith, refl)
is_header nexts.Routing = (omega arith, refl)
is_header nexts.DstOpts = (omega arith, refl)
is_header nexts.FragHdr = (omega arith, refl)
is_header (nexts.Neigh kind) = (omega arith, refl)
is_header nexts.Igmp = (omega arith, refl)
is_header nexts.Rest = (omega arith, refl)

-- ---- steps of building a tree

both_ones : (xs ys : List Layer) → AreOnes xs → AreOnes ys → AreOnes (xs ++ ys)
both_ones [] ys front back = back
both_ones (x ∷ xs) ys front back = (front.0, both_ones xs ys front.1 back)

has_if : (test : Bool) (t u : TreeShown) → Has t → Has u → Has (if test then t else u)
has_if true t u first second = first
has_if false t u first second = second

opened : (t : TreeShown) (proto : ℕ) (span : Span) (items : List Item) → IsOne proto → Has t → Has (with_layer t proto span items)
unfolding with_layer
opened t proto span items is has =
    both_ones t.layers ((record { proto = proto; nth = layers_of proto t.layers + 1; span = span; items = kept t.wanted items }) ∷ []) has (is, tt)

gets : (layers : List Layer) (at : ℕ) (item : Item) → AreOnes layers → AreOnes (layer_gets layers at item)
gets [] at item has = tt
gets (layer ∷ layers) zero item has = has
gets (layer ∷ layers) (suc at) item has = (has.0, gets layers at item has.1)

with_one : (t : TreeShown) (item : Item) → Has t → Has (with_last t item)
unfolding with_last with_item_at
with_one t item has = gets t.layers (length t.layers - 1) item has

item_has : (t : TreeShown) (item : Item) → Has t → Has (with_item t item)
unfolding with_item
item_has t item has = has_if _ (with_last t item) t (with_one t item has) has

buffer_has : (t : TreeShown) (bytes : List ℕ) → Has t → Has (with_buffer t bytes)
unfolding with_buffer
buffer_has t bytes has = has

abbrev IsFault : Option ℕ → Type 0
IsFault None = Unit {0}
IsFault (Some fault) = IsOne fault

fault_is : (mode : Mode) (torn : Bool) (r : Reach) → IsFault (fault_of mode torn r)
fault_is PlainMode torn reaches.All = tt
fault_is Embedded torn reaches.All = tt
fault_is PlainMode true reaches.Short = is_short
fault_is PlainMode false reaches.Short = is_malformed
fault_is Embedded torn reaches.Short = tt
fault_is PlainMode torn reaches.Failed = is_malformed
fault_is Embedded torn reaches.Failed = is_malformed

fault_has : (t : TreeShown) (span : Span) (fault : Option ℕ) → IsFault fault → Has t → Has (with_fault t span fault)
fault_has t span None is has = has
fault_has t span (Some fault) is has = opened t fault (end_of span) [] is has

layer_has : (t : TreeShown) (proto : ℕ) (span : Span) (steps : List Step) (mode : Mode) (cut : Bool) → IsOne proto → Has t → Has (layer_read t proto span steps mode cut)
unfolding layer_read
layer_has t proto span steps mode cut is has =
    fault_has (with_layer t proto span (items_read t.buffers span steps)) span (fault_of mode (cut && reaches_end t.buffers span) (reach span.len steps))
    (fault_is mode (cut && reaches_end t.buffers span) (reach span.len steps)) (opened t proto span (items_read t.buffers span steps) is has)

data_has : (t : TreeShown) (span : Span) → Has t → Has (data_over t span)
unfolding data_over
data_has t span has = has_if (span.len == 0) t _ has (layer_has t DATA span _ PlainMode false is_data has)

-- ---- fragments, and what headers carry

frames_has : (six : Bool) (frames : List ℕ) (t : TreeShown) → Has t → Has (frames_told t six frames)
frames_has six [] t has = has
frames_has six (frame ∷ frames) t has =
    frames_has six frames (number_told t (frame_field six) frame) (item_has t (made_of (frame_field six) (Uint frame)) has)

joined_has : (six : Bool) (datagram : Datagram) (t : TreeShown) → Has t → Has (joined_told t six datagram)
unfolding joined_told
joined_has six datagram t has =
    buffer_has (number_told (frames_told t six datagram.frames) (length_field six) (length datagram.bytes)) datagram.bytes
    (item_has (frames_told t six datagram.frames) (made_of (length_field six) (Uint (length datagram.bytes))) (frames_has six datagram.frames t has))

number_has : (t : TreeShown) (field number : ℕ) → Has t → Has (with_number t field number)
number_has t field number has = item_has t (made_of field (Uint number)) has

payload_has : (t : TreeShown) (field : ℕ) (span : Span) → Has t → Has (with_payload t field span)
payload_has t field span has = has_if (span.len == 0) t _ has (item_has t (read_of t.buffers field span) has)

ack_has : (t : TreeShown) (ack : Option ℕ) → Has t → Has (with_ack t ack)
ack_has t None has = has
ack_has t (Some ack) has = number_has t TCP_ACK ack has

place_has : (t : TreeShown) (taken : Taken) → Has t → Has (place_told t taken)
unfolding place_told
place_has t taken has =
    ack_has (with_number (with_number t TCP_STREAM taken.stream) TCP_SEQ taken.seq) taken.ack
    (number_has (with_number t TCP_STREAM taken.stream) TCP_SEQ taken.seq (number_has t TCP_STREAM taken.stream has))

segment_has : (t : TreeShown) (taken : Taken) (span : Span) → Has t → Has (segment_told t taken span)
unfolding segment_told
segment_has t taken span has =
    let carried : Has (carried_told (place_told t taken) span) =
    payload_has (with_number (place_told t taken) TCP_LEN span.len) TCP_PAYLOAD span (number_has (place_told t taken) TCP_LEN span.len (place_has t taken has)) in
    has_if (lost_bytes taken.lost == 0) (carried_told (place_told t taken) span) _ carried (number_has (carried_told (place_told t taken) span) TCP_LOST (lost_bytes taken.lost) carried)

-- ---- messages of streams

plain_has : (t : TreeShown) (span : Span) (steps : List Step) → Has t → Has (plain_read t span steps)
plain_has t span steps has = layer_has t HTTP span steps PlainMode false (is_app apps.Http) has

chunked_has : (t : TreeShown) (span : Span) (steps : List Step) (content : List ℕ) → Has t → Has (chunked_read t span steps content)
chunked_has t span steps content has =
    let read : Has (plain_read (with_buffer t content) span steps) = plain_has (with_buffer t content) span steps (buffer_has t content has) in
    has_if (is_all (reach span.len steps) && nat_lt 0 (length content)) _ (plain_read (with_buffer t content) span steps)
    (item_has (plain_read (with_buffer t content) span steps)
    (read_of (plain_read (with_buffer t content) span steps).buffers HTTP_FILE_DATA (record { buffer = length t.buffers; start = 0; len = length content })) read) read

body_has : (t : TreeShown) (span : Span) (steps : List Step) (bytes : List ℕ) (body : Body) → Has t → Has (body_read t span steps bytes body)
body_has t span steps bytes bodies.None has = plain_has t span steps has
body_has t span steps bytes (bodies.Plain len) has = plain_has t span steps has
body_has t span steps bytes (bodies.Chunked pieces) has = chunked_has t span steps (joined bytes pieces) has
body_has t span steps bytes bodies.NotShown has = plain_has t span steps has

http_has : (t : TreeShown) (span : Span) (shape : Shape) → Has t → Has (http_read t span shape)
unfolding http_read
http_has t span shape has = body_has t span (http_layout shape (bytes_of t.buffers span)) (bytes_of t.buffers span) shape.body has

segments_has : (t : TreeShown) (frames : List ℕ) → Has t → Has (with_segments t frames)
segments_has t [] has = has
segments_has t (frame ∷ frames) has = segments_has (with_number t TCP_SEGMENT frame) frames (number_has t TCP_SEGMENT frame has)

told_has : (app : App) (cut : Bool) (t : TreeShown) (span : Span) (told : Told) → Has t → Has (told_over app cut t span told)
told_has app cut t span (tellings.Sized end) has =
    has_if (tells_length (framer_of app)) _ t (layer_has t (proto_of app) span _ PlainMode cut (is_app app) has) has
told_has app cut t span (tellings.Http shape) has = http_has t span shape has

sourced_has : (app : App) (cut : Bool) (span : Span) (t : TreeShown) (told : Told) (source : Source) → Has t → Has (sourced_over app cut span t told source)
sourced_has app cut span t told (sources.Segment place) has = told_has app cut t (within span place (told_end told)) told has
sourced_has app cut span t told (sources.Gathered g) has = told_has app cut (with_buffer t g.bytes) (added_span t g.bytes) told (buffer_has t g.bytes has)

messages_has : (app : App) (cut : Bool) (span : Span) (t : TreeShown) (messages : List ShownMessage) → Has t → Has (messages_over app cut span t messages)
unfolding message_over
messages_has app cut span t [] has = has
messages_has app cut span t (m ∷ ms) has =
    messages_has app cut span (message_over app cut span t m) ms (sourced_has app cut span t m.message.told m.source has)

carried_has : (app : Option StreamApp) (cut : Bool) (span : Span) (t : TreeShown) (messages : List ShownMessage) → Has t → Has (carried_over app cut span t messages)
unfolding carried_over
carried_has None cut span t messages has = data_has t span has
carried_has (Some app) cut span t messages has =
    messages_has app.app cut span (with_segments t (gathered_from messages)) messages (segments_has t (gathered_from messages) has)

-- ---- the payload of a datagram

behind_has : (t : TreeShown) (after : After) → Has t → Has (data_behind t after)
behind_has t (afters.Next which span) has = data_has t span has
behind_has t (afters.Packet which span packet) has = has
behind_has t (afters.Fragment head span) has = has
behind_has t (afters.Datagram head span) has = has
behind_has t (afters.Segment head span) has = has
behind_has t afters.End has = has

message_has : (app : Option App) (t : TreeShown) (cut : Bool) (span : Span) → Has t → Has (payload_message app t cut span)
message_has (Some app) t cut span has =
    has_if (in_datagrams app) _ (data_over t span)
    (behind_has _ _ (layer_has t (proto_of app) span _ PlainMode cut (is_app app) has)) (data_has t span has)
message_has None t cut span has = data_has t span has

-- ---- the way through a frame's headers

joined_met_has : (joined : Joined) (t : TreeShown) (es : List Event) (head : FragmentHead) (span : Span) → Has t → Has (joined_met joined t es head span).tree
unfolding joined_met conflict_told
joined_met_has Pending t es head span has = data_has t span has
joined_met_has (Conflict kind) t es head span has = data_has _ span (item_has t _ has)
joined_met_has (Whole datagram) t es head span has = joined_has head.six datagram t has

fragment_has : (whole : Bool) (t : TreeShown) (es : List Event) (frame : ℕ) (head : FragmentHead) (span : Span) → Has t → Has (fragment_by whole t es frame head span).tree
fragment_has true t es frame head span has = joined_met_has _ t _ head span has
fragment_has false t es frame head span has = data_has t span has

datagram_has : (rules : List PortRule) (frame : Frame) (packet : PacketHead) (t : TreeShown) (es : List Event) (head : PortsHead) (span : Span) → Has t
    → Has (datagram_met rules frame packet t es head span).tree
unfolding datagram_met datagram_told payload_over
datagram_has rules frame packet t es head span has =
    let told = payload_has _ UDP_PAYLOAD span (item_has t (made_of UDP_STREAM _) has) in
    has_if (span.len == 0) _ _ told (message_has _ _ (is_cut frame) span told)

segment_met_has : (rules : List PortRule) (frame : Frame) (packet : PacketHead) (t : TreeShown) (es : List Event) (head : TcpHead) (span : Span) → Has t
    → Has (segment_met rules frame packet t es head span).tree
unfolding segment_met
segment_met_has rules frame packet t es head span has = carried_has _ (is_cut frame) span _ _ (segment_has t _ span has)

followed_has : (rules : List PortRule) (frame : Frame) (packet : PacketHead) (mode : Mode) (t : TreeShown) (es : List Event) (after : After) → Has t
    → Has (followed rules frame packet mode t es after).tree
unfolding followed fragment_met
followed_has rules frame packet mode t es (afters.Next which span) has = has
followed_has rules frame packet mode t es (afters.Packet which span inner) has = has
followed_has rules frame packet mode t es (afters.Fragment head span) has = fragment_has head.whole t es frame.number head span has
followed_has rules frame packet mode t es (afters.Datagram head span) has = datagram_has rules frame packet t es head span has
followed_has rules frame packet mode t es (afters.Segment head span) has = segment_met_has rules frame packet t es head span has
followed_has rules frame packet mode t es afters.End has = has

layer_met_has : (rules : List PortRule) (frame : Frame) (head : Head) (t : TreeShown) (es : List Event) (proto : ℕ) (span : Span) (steps : List Step) (after : After) → IsOne proto → Has t
    → Has (layer_met rules frame head t es proto span steps after).tree
layer_met_has rules frame head t es proto span steps after is has =
    followed_has rules frame head.packet head.mode (layer_read t proto span steps head.mode (is_cut frame)) es after (layer_has t proto span steps head.mode (is_cut frame) is has)

message_met_has : (rules : List PortRule) (frame : Frame) (head : Head) (t : TreeShown) (es : List Event) (proto : ℕ) (steps : List Step) (after : After) → IsOne proto → Has t
    → Has (message_met rules frame head t es proto steps after).tree
message_met_has rules frame head t es proto steps after is has =
    followed_has rules frame head.packet (mode_behind head.mode after) (layer_read t proto head.span steps head.mode (is_cut frame)) es after
    (layer_has t proto head.span steps head.mode (is_cut frame) is has)

head_has : (rules : List PortRule) (which : Next) (frame : Frame) (head : Head) (t : TreeShown) (es : List Event) → Has t → Has (head_by rules which frame head t es).tree
unfolding head_by
head_has rules nexts.Ip4 frame head t es has = layer_met_has rules frame head t es IP _ _ _ (is_header nexts.Ip4) has
head_has rules nexts.Ip6 frame head t es has = layer_met_has rules frame head t es IPV6 _ _ _ (is_header nexts.Ip6) has
head_has rules nexts.Arp frame head t es has = layer_met_has rules frame head t es ARP _ _ _ (is_header nexts.Arp) has
head_has rules nexts.Vlan frame head t es has = layer_met_has rules frame head t es VLAN _ _ _ (is_header nexts.Vlan) has
head_has rules nexts.Icmp frame head t es has = message_met_has rules frame head t es ICMP _ _ (is_header nexts.Icmp) has
head_has rules nexts.Icmp6 frame head t es has = message_met_has rules frame head t es ICMPV6 _ _ (is_header nexts.Icmp6) has
head_has rules nexts.Udp frame head t es has = layer_met_has rules frame head t es UDP _ _ _ (is_header nexts.Udp) has
head_has rules nexts.Tcp frame head t es has = layer_met_has rules frame head t es TCP _ _ _ (is_header nexts.Tcp) has
head_has rules nexts.HopOpts frame head t es has = layer_met_has rules frame head t es IPV6_HOPOPTS _ _ _ (is_header nexts.HopOpts) has
head_has rules nexts.Routing frame head t es has = layer_met_has rules frame head t es IPV6_ROUTING _ _ _ (is_header nexts.Routing) has
head_has rules nexts.DstOpts frame head t es has = layer_met_has rules frame head t es IPV6_DSTOPTS _ _ _ (is_header nexts.DstOpts) has
head_has rules nexts.FragHdr frame head t es has = layer_met_has rules frame head t es IPV6_FRAGHDR _ _ _ (is_header nexts.FragHdr) has
head_has rules (nexts.Neigh kind) frame head t es has = layer_met_has rules frame head t es ND _ _ _ (is_header (nexts.Neigh kind)) has
head_has rules nexts.Igmp frame head t es has = layer_met_has rules frame head t es IGMP _ _ _ (is_header nexts.Igmp) has
head_has rules nexts.Rest frame head t es has = data_has t head.span has

step_has : (rules : List PortRule) (frame : Frame) (t : TreeShown) (es : List Event) (todo : Todo) → Has t → Has (step_on rules frame t es todo).tree
step_has rules frame t es todos.Done has = has
step_has rules frame t es (todos.Head head) has = head_has rules head.which frame head t es has

rest_has : (t : TreeShown) (es : List Event) (todo : Todo) → Has t → Has (rest_on t es todo).tree
rest_has t es todos.Done has = has
rest_has t es (todos.Head head) has = data_has t head.span has

chain_has : (rules : List PortRule) (n : ℕ) (frame : Frame) (w : Walk) → Has w.tree → Has (chain rules n frame w).tree
unfolding chain
chain_has rules zero frame w has = rest_has w.tree w.events w.todo has
chain_has rules (suc n) frame w has = chain_has rules n frame (step rules frame w) (step_has rules frame w.tree w.events w.todo has)

link_has : (number : ℕ) (little : Bool) (t : TreeShown) (span : Span) (cut : Bool) → Has t → Has (link_read (link_of number) little t span cut)
unfolding link_read
link_has number little t span cut has = by_number (number == 0) (number == 1) (number == 101) (number == 113) (number == 276) refl refl refl refl refl
  where
    by_number : (null eth raw sll sll2 : Bool) → (number == 0) ≡ null → (number == 1) ≡ eth → (number == 101) ≡ raw → (number == 113) ≡ sll → (number == 276) ≡ sll2
        → Has (link_read (link_of number) little t span cut)
    by_number true eth raw sll sll2 is0 is1 is101 is113 is276 = rw is0 (layer_has t NULL span _ PlainMode cut is_null has)
    by_number false true raw sll sll2 is0 is1 is101 is113 is276 = rw (is0, is1) (layer_has t ETH _ _ PlainMode cut is_eth has)
    by_number false false true sll sll2 is0 is1 is101 is113 is276 = rw (is0, is1, is101) has
    by_number false false false true sll2 is0 is1 is101 is113 is276 = rw (is0, is1, is101, is113) (layer_has t SLL span _ PlainMode cut is_sll has)
    by_number false false false false true is0 is1 is101 is113 is276 = rw (is0, is1, is101, is113, is276) (layer_has t SLL2 span _ PlainMode cut is_sll2 has)
    by_number false false false false false is0 is1 is101 is113 is276 = rw (is0, is1, is101, is113, is276) has

walk_if : (test : Bool) (w v : Walk) → Has w.tree → Has v.tree → Has (if test then w else v).tree
walk_if true w v first second = first
walk_if false w v first second = second

link_met_has : (rules : List PortRule) (frame : Frame) (t : TreeShown) (es : List Event) → Has t → Has (link_met rules frame t es).tree
unfolding link_met
link_met_has rules frame t es has =
    walk_if (length frame.bytes == 0) (stop t es) _ has
    (followed_has rules frame no_packet PlainMode _ es _ (link_has frame.link frame.little t (frame_span frame) (is_cut frame) has))

frame_has : (before : Times) (frame : Frame) → Has (frame_tree before frame)
unfolding kept_frame
frame_has before frame =
    layer_has (record { layers = []; buffers = frame.bytes ∷ []; wanted = every_field }) FRAME (frame_span frame) _ PlainMode (is_cut frame) is_frame tt

walk_has : (rules : List PortRule) (before : Times) (es : List Event) (frame : Frame) → Has (walk_of rules before es frame).tree
unfolding walk_of all_met
walk_has rules before es frame =
    chain_has rules _ frame _ (link_met_has rules frame (frame_tree before frame) (NewFrame ∷ es) (frame_has before frame))

-- ---- links

link_is : (wanted : List ℕ) (links : List (Option ℕ)) (layer : Layer) → IsOne layer.proto → IsOne (layer_linked wanted links layer).proto
link_is wanted links layer is = elim (layer_link wanted links layer) as (λ o. IsOne (with_link layer o).proto) [
  | None ↦ is
  | Some link ↦ is
]

links_has : (wanted : List ℕ) (links : List (Option ℕ)) (layers : List Layer) → AreOnes layers → AreOnes (map (layer_linked wanted links) layers)
links_has wanted links [] has = tt
links_has wanted links (layer ∷ layers) has = (link_is wanted links layer has.0, links_has wanted links layers has.1)

linked_has : (wanted : List ℕ) (links : List (Option ℕ)) (t : TreeShown) → Has t → Has (linked wanted links t)
unfolding linked
linked_has wanted links t has = links_has wanted links t.layers has

pub tree_has : (rules : List PortRule) (past : List Frame) (frame : Frame) → AreOnes (tree_at rules past frame).layers
unfolding tree_at bare_tree
tree_has rules past frame =
    linked_has every_field (newest_links rules (events_of (frame ∷ past))) (bare_tree rules past frame) (walk_has rules (times_of past) (events_of past) frame)
