-- The way through a frame's headers: what its tree shows behind the last layer of TCP are the messages of the segment that it brought.
use Rattle.std.proofs.Common.{◌≡◌, ◌==◌, ℕ, zero, suc, Bool, true, false, if◌then◌else◌, List, [], ◌∷◌, length, Option, Some, None, option_map, refl, sym, ap, ◌∙◌, subst, inl, inr}
use Rattle.std.specs.Prelude.{◌⊎◌}
use Rattle.pk_base.specs.declared.span.Span.{Span}
use Rattle.pk_base.specs.declared.heads.After.{After}
use Rattle.pk_base.specs.declared.heads.After.TheVariants as afters
use Rattle.pk_base.specs.declared.heads.FragmentHead.{FragmentHead}
use Rattle.pk_base.specs.declared.heads.Mode.{Mode}
use Rattle.pk_base.specs.declared.heads.Mode.TheVariants.{Plain as PlainMode}
use Rattle.pk_base.specs.declared.heads.Next.{Next}
use Rattle.pk_base.specs.declared.heads.Next.TheVariants as nexts
use Rattle.pk_base.specs.declared.heads.PacketHead.{PacketHead}
use Rattle.pk_base.specs.declared.heads.TcpHead.{TcpHead}
use Rattle.pk_base.specs.declared.value.Value.TheVariants.{Uint}
use Rattle.pk_fields.specs.Applications.{udp_app}
use Rattle.pk_fields.specs.FieldSets.{every_field}
use Rattle.pk_fields.specs.Ids.{TCP_STREAM, ARP, DATA, ETH, FRAME, ICMP, ICMPV6, IGMP, IP, IPV6, ND, NULL, SLL, SLL2, UDP, UDP_PAYLOAD, UDP_STREAM, VLAN}
use Rattle.pk_fields.specs.declared.apps.App.{App}
use Rattle.pk_fields.specs.declared.rules.PortRule.{PortRule}
use Rattle.pk_tree.specs.Buffers.{bytes_of}
use Rattle.pk_tree.specs.Layouts.{layer_read}
use Rattle.pk_tree.specs.Trees.{TreeShown, kept_tree, made_of}
use Rattle.pk_tree.specs.declared.layout.Step.{Step}
use Rattle.capture_read.specs.declared.frame.Frame.{Frame}
use Rattle.dis_icmp.specs.Icmp.{icmp_after}
use Rattle.dis_icmp.specs.Icmp6.{icmp6_after}
use Rattle.dis_ip.specs.Extensions.{extension_proto}
use Rattle.dis_link.specs.Link.{link_of, link_read}
use Rattle.ip_join.specs.Stands.{joined_by}
use Rattle.ip_join.specs.declared.joined.Datagram.{Datagram}
use Rattle.ip_join.specs.declared.joined.Joined.{Joined}
use Rattle.ip_join.specs.declared.joined.Joined.TheVariants.{Pending, Whole, Conflict}
use Rattle.app_layers.specs.declared.streamed.StreamApp.{StreamApp}
use Rattle.tcp_streams.specs.Labels.{label_of, labels, taken_after, told}
use Rattle.tcp_streams.specs.declared.segment.Segment.{Segment}
use Rattle.tcp_messages.specs.Shown.{shown_after}
use Rattle.app_layers.specs.Applications.{data_behind, message_over, payload_over}
use Rattle.app_layers.specs.DataLayer.{data_over}
use Rattle.app_layers.specs.Fragments.{conflict_told, error_field, frame_field, frames_told, joined_told, length_field, number_told}
use Rattle.app_layers.specs.FrameLayer.{frame_span, frame_tree, is_cut, kept_frame}
use Rattle.app_layers.specs.MessageLayers.{app_of_segment, carried_over, framing}
use Rattle.app_layers.proofs.StreamApps.{IsFramed, is_framed}
use Rattle.app_layers.specs.Payloads.{datagram_told, segment_told, with_number}
use Rattle.app_layers.specs.Rows.{in_datagrams, proto_of, rest_of}
use Rattle.app_layers.proofs.RowLemmas.{not_tcp}
use Rattle.app_layers.specs.declared.times.Times.{Times}
use Rattle.dissect.specs.Conversations.{udp_stream}
use Rattle.dissect.specs.Events.{Event, NewFrame, Piece, Udp}
use Rattle.dissect.specs.Fragments.{fragment_from, fragments_of}
use Rattle.dissect.specs.MessageLaws.{FramesShow, FramesTell, TellsLabel, TellsStream, frame_segment, messages_shown, newest_segment, segment_messages, segments_before, tree_messages}
use Rattle.dissect.specs.Segments.{segment_from, segments_of}
use Rattle.dissect.specs.Trees.{bare_tree, events_of, times_of, tree_at, walk_of}
use Rattle.dissect.specs.Walks.{Walk, all_met, chain, datagram_met, followed, fragment_by, fragment_met, going, head_by, head_bytes, joined_met, layers_left, link_met, mode_behind, no_packet, rest_met, rest_on, segment_met, step, step_on, stop}
use Rattle.dissect.specs.declared.todo.Head.{Head}
use Rattle.dissect.specs.declared.todo.Todo.{Todo}
use Rattle.dissect.specs.declared.todo.Todo.TheVariants as todos
use Rattle.dissect.proofs.MessagesTold.{carried_shows, data_carried, data_shows, payload_bare}
use Rattle.app_layers.proofs.KeptHeads.{frame_kept}
use Rattle.dissect.proofs.Kept.{link_same, step_same}
use Rattle.dissect.proofs.StreamsTold.{GrowsOn, TakesStream, data_on, linked_on, segment_tells, tcp_takes}
use Rattle.dissect.proofs.MessagesFit.{all_fit}
use Rattle.dissect.proofs.Tellings.{shown_are}
use Rattle.dissect.proofs.RuleEvents.{rules_change_no_events}
use Rattle.dissect.proofs.SegmentHeads.{HasNoSegment, IsSegmentOrRest, extension_none, icmp6_none, icmp_none, igmp_none, ip4_none, ip6_none, link_none, tcp_rest, udp_none, vlan_none}
use Rattle.dissect.proofs.TreeMessages.{HasNone, IsOther, Shows, item_bare, linked_bare, none_buffer, none_read, none_same, none_shown, shows_all, shows_as, tcp_read, tree_same}

-- ---- layers before any of TCP

none_if : (b : Bool) (t u : TreeShown) → HasNone t → HasNone u → HasNone (if b then t else u)
none_if true t u one other = one
none_if false t u one other = other

data_none : (t : TreeShown) (span : Span) → HasNone t → HasNone (data_over t span)
unfolding data_over
data_none t span none = none_if (span.len == 0) t _ none (none_read t DATA span _ _ _ refl none)

number_none : (t : TreeShown) (field number : ℕ) → HasNone t → HasNone (number_told t field number)
number_none t field number none = none_same t _ (item_bare t (made_of field (Uint number))) none

frames_none : (six : Bool) (frames : List ℕ) (t : TreeShown) → HasNone t → HasNone (frames_told t six frames)
frames_none six [] t none = none
frames_none six (frame ∷ frames) t none = frames_none six frames (number_told t (frame_field six) frame) (number_none t (frame_field six) frame none)

joined_none : (t : TreeShown) (six : Bool) (datagram : Datagram) → HasNone t → HasNone (joined_told t six datagram)
unfolding joined_told
joined_none t six datagram none =
    let u : TreeShown = frames_told t six datagram.frames in
    none_buffer (number_told u (length_field six) (length datagram.bytes)) datagram.bytes
    (number_none u (length_field six) (length datagram.bytes) (frames_none six datagram.frames t none))

behind_none : (t : TreeShown) (after : After) → HasNone t → HasNone (data_behind t after)
behind_none t (afters.Next which span) none = data_none t span none
behind_none t (afters.Packet which span packet) none = none
behind_none t (afters.Fragment head span) none = none
behind_none t (afters.Datagram head span) none = none
behind_none t (afters.Segment head span) none = none
behind_none t afters.End none = none

message_none : (app : Option App) (t : TreeShown) (cut : Bool) (span : Span) → HasNone t → HasNone (message_over app t cut span)
message_none (Some app) t cut span none =
    none_if (in_datagrams app) _ (data_over t span)
    (behind_none _ (rest_of app span (bytes_of t.buffers span)) (none_read t (proto_of app) span _ PlainMode cut (not_tcp app) none)) (data_none t span none)
message_none None t cut span none = data_none t span none

datagram_none : (app : Option App) (t : TreeShown) (stream : ℕ) (cut : Bool) (span : Span) → HasNone t → HasNone (payload_over app (datagram_told t stream span) cut span)
unfolding payload_over datagram_told
datagram_none app t stream cut span none =
    let one : TreeShown = number_told t UDP_STREAM stream in
    let two : TreeShown = datagram_told t stream span in
    let told : HasNone two = none_same one two (payload_bare one UDP_PAYLOAD span) (number_none t UDP_STREAM stream none) in
    none_if (span.len == 0) two _ told (message_none app two cut span told)

both : {A : Type 0} (P : A → Type 0) (b : Bool) (x y : A) → P x → P y → P (if b then x else y)
both P true x y one other = one
both P false x y one other = other

link_layer_none : (link : ℕ) (little : Bool) (t : TreeShown) (span : Span) (cut : Bool) → HasNone t → HasNone (link_read (link_of link) little t span cut)
unfolding link_read
link_layer_none link little t span cut none =
    both (λ l. HasNone (link_read l little t span cut)) (link == 0) _ _ (none_read t NULL span _ PlainMode cut refl none)
    (both (λ l. HasNone (link_read l little t span cut)) (link == 1) _ _ (none_read t ETH _ _ PlainMode cut refl none)
    (both (λ l. HasNone (link_read l little t span cut)) (link == 101) _ _ none
    (both (λ l. HasNone (link_read l little t span cut)) (link == 113) _ _ (none_read t SLL span _ PlainMode cut refl none)
    (both (λ l. HasNone (link_read l little t span cut)) (link == 276) _ _ (none_read t SLL2 span _ PlainMode cut refl none) none))))

frame_none : (before : Times) (frame : Frame) → HasNone (frame_tree before frame)
unfolding kept_frame
frame_none before frame = none_read _ FRAME (frame_span frame) _ PlainMode (is_cut frame) refl refl

-- ---- ways

-- no header of TCP was met yet
pub record IsGoing (past : List Segment) (w : Walk) : Type 0 where
  pub none : HasNone w.tree
  pub segments : segments_of w.events ≡ past
  pub newest : newest_segment w.events ≡ None

-- nothing but the rest is still to be read
abbrev pub IsLast : Todo → Type 0
IsLast todos.Done = Unit {0}
IsLast (todos.Head head) = head.which ≡ nexts.Rest

abbrev pub with_newest : Option Segment → List Segment → List Segment
with_newest None past = past
with_newest (Some s) past = s ∷ past

-- the tree tells the stream of the segment that was met
abbrev pub TellsNewest : List Segment → Option Segment → TreeShown → Type 0
TellsNewest past None t = Unit {0}
TellsNewest past (Some s) t = TellsStream (label_of s (labels past)).stream t.layers

newest_on : (past : List Segment) (newest : Option Segment) (t u : TreeShown) → GrowsOn t u → TellsNewest past newest t → TellsNewest past newest u
newest_on past None t u on tells = tt
newest_on past (Some s) t u on tells = on (label_of s (labels past)).stream tells

none_tells : (past : List Segment) (newest : Option Segment) (t : TreeShown) → newest ≡ None → TellsNewest past newest t
none_tells past newest t is = subst (λ (o : Option Segment). TellsNewest past o t) (sym is) tt

-- a header of TCP was met
pub record IsTold (rules : List PortRule) (past : List Segment) (w : Walk) : Type 0 where
  pub last : IsLast w.todo
  pub segments : segments_of w.events ≡ with_newest (newest_segment w.events) past
  pub shows : Shows w.tree (segment_messages rules past (newest_segment w.events))
  pub stream : TellsNewest past (newest_segment w.events) w.tree

abbrev pub IsOnWay : List PortRule → List Segment → Walk → Type 0
IsOnWay rules past w = IsGoing past w ⊎ IsTold rules past w

-- the end of a way
pub record IsEnd (rules : List PortRule) (past : List Segment) (w : Walk) : Type 0 where
  pub segments : segments_of w.events ≡ with_newest (newest_segment w.events) past
  pub messages : tree_messages w.tree ≡ segment_messages rules past (newest_segment w.events)
  pub stream : TellsNewest past (newest_segment w.events) w.tree

going_as : (past : List Segment) (t : TreeShown) (es : List Event) (todo : Todo) → HasNone t → segments_of es ≡ past → newest_segment es ≡ None → IsGoing past (going t es todo)
going_as past t es todo none segments newest = record { none = none; segments = segments; newest = newest }

-- ---- what follows a header of another protocol

joined_going : (past : List Segment) (joined : Joined) (t : TreeShown) (es : List Event) (head : FragmentHead) (span : Span) → HasNone t → segments_of es ≡ past → newest_segment es ≡ None
    → IsGoing past (joined_met joined t es head span)
unfolding joined_met conflict_told
joined_going past Pending t es head span none segments newest = going_as past _ es todos.Done (data_none t span none) segments newest
joined_going past (Conflict kind) t es head span none segments newest =
    going_as past _ es todos.Done (data_none _ span (number_none t (error_field head.six) _ none)) segments newest
joined_going past (Whole datagram) t es head span none segments newest = going_as past _ es _ (joined_none t head.six datagram none) segments newest

fragment_going : (past : List Segment) (whole : Bool) (t : TreeShown) (es : List Event) (frame : ℕ) (head : FragmentHead) (span : Span) → HasNone t → segments_of es ≡ past → newest_segment es ≡ None
    → IsGoing past (fragment_by whole t es frame head span)
unfolding segments_of
fragment_going past true t es frame head span none segments newest =
    joined_going past (joined_by (fragments_of es) (fragment_from frame head (bytes_of t.buffers span))) t (Piece frame head (bytes_of t.buffers span) ∷ es) head span none segments refl
fragment_going past false t es frame head span none segments newest = going_as past _ es todos.Done (data_none t span none) segments newest

followed_going : (rules : List PortRule) (past : List Segment) (frame : Frame) (packet : PacketHead) (mode : Mode) (t : TreeShown) (es : List Event) (after : After) → HasNoSegment after
    → HasNone t → segments_of es ≡ past → newest_segment es ≡ None → IsGoing past (followed rules frame packet mode t es after)
unfolding followed fragment_met datagram_met segments_of
followed_going rules past frame packet mode t es (afters.Next which span) other none segments newest = going_as past t es _ none segments newest
followed_going rules past frame packet mode t es (afters.Packet which span inner) other none segments newest = going_as past t es _ none segments newest
followed_going rules past frame packet mode t es (afters.Fragment head span) other none segments newest =
    fragment_going past head.whole t es frame.number head span none segments newest
followed_going rules past frame packet mode t es (afters.Datagram head span) other none segments newest =
    going_as past _ (Udp frame.number packet head (bytes_of t.buffers span) ∷ es) todos.Done
    (datagram_none (udp_app rules head.source head.target) t (udp_stream es packet head) (is_cut frame) span none) segments refl
followed_going rules past frame packet mode t es (afters.Segment head span) other none segments newest = absurd other
followed_going rules past frame packet mode t es afters.End other none segments newest = going_as past t es todos.Done none segments newest

-- ---- what follows a header of TCP

carried_all : (cut : Bool) (t : TreeShown) (past : List Segment) (s : Segment) (span : Span) (app : Option StreamApp) → IsFramed app → bytes_of t.buffers span ≡ s.payload → Shows t []
    → Shows (carried_over app cut span (segment_told t (taken_after past s) span) (shown_after (framing app) past s)) (messages_shown app s.payload (shown_after (framing app) past s))
carried_all cut t past s span None framed is shows = data_carried cut span t (taken_after past s) (shown_after None past s) shows
carried_all cut t past s span (Some app) framed is shows =
    carried_shows app cut span t s.payload (taken_after past s) (shown_after (Some app.framer) past s) (shown_are app past s framed) is (all_fit (Some app.framer) past s) shows

taken_stream : (past : List Segment) (s : Segment) → (taken_after past s).stream ≡ (label_of s (labels past)).stream
unfolding told
taken_stream past s = refl

segment_told_all : (rules : List PortRule) (past : List Segment) (frame : Frame) (packet : PacketHead) (t : TreeShown) (es : List Event) (head : TcpHead) (span : Span)
    → ((n : ℕ) → TellsStream n (with_number t TCP_STREAM n).layers) → Shows t [] → segments_of es ≡ past → IsTold rules past (segment_met rules frame packet t es head span)
unfolding segment_met segments_of
segment_told_all rules past frame packet t es head span takes shows segments =
    let s : Segment = segment_from frame.number packet head (bytes_of t.buffers span) in
    let app : Option StreamApp = app_of_segment rules s in
    let whole : TreeShown = carried_over app (is_cut frame) span (segment_told t (taken_after (segments_of es) s) span) (shown_after (framing app) (segments_of es) s) in
    subst (λ (xs : List Segment). IsTold rules xs (segment_met rules frame packet t es head span)) segments
    (record {
      last = tt;
      segments = refl;
      shows = carried_all (is_cut frame) t (segments_of es) s span app (is_framed rules s.from.port s.to.port) refl shows;
      stream =
          subst (λ (n : ℕ). TellsStream n whole.layers) (taken_stream (segments_of es) s)
          (segment_tells app (is_cut frame) span t (taken_after (segments_of es) s) (shown_after (framing app) (segments_of es) s) takes);
    })

told_as : (rules : List PortRule) (past : List Segment) (t : TreeShown) (es : List Event) (todo : Todo) → IsLast todo → Shows t [] → segments_of es ≡ past → newest_segment es ≡ None
    → IsTold rules past (going t es todo)
told_as rules past t es todo last shows segments newest = record {
  last = last;
  segments = segments ∙ ap (λ (o : Option Segment). with_newest o past) (sym newest);
  shows = shows_as t [] _ (ap (segment_messages rules past) (sym newest)) shows;
  stream = none_tells past (newest_segment es) t newest;
}

followed_told : (rules : List PortRule) (past : List Segment) (frame : Frame) (packet : PacketHead) (mode : Mode) (t : TreeShown) (es : List Event) (after : After) → IsSegmentOrRest after → TakesStream after t
    → Shows t [] → segments_of es ≡ past → newest_segment es ≡ None → IsTold rules past (followed rules frame packet mode t es after)
unfolding followed
followed_told rules past frame packet mode t es (afters.Next which span) rest takes shows segments newest = told_as rules past t es _ rest shows segments newest
followed_told rules past frame packet mode t es (afters.Packet which span inner) rest takes shows segments newest = absurd rest
followed_told rules past frame packet mode t es (afters.Fragment head span) rest takes shows segments newest = absurd rest
followed_told rules past frame packet mode t es (afters.Datagram head span) rest takes shows segments newest = absurd rest
followed_told rules past frame packet mode t es (afters.Segment head span) rest takes shows segments newest = segment_told_all rules past frame packet t es head span takes shows segments
followed_told rules past frame packet mode t es afters.End rest takes shows segments newest = told_as rules past t es todos.Done tt shows segments newest

-- ---- a header

layer_going : (rules : List PortRule) (past : List Segment) (frame : Frame) (head : Head) (t : TreeShown) (es : List Event) (proto : ℕ) (span : Span) (steps : List Step) (mode : Mode) (after : After) → IsOther proto → HasNoSegment after
    → HasNone t → segments_of es ≡ past → newest_segment es ≡ None → IsOnWay rules past (followed rules frame head.packet mode (layer_read t proto span steps head.mode (is_cut frame)) es after)
layer_going rules past frame head t es proto span steps mode after other lacks none segments newest =
    inl (followed_going rules past frame head.packet mode _ es after lacks (none_read t proto span steps head.mode (is_cut frame) other none) segments newest)

head_on : (rules : List PortRule) (past : List Segment) (which : Next) (frame : Frame) (head : Head) (t : TreeShown) (es : List Event) → t.wanted ≡ every_field → HasNone t → segments_of es ≡ past → newest_segment es ≡ None
    → IsOnWay rules past (head_by rules which frame head t es)
unfolding head_by
head_on rules past nexts.Ip4 frame head t es all = layer_going rules past frame head t es IP _ _ head.mode _ refl (ip4_none head.mode (is_cut frame) head.span (head_bytes head t))
head_on rules past nexts.Ip6 frame head t es all = layer_going rules past frame head t es IPV6 _ _ head.mode _ refl (ip6_none (is_cut frame) head.span (head_bytes head t))
head_on rules past nexts.Arp frame head t es all = layer_going rules past frame head t es ARP _ _ head.mode afters.End refl tt
head_on rules past nexts.Vlan frame head t es all = layer_going rules past frame head t es VLAN _ _ head.mode _ refl (vlan_none head.span (head_bytes head t))
head_on rules past nexts.Icmp frame head t es all =
    layer_going rules past frame head t es ICMP _ _ (mode_behind head.mode (icmp_after head.span (head_bytes head t))) _ refl (icmp_none head.span (head_bytes head t))
head_on rules past nexts.Icmp6 frame head t es all =
    layer_going rules past frame head t es ICMPV6 _ _ (mode_behind head.mode (icmp6_after head.span (head_bytes head t))) _ refl (icmp6_none head.span (head_bytes head t))
head_on rules past nexts.Udp frame head t es all = layer_going rules past frame head t es UDP _ _ head.mode _ refl (udp_none head.mode head.span (head_bytes head t))
head_on rules past nexts.Tcp frame head t es all = λ none segments newest.
    inr (followed_told rules past frame head.packet head.mode _ es _ (tcp_rest head.mode head.span (head_bytes head t)) (tcp_takes t head.span (head_bytes head t) head.mode (is_cut frame) all) (tcp_read t head.span _ head.mode (is_cut frame)) segments newest)
head_on rules past nexts.HopOpts frame head t es all =
    layer_going rules past frame head t es (extension_proto nexts.HopOpts) _ _ head.mode _ refl (extension_none nexts.HopOpts head.packet head.mode head.span (head_bytes head t))
head_on rules past nexts.Routing frame head t es all =
    layer_going rules past frame head t es (extension_proto nexts.Routing) _ _ head.mode _ refl (extension_none nexts.Routing head.packet head.mode head.span (head_bytes head t))
head_on rules past nexts.DstOpts frame head t es all =
    layer_going rules past frame head t es (extension_proto nexts.DstOpts) _ _ head.mode _ refl (extension_none nexts.DstOpts head.packet head.mode head.span (head_bytes head t))
head_on rules past nexts.FragHdr frame head t es all =
    layer_going rules past frame head t es (extension_proto nexts.FragHdr) _ _ head.mode _ refl (extension_none nexts.FragHdr head.packet head.mode head.span (head_bytes head t))
head_on rules past (nexts.Neigh kind) frame head t es all = layer_going rules past frame head t es ND _ _ head.mode afters.End refl tt
head_on rules past nexts.Igmp frame head t es all = layer_going rules past frame head t es IGMP _ _ head.mode _ refl (igmp_none head.span)
head_on rules past nexts.Rest frame head t es all = λ none segments newest.
    inl (going_as past _ es todos.Done (data_none t head.span none) segments newest)

-- the rest behind a header of TCP
rest_told : (rules : List PortRule) (past : List Segment) (t : TreeShown) (es : List Event) (todo : Todo) (span : Span) → IsTold rules past (going t es todo) → IsTold rules past (rest_met t es span)
rest_told rules past t es todo span told = record { last = tt; segments = told.segments; shows = data_shows t _ span told.shows; stream = newest_on past (newest_segment es) t (data_over t span) (data_on t span) told.stream }

step_going : (rules : List PortRule) (past : List Segment) (frame : Frame) (t : TreeShown) (es : List Event) (todo : Todo) → t.wanted ≡ every_field → IsGoing past (going t es todo) → IsOnWay rules past (step_on rules frame t es todo)
step_going rules past frame t es todos.Done all way = inl way
step_going rules past frame t es (todos.Head head) all way = head_on rules past head.which frame head t es all way.none way.segments way.newest

step_told : (rules : List PortRule) (past : List Segment) (frame : Frame) (t : TreeShown) (es : List Event) (todo : Todo) → IsTold rules past (going t es todo) → IsOnWay rules past (step_on rules frame t es todo)
unfolding head_by
step_told rules past frame t es todos.Done told = inr told
step_told rules past frame t es (todos.Head head) told =
    subst (λ (which : Next). IsOnWay rules past (head_by rules which frame head t es)) (sym told.last) (inr (rest_told rules past t es (todos.Head head) head.span told))

step_way : (rules : List PortRule) (past : List Segment) (frame : Frame) (w : Walk) → w.tree.wanted ≡ every_field → IsOnWay rules past w → IsOnWay rules past (step rules frame w)
step_way rules past frame w all (inl way) = step_going rules past frame w.tree w.events w.todo all way
step_way rules past frame w all (inr told) = step_told rules past frame w.tree w.events w.todo told

-- ---- the end

going_end : (rules : List PortRule) (past : List Segment) (t : TreeShown) (es : List Event) (todo : Todo) → IsGoing past (going t es todo) → IsEnd rules past (rest_on t es todo)
going_end rules past t es todos.Done way = record {
  segments = way.segments ∙ ap (λ (o : Option Segment). with_newest o past) (sym way.newest);
  messages = none_shown t way.none ∙ ap (segment_messages rules past) (sym way.newest);
  stream = none_tells past (newest_segment es) _ way.newest;
}
going_end rules past t es (todos.Head head) way = record {
  segments = way.segments ∙ ap (λ (o : Option Segment). with_newest o past) (sym way.newest);
  messages = none_shown (data_over t head.span) (data_none t head.span way.none) ∙ ap (segment_messages rules past) (sym way.newest);
  stream = none_tells past (newest_segment es) _ way.newest;
}

told_end : (rules : List PortRule) (past : List Segment) (t : TreeShown) (es : List Event) (todo : Todo) → IsTold rules past (going t es todo) → IsEnd rules past (rest_on t es todo)
told_end rules past t es todos.Done told = record { segments = told.segments; messages = shows_all t _ told.shows; stream = told.stream }
told_end rules past t es (todos.Head head) told = record { segments = told.segments; messages = shows_all (data_over t head.span) _ (data_shows t _ head.span told.shows); stream = newest_on past (newest_segment es) t (data_over t head.span) (data_on t head.span) told.stream }

way_end : (rules : List PortRule) (past : List Segment) (w : Walk) → IsOnWay rules past w → IsEnd rules past (rest_on w.tree w.events w.todo)
way_end rules past w (inl way) = going_end rules past w.tree w.events w.todo way
way_end rules past w (inr told) = told_end rules past w.tree w.events w.todo told

-- all items are wanted all the way
still_all : (rules : List PortRule) (frame : Frame) (w : Walk) → w.tree.wanted ≡ every_field → (step rules frame w).tree.wanted ≡ every_field
still_all rules frame w all = (step_same rules every_field frame w.events w.todo w.tree (kept_tree every_field w.tree) (record { same = refl; all = all })).tree.all

chain_end : (rules : List PortRule) (past : List Segment) (n : ℕ) (frame : Frame) (w : Walk) → w.tree.wanted ≡ every_field → IsOnWay rules past w → IsEnd rules past (chain rules n frame w)
unfolding chain
chain_end rules past zero frame w all way = way_end rules past w way
chain_end rules past (suc n) frame w all way = chain_end rules past n frame (step rules frame w) (still_all rules frame w all) (step_way rules past frame w all way)

if_way : (rules : List PortRule) (past : List Segment) (b : Bool) (v w : Walk) → IsOnWay rules past v → IsOnWay rules past w → IsOnWay rules past (if b then v else w)
if_way rules past true v w one other = one
if_way rules past false v w one other = other

link_way : (rules : List PortRule) (es : List Event) (frame : Frame) (t : TreeShown) → HasNone t → IsOnWay rules (segments_of es) (link_met rules frame t (NewFrame ∷ es))
unfolding link_met segments_of
link_way rules es frame t none =
    if_way rules (segments_of es) (length frame.bytes == 0) (stop t (NewFrame ∷ es)) _ (inl (going_as (segments_of es) t (NewFrame ∷ es) todos.Done none refl refl))
    (inl (followed_going rules (segments_of es) frame no_packet PlainMode _ (NewFrame ∷ es) _ (link_none frame.link frame.little (frame_span frame) (bytes_of t.buffers (frame_span frame)))
    (link_layer_none frame.link frame.little t (frame_span frame) (is_cut frame) none) refl refl))

pub walk_end : (rules : List PortRule) (before : Times) (es : List Event) (frame : Frame) → IsEnd rules (segments_of es) (walk_of rules before es frame)
unfolding walk_of all_met
walk_end rules before es frame =
    let w : Walk = link_met rules frame (frame_tree before frame) (NewFrame ∷ es) in
    let first : TreeShown = frame_tree before frame in
    let all : w.tree.wanted ≡ every_field =
    (link_same rules every_field frame (NewFrame ∷ es) first (kept_tree every_field first) (record { same = refl; all = (frame_kept every_field before frame).all })).tree.all in
    chain_end rules (segments_of es) (layers_left w.tree) frame w all (link_way rules es frame (frame_tree before frame) (frame_none before frame))

-- ---- a frame

pub frames_show : FramesShow
unfolding tree_at bare_tree events_of
frames_show rules past frame =
    let w : Walk = walk_of rules (times_of past) (events_of past) frame in
    tree_same w.tree _ (linked_bare every_field _ w.tree)
    ∙ (walk_end rules (times_of past) (events_of past) frame).messages
    ∙ ap (λ (es : List Event). segment_messages rules (segments_of (events_of past)) (newest_segment es)) (rules_change_no_events rules (times_of past) (events_of past) frame)

-- its segment is one more
pub frames_bring : (past : List Frame) (frame : Frame) → segments_before (frame ∷ past) ≡ with_newest (frame_segment past frame) (segments_before past)
unfolding events_of
frames_bring past frame = (walk_end [] (times_of past) (events_of past) frame).segments

label_tells : (past : List Segment) (newest : Option Segment) (t : TreeShown) → TellsNewest past newest t → TellsLabel (option_map (λ (s : Segment). label_of s (labels past)) newest) t
label_tells past None t tells = tt
label_tells past (Some s) t tells = tells

pub frames_tell : FramesTell
unfolding tree_at bare_tree events_of
frames_tell rules past frame =
    let w : Walk = walk_of rules (times_of past) (events_of past) frame in
    let ended : TellsNewest (segments_before past) (newest_segment w.events) w.tree = (walk_end rules (times_of past) (events_of past) frame).stream in
    label_tells (segments_before past) (frame_segment past frame) _
    (newest_on (segments_before past) (frame_segment past frame) w.tree _ (linked_on every_field _ w.tree)
    (subst (λ (es : List Event). TellsNewest (segments_before past) (newest_segment es) w.tree) (rules_change_no_events rules (times_of past) (events_of past) frame) ended))
