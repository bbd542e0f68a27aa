-- The way through a frame's headers, one behind the other.
use Rattle.std.specs.Prelude.{◌==◌, ℕ, zero, suc, ◌-◌, ◌<◌, Bool, true, false, List, ◌∷◌, length, if◌then◌else◌, Option}
use Rattle.pk_base.specs.declared.span.Span.{Span}
use Rattle.pk_tree.specs.Buffers.{IsInside, bytes_of}
use Rattle.pk_fields.specs.Ids.{ARP, VLAN, IP, IPV6, UDP, TCP, ICMP, ICMPV6, IGMP, ND}
use Rattle.pk_base.specs.declared.heads.Address.TheVariants.{Four}
use Rattle.pk_base.specs.declared.heads.After.{After}
use Rattle.pk_base.specs.declared.heads.After.TheVariants as afters
use Rattle.pk_base.specs.declared.heads.FragmentHead.{FragmentHead}
use Rattle.pk_base.specs.declared.heads.Mode.{Mode}
use Rattle.pk_base.specs.declared.heads.Mode.TheVariants.{Plain, Embedded}
use Rattle.pk_base.specs.declared.heads.Next.{Next}
use Rattle.pk_base.specs.declared.heads.Next.TheVariants as nexts
use Rattle.pk_base.specs.declared.heads.PacketHead.{PacketHead}
use Rattle.pk_base.specs.declared.heads.PortsHead.{PortsHead}
use Rattle.pk_base.specs.declared.heads.TcpHead.{TcpHead}
use Rattle.pk_tree.specs.declared.layout.Step.{Step}
use Rattle.pk_tree.specs.Layouts.{layer_read}
use Rattle.pk_tree.specs.Trees.{TreeShown}
use Rattle.dis_link.specs.Arp.{arp_layout}
use Rattle.dis_link.specs.Link.{link_of, link_read, link_after}
use Rattle.dis_link.specs.Vlan.{vlan_layout, vlan_span, vlan_after}
use Rattle.dis_icmp.specs.Icmp.{icmp_layout, icmp_after}
use Rattle.dis_icmp.specs.Icmp6.{icmp6_layout, icmp6_after}
use Rattle.dis_icmp.specs.Igmp.{igmp_layout, igmp_after}
use Rattle.dis_icmp.specs.Neigh.{neigh_layout}
use Rattle.dis_ip.specs.Extensions.{extension_proto, extension_layout, extension_after}
use Rattle.dis_ip.specs.Ip4.{ip4_span, ip4_layout, ip4_after}
use Rattle.dis_ip.specs.Ip6.{ip6_span, ip6_layout, ip6_after}
use Rattle.dis_ports.specs.Tcp.{tcp_layout, tcp_after}
use Rattle.dis_ports.specs.Udp.{udp_span, udp_layout, udp_after}
use Rattle.ip_join.specs.declared.joined.Joined.{Joined}
use Rattle.ip_join.specs.declared.joined.Joined.TheVariants.{Pending, Whole, Conflict}
use Rattle.ip_join.specs.Stands.{joined_by}
use Rattle.tcp_streams.specs.declared.segment.Segment.{Segment}
use Rattle.tcp_streams.specs.declared.segment.Taken.{Taken}
use Rattle.tcp_streams.specs.Labels.{taken_after}
use Rattle.app_layers.specs.declared.streamed.StreamApp.{StreamApp}
use Rattle.tcp_messages.specs.declared.met.ShownMessage.{ShownMessage}
use Rattle.tcp_messages.specs.Shown.{shown_after}
use Rattle.pk_fields.specs.declared.rules.PortRule.{PortRule}
use Rattle.pk_fields.specs.Applications.{udp_app}
use Rattle.capture_read.specs.declared.frame.Frame.{Frame}
use Rattle.dissect.specs.declared.todo.Head.{Head}
use Rattle.dissect.specs.declared.todo.Todo.{Todo}
use Rattle.dissect.specs.declared.todo.Todo.TheVariants as todos
use Rattle.app_layers.specs.Applications.{payload_over}
use Rattle.dissect.specs.Conversations.{udp_stream}
use Rattle.app_layers.specs.DataLayer.{data_over}
use Rattle.dissect.specs.Events.{Event, Piece, Udp, Tcp}
use Rattle.dissect.specs.Fragments.{fragment_from, fragments_of, joined_todo}
use Rattle.app_layers.specs.Fragments.{conflict_told, joined_told}
use Rattle.app_layers.specs.FrameLayer.{frame_span, is_cut}
use Rattle.app_layers.specs.MessageLayers.{app_of_segment, carried_over, framer_of_segment}
use Rattle.app_layers.specs.Payloads.{datagram_told, segment_told}
use Rattle.dissect.specs.Segments.{segment_from, segments_of}

-- how far a frame is read: the tree so far, all events up to here, the newest first, and what is to be read next
pub record Walk : Type 0 where
  pub tree : TreeShown
  pub events : List Event
  pub todo : Todo

abbrev pub going : TreeShown → List Event → Todo → Walk
going t es todo = record { tree = t; events = es; todo = todo }

-- nothing more is read
abbrev pub stop : TreeShown → List Event → Walk
stop t es = going t es todos.Done

-- the rest is shown as data
abbrev pub rest_met : TreeShown → List Event → Span → Walk
rest_met t es span = stop (data_over t span) es

-- a header is read next
abbrev pub go_on : TreeShown → List Event → Head → Walk
go_on t es head = going t es (todos.Head head)

-- what stands for the IP header where none was met; only headers behind an IP header ask for it
abbrev pub no_packet : PacketHead
no_packet = record { source = Four 0; target = Four 0; whole = false }

-- behind a fragment, by what it made of those before it: the datagram that is whole now is read on, and any other fragment's
-- bytes are data
unfoldable pub joined_met : Joined → TreeShown → List Event → FragmentHead → Span → Walk
joined_met Pending t es head span = rest_met t es span
joined_met (Conflict kind) t es head span = rest_met (conflict_told t head.six kind) es span
joined_met (Whole datagram) t es head span = going (joined_told t head.six datagram) es (joined_todo t head datagram)

-- a fragment that takes part
abbrev pub piece_met : TreeShown → List Event → ℕ → FragmentHead → List ℕ → Span → Walk
piece_met t es frame head bytes span =
    joined_met (joined_by (fragments_of es) (fragment_from frame head bytes)) t (Piece frame head bytes ∷ es) head span

-- only one whose bytes were all captured does; those of another are data
abbrev pub fragment_by : Bool → TreeShown → List Event → ℕ → FragmentHead → Span → Walk
fragment_by true t es frame head span = piece_met t es frame head (bytes_of t.buffers span) span
fragment_by false t es frame head span = rest_met t es span

-- a part of a datagram
unfoldable pub fragment_met : Frame → PacketHead → TreeShown → List Event → FragmentHead → Span → Walk
fragment_met frame packet t es head span = fragment_by head.whole t es frame.number head span

-- the number of a conversation and what a UDP header carries are told in the header's layer; then comes the payload, read by
-- the application of the ports
unfoldable pub datagram_met : List PortRule → Frame → PacketHead → TreeShown → List Event → PortsHead → Span → Walk
datagram_met rules frame packet t es head span =
    stop (payload_over (udp_app rules head.source head.target) (datagram_told t (udp_stream es packet head) span) (is_cut frame) span) (Udp frame.number packet head (bytes_of t.buffers span) ∷ es)

-- a segment is told in its header's layer; then come the messages that its frame shows, or where its stream has no application,
-- its payload as data
abbrev pub told_met : Bool → TreeShown → List Event → Taken → Option StreamApp → List ShownMessage → Span → Walk
told_met cut t es taken app messages span = stop (carried_over app cut span (segment_told t taken span) messages) es

-- a segment, by the segments before it
abbrev pub taken_met : List PortRule → Bool → TreeShown → List Event → List Segment → Segment → Span → Walk
taken_met rules cut t es past segment span =
    told_met cut t es (taken_after past segment) (app_of_segment rules segment) (shown_after (framer_of_segment rules segment) past segment) span

-- what a TCP header carries
unfoldable pub segment_met : List PortRule → Frame → PacketHead → TreeShown → List Event → TcpHead → Span → Walk
segment_met rules frame packet t es head span =
    taken_met rules (is_cut frame) t (Tcp frame.number packet head (bytes_of t.buffers span) ∷ es) (segments_of es)
    (segment_from frame.number packet head (bytes_of t.buffers span)) span

-- what follows a header, given the IP header of the packet that it is in
unfoldable pub followed : List PortRule → Frame → PacketHead → Mode → TreeShown → List Event → After → Walk
followed rules frame packet mode t es (afters.Next which span) =
    go_on t es (record { which = which; span = span; packet = packet; mode = mode })
followed rules frame packet mode t es (afters.Packet which span inner) =
    go_on t es (record { which = which; span = span; packet = inner; mode = mode })
followed rules frame packet mode t es (afters.Fragment head span) = fragment_met frame packet t es head span
followed rules frame packet mode t es (afters.Datagram head span) = datagram_met rules frame packet t es head span
followed rules frame packet mode t es (afters.Segment head span) = segment_met rules frame packet t es head span
followed rules frame packet mode t es afters.End = stop t es

abbrev pub head_bytes : Head → TreeShown → List ℕ
head_bytes head t = bytes_of t.buffers head.span

-- a header is read as a layer of a protocol, by its steps, and this follows it
abbrev pub layer_met : List PortRule → Frame → Head → TreeShown → List Event → ℕ → Span → List Step → After → Walk
layer_met rules frame head t es proto span steps after =
    followed rules frame head.packet head.mode (layer_read t proto span steps head.mode (is_cut frame)) es after

-- behind a message of ICMP: the packet that one about a packet carries is read as an embedded one, what neighbour discovery says is not
abbrev pub mode_behind : Mode → After → Mode
mode_behind mode (afters.Next (nexts.Neigh kind) span) = mode
mode_behind mode after = Embedded

-- how what is behind a header is read
abbrev pub mode_after : Next → Mode → After → Mode
mode_after nexts.Icmp mode after = mode_behind mode after
mode_after nexts.Icmp6 mode after = mode_behind mode after
mode_after which mode after = mode

-- a message of ICMP
abbrev pub message_met : List PortRule → Frame → Head → TreeShown → List Event → ℕ → List Step → After → Walk
message_met rules frame head t es proto steps after =
    followed rules frame head.packet (mode_behind head.mode after) (layer_read t proto head.span steps head.mode (is_cut frame)) es after

-- an extension header of IPv6
abbrev pub extension_met : List PortRule → Next → Frame → Head → TreeShown → List Event → Walk
extension_met rules which frame head t es =
    layer_met rules frame head t es (extension_proto which) head.span (extension_layout which (head_bytes head t)) (extension_after which head.packet head.mode head.span (head_bytes head t))

-- a header by its protocol: its layer, and what follows it
unfoldable pub head_by : List PortRule → Next → Frame → Head → TreeShown → List Event → Walk
head_by rules nexts.Ip4 frame head t es =
    layer_met rules frame head t es IP (ip4_span head.span (head_bytes head t)) (ip4_layout (head_bytes head t)) (ip4_after head.mode (is_cut frame) head.span (head_bytes head t))
head_by rules nexts.Ip6 frame head t es =
    layer_met rules frame head t es IPV6 (ip6_span head.span (head_bytes head t)) (ip6_layout (head_bytes head t)) (ip6_after (is_cut frame) head.span (head_bytes head t))
head_by rules nexts.Arp frame head t es = layer_met rules frame head t es ARP head.span (arp_layout (head_bytes head t)) afters.End
head_by rules nexts.Vlan frame head t es =
    layer_met rules frame head t es VLAN (vlan_span head.span (head_bytes head t)) (vlan_layout (head_bytes head t)) (vlan_after head.span (head_bytes head t))
head_by rules nexts.Icmp frame head t es = message_met rules frame head t es ICMP (icmp_layout (head_bytes head t)) (icmp_after head.span (head_bytes head t))
head_by rules nexts.Icmp6 frame head t es = message_met rules frame head t es ICMPV6 (icmp6_layout (head_bytes head t)) (icmp6_after head.span (head_bytes head t))
head_by rules nexts.Udp frame head t es =
    layer_met rules frame head t es UDP (udp_span head.span (head_bytes head t)) (udp_layout (head_bytes head t)) (udp_after head.mode head.span (head_bytes head t))
head_by rules nexts.Tcp frame head t es =
    layer_met rules frame head t es TCP head.span (tcp_layout (head_bytes head t)) (tcp_after head.mode head.span (head_bytes head t))
head_by rules nexts.HopOpts frame head t es = extension_met rules nexts.HopOpts frame head t es
head_by rules nexts.Routing frame head t es = extension_met rules nexts.Routing frame head t es
head_by rules nexts.DstOpts frame head t es = extension_met rules nexts.DstOpts frame head t es
head_by rules nexts.FragHdr frame head t es = extension_met rules nexts.FragHdr frame head t es
head_by rules (nexts.Neigh kind) frame head t es = layer_met rules frame head t es ND head.span (neigh_layout kind (head_bytes head t)) afters.End
head_by rules nexts.Igmp frame head t es = layer_met rules frame head t es IGMP head.span igmp_layout (igmp_after head.span)
head_by rules nexts.Rest frame head t es = rest_met t es head.span

abbrev pub head_met : List PortRule → Frame → Head → TreeShown → List Event → Walk
head_met rules frame head t es = head_by rules head.which frame head t es

-- one header more
abbrev pub step_on : List PortRule → Frame → TreeShown → List Event → Todo → Walk
step_on rules frame t es todos.Done = stop t es
step_on rules frame t es (todos.Head head) = head_met rules frame head t es

abbrev pub step : List PortRule → Frame → Walk → Walk
step rules frame w = step_on rules frame w.tree w.events w.todo

-- the end of the way: where a header is still to be read, its bytes are shown as data
abbrev pub rest_on : TreeShown → List Event → Todo → Walk
rest_on t es todos.Done = stop t es
rest_on t es (todos.Head head) = rest_met t es head.span

-- at most so many headers, and then the rest
unfoldable pub chain : List PortRule → ℕ → Frame → Walk → Walk
chain rules zero frame w = rest_on w.tree w.events w.todo
chain rules (suc n) frame w = chain rules n frame (step rules frame w)

-- the layers before data are at most 32
abbrev pub layers_left : TreeShown → ℕ
layers_left t = 32 - length t.layers

-- the frame's first header, by the capture's link type; a frame of no bytes has none
unfoldable pub link_met : List PortRule → Frame → TreeShown → List Event → Walk
link_met rules frame t es = if length frame.bytes == 0 then stop t es else
    followed rules frame no_packet Plain (link_read (link_of frame.link) frame.little t (frame_span frame) (is_cut frame)) es
    (link_after (link_of frame.link) frame.little (frame_span frame) (bytes_of t.buffers (frame_span frame)))

-- all headers behind the first
unfoldable pub all_met : List PortRule → Frame → Walk → Walk
all_met rules frame w = chain rules (layers_left w.tree) frame w

-- what is still to be read lies in its buffer, and has at least one byte
abbrev pub IsTodoInside : List (List ℕ) → Todo → Type 0
IsTodoInside buffers todos.Done = Unit {0}
IsTodoInside buffers (todos.Head head) = IsInside buffers head.span × (0 < head.span.len)
