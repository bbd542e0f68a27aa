-- Only a TCP header hands on a segment, and nothing else but the rest is read behind it.
use Rattle.std.proofs.Common.{◌≡◌, ℕ, ◌-◌, Bool, true, false, if◌then◌else◌, List, [], refl, arith}
use Rattle.std.specs.Prelude.{nat_le, ◌==◌}
use Rattle.pk_base.specs.declared.span.Span.{Span}
use Rattle.pk_base.specs.declared.heads.After.{After}
use Rattle.pk_base.specs.declared.heads.After.TheVariants as afters
use Rattle.pk_base.specs.declared.heads.FragmentHead.{FragmentHead}
use Rattle.pk_base.specs.declared.heads.Mode.{Mode}
use Rattle.pk_base.specs.declared.heads.Mode.TheVariants.{Plain, Embedded}
use Rattle.pk_base.specs.declared.heads.Next.{Next}
use Rattle.pk_base.specs.declared.heads.Next.TheVariants as nexts
use Rattle.pk_base.specs.declared.heads.PacketHead.{PacketHead}
use Rattle.pk_base.specs.declared.heads.PortsHead.{PortsHead}
use Rattle.pk_base.specs.declared.heads.TcpHead.{TcpHead}
use Rattle.pk_tree.specs.declared.layout.Reach.{Reach}
use Rattle.pk_tree.specs.declared.layout.Reach.TheVariants.{All, Short, Failed}
use Rattle.pk_tree.specs.Following.{behind, carried}
use Rattle.pk_tree.specs.Layouts.{within}
use Rattle.dis_link.specs.Link.{link_of, link_after}
use Rattle.dis_link.specs.Vlan.{vlan_after}
use Rattle.dis_icmp.specs.Icmp.{icmp_after}
use Rattle.dis_icmp.specs.Icmp6.{icmp6_after}
use Rattle.dis_icmp.specs.Igmp.{igmp_after}
use Rattle.dis_ip.specs.Extensions.{extension_after}
use Rattle.dis_ip.specs.FragmentHeader.{fragment_after, fragment_part}
use Rattle.dis_ip.specs.Fragments.{part_after, is_fragment}
use Rattle.dis_ip.specs.Ip4.{ip4_after, ip4_packet, ip4_span, ip4_is_read, ip4_carried, ip4_part, ip4_header}
use Rattle.dis_ip.specs.Ip6.{ip6_after}
use Rattle.dis_ip.specs.Options.{sized_after, next_header, header_size}
use Rattle.dis_ip.specs.Packets.{in_packet}
use Rattle.dis_ip.specs.Protocols.{carried_by, ends_chain, next_of_protocol}
use Rattle.dis_ports.specs.Tcp.{tcp_after, tcp_carries}
use Rattle.dis_ports.specs.Udp.{udp_after, udp_carries}
use Rattle.app_layers.specs.Payloads.{ComesBehind}
use Rattle.app_layers.proofs.Behind.{link_behind, vlan_behind, icmp_behind, icmp6_behind, igmp_behind, ip6_behind}

abbrev pub HasNoSegment : After → Type 0
HasNoSegment (afters.Next next span) = Unit {0}
HasNoSegment (afters.Packet next span packet) = Unit {0}
HasNoSegment (afters.Fragment head span) = Unit {0}
HasNoSegment (afters.Datagram head span) = Unit {0}
HasNoSegment (afters.Segment head span) = ⊥
HasNoSegment afters.End = Unit {0}

-- what may come behind no layer at all is no segment
none_behind : (after : After) → ComesBehind after [] → HasNoSegment after
none_behind (afters.Next next span) behind = tt
none_behind (afters.Packet next span packet) behind = tt
none_behind (afters.Fragment head span) behind = tt
none_behind (afters.Datagram head span) behind = tt
none_behind (afters.Segment head span) behind = absurd (omega (arith, behind.0))
none_behind afters.End behind = tt

if_none : (b : Bool) (x y : After) → HasNoSegment x → HasNoSegment y → HasNoSegment (if b then x else y)
if_none true x y one other = one
if_none false x y one other = other

pub link_none : (link : ℕ) (little : Bool) (span : Span) (bytes : List ℕ) → HasNoSegment (link_after (link_of link) little span bytes)
link_none link little span bytes = none_behind _ (link_behind [] link little span bytes)

pub vlan_none : (span : Span) (bytes : List ℕ) → HasNoSegment (vlan_after span bytes)
vlan_none span bytes = none_behind _ (vlan_behind [] span bytes)

pub icmp_none : (span : Span) (bytes : List ℕ) → HasNoSegment (icmp_after span bytes)
icmp_none span bytes = none_behind _ (icmp_behind [] span bytes)

pub icmp6_none : (span : Span) (bytes : List ℕ) → HasNoSegment (icmp6_after span bytes)
icmp6_none span bytes = none_behind _ (icmp6_behind [] span bytes)

pub igmp_none : (span : Span) → HasNoSegment (igmp_after span)
igmp_none span = none_behind _ (igmp_behind [] span)

pub ip6_none : (cut : Bool) (span : Span) (bytes : List ℕ) → HasNoSegment (ip6_after cut span bytes)
ip6_none cut span bytes = none_behind _ (ip6_behind [] cut span bytes)

carried_none : (next : Next) (span : Span) (header : ℕ) → HasNoSegment (carried next span header)
carried_none next span header = if_none _ (afters.Next next (behind span header)) afters.End tt tt

carried_by_none : (six : Bool) (number : ℕ) (span : Span) (header : ℕ) → HasNoSegment (carried_by six number span header)
carried_by_none six number span header =
    if_none (ends_chain number) afters.End (carried (next_of_protocol six number) span header) tt (carried_none (next_of_protocol six number) span header)

packet_none : (packet : PacketHead) (after : After) → HasNoSegment after → HasNoSegment (in_packet packet after)
packet_none packet (afters.Next next span) none = tt
packet_none packet (afters.Packet next span inner) none = tt
packet_none packet (afters.Fragment head span) none = tt
packet_none packet (afters.Datagram head span) none = tt
packet_none packet (afters.Segment head span) none = none
packet_none packet afters.End none = tt

part_none : (mode : Mode) (head : FragmentHead) (span : Span) (header : ℕ) → HasNoSegment (part_after mode head span header)
unfolding part_after
part_none Plain head span header =
    if_none (is_fragment head) (afters.Fragment head (within span header (span.len - header))) (carried_by head.six head.next span header) tt (carried_by_none head.six head.next span header)
part_none Embedded head span header =
    if_none (head.offset == 0) (carried_by head.six head.next span header) (carried nexts.Rest span header) (carried_by_none head.six head.next span header) (carried_none nexts.Rest span header)

pub ip4_none : (mode : Mode) (cut : Bool) (span : Span) (bytes : List ℕ) → HasNoSegment (ip4_after mode cut span bytes)
unfolding ip4_after
ip4_none mode cut span bytes =
    let packet = ip4_packet cut span bytes in
    let layer = ip4_span span bytes in
    if_none (ip4_is_read span bytes) (ip4_carried mode packet layer bytes) afters.End
    (packet_none packet (part_after mode (ip4_part packet bytes) layer (ip4_header bytes)) (part_none mode (ip4_part packet bytes) layer (ip4_header bytes))) tt

pub extension_none : (which : Next) (packet : PacketHead) (mode : Mode) (span : Span) (bytes : List ℕ) → HasNoSegment (extension_after which packet mode span bytes)
unfolding extension_after sized_after fragment_after
extension_none nexts.HopOpts packet mode span bytes = carried_by_none true (next_header bytes) span (header_size bytes)
extension_none nexts.Routing packet mode span bytes = carried_by_none true (next_header bytes) span (header_size bytes)
extension_none nexts.DstOpts packet mode span bytes = carried_by_none true (next_header bytes) span (header_size bytes)
extension_none nexts.FragHdr packet mode span bytes =
    if_none (nat_le 8 span.len) (part_after mode (fragment_part packet bytes) span 8) afters.End (part_none mode (fragment_part packet bytes) span 8) tt
extension_none nexts.Ip4 packet mode span bytes = tt
extension_none nexts.Ip6 packet mode span bytes = tt
extension_none nexts.Arp packet mode span bytes = tt
extension_none nexts.Vlan packet mode span bytes = tt
extension_none nexts.Icmp packet mode span bytes = tt
extension_none nexts.Icmp6 packet mode span bytes = tt
extension_none nexts.Udp packet mode span bytes = tt
extension_none nexts.Tcp packet mode span bytes = tt
extension_none (nexts.Neigh kind) packet mode span bytes = tt
extension_none nexts.Igmp packet mode span bytes = tt
extension_none nexts.Rest packet mode span bytes = tt

udp_carries_none : (r : Reach) (mode : Mode) (ports : PortsHead) (span : Span) → HasNoSegment (udp_carries r mode ports span)
udp_carries_none All Plain ports span = tt
udp_carries_none All Embedded ports span = carried_none nexts.Rest span 8
udp_carries_none Short mode ports span = tt
udp_carries_none Failed mode ports span = tt

pub udp_none : (mode : Mode) (span : Span) (bytes : List ℕ) → HasNoSegment (udp_after mode span bytes)
unfolding udp_after
udp_none mode span bytes = udp_carries_none _ mode _ _

-- ---- behind a TCP header

abbrev pub IsSegmentOrRest : After → Type 0
IsSegmentOrRest (afters.Next next span) = next ≡ nexts.Rest
IsSegmentOrRest (afters.Packet next span packet) = ⊥
IsSegmentOrRest (afters.Fragment head span) = ⊥
IsSegmentOrRest (afters.Datagram head span) = ⊥
IsSegmentOrRest (afters.Segment head span) = Unit {0}
IsSegmentOrRest afters.End = Unit {0}

if_rest : (b : Bool) (x y : After) → IsSegmentOrRest x → IsSegmentOrRest y → IsSegmentOrRest (if b then x else y)
if_rest true x y one other = one
if_rest false x y one other = other

tcp_carries_rest : (r : Reach) (mode : Mode) (head : TcpHead) (header : ℕ) (span : Span) → IsSegmentOrRest (tcp_carries r mode head header span)
tcp_carries_rest All Plain head header span = tt
tcp_carries_rest All Embedded head header span = if_rest _ (afters.Next nexts.Rest (behind span header)) afters.End refl tt
tcp_carries_rest Short mode head header span = tt
tcp_carries_rest Failed mode head header span = tt

pub tcp_rest : (mode : Mode) (span : Span) (bytes : List ℕ) → IsSegmentOrRest (tcp_after mode span bytes)
unfolding tcp_after
tcp_rest mode span bytes = tcp_carries_rest _ mode _ _ _
