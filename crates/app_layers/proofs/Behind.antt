-- Behind which layer a payload comes: only the header that says a fragment's place hands on a fragment, only a UDP header a
-- datagram, and only a TCP header a segment.
use Rattle.std.proofs.Common.{◌≡◌, ◌≢◌, ℕ, ◌-◌, ◌<◌, Bool, true, false, if◌then◌else◌, List, length, rules, subst, sym}
use Rattle.std.specs.Prelude.{nat_lt, nat_le, ◌==◌}
use Rattle.pk_base.specs.declared.span.Span.{Span}
use Rattle.pk_fields.specs.Ids.{UDP, TCP}
use Rattle.pk_base.specs.declared.heads.After.{After}
use Rattle.pk_base.specs.declared.heads.After.TheVariants as afters
use Rattle.pk_base.specs.declared.heads.FragmentHead.{FragmentHead}
use Rattle.pk_base.specs.declared.heads.Mode.{Mode}
use Rattle.pk_base.specs.declared.heads.Mode.TheVariants.{Plain, Embedded}
use Rattle.pk_base.specs.declared.heads.Next.{Next}
use Rattle.pk_base.specs.declared.heads.Next.TheVariants as nexts
use Rattle.pk_base.specs.declared.heads.PacketHead.{PacketHead}
use Rattle.pk_base.specs.declared.heads.PortsHead.{PortsHead}
use Rattle.pk_base.specs.declared.heads.TcpHead.{TcpHead}
use Rattle.pk_tree.specs.declared.layer.Layer.{Layer}
use Rattle.pk_tree.specs.declared.layout.Reach.{Reach}
use Rattle.pk_tree.specs.declared.layout.Reach.TheVariants.{All, Short, Failed}
use Rattle.pk_tree.specs.Following.{carried}
use Rattle.pk_tree.specs.Layouts.{within}
use Rattle.pk_tree.specs.Trees.{TreeShown, last_proto}
use Rattle.dis_link.specs.Ethernet.{eth_after}
use Rattle.dis_link.specs.Link.{link_of, link_after}
use Rattle.dis_link.specs.LinuxCooked.{sll_after, sll2_after}
use Rattle.dis_link.specs.Null.{null_after}
use Rattle.dis_link.specs.Vlan.{vlan_after}
use Rattle.dis_icmp.specs.Icmp.{icmp_after}
use Rattle.dis_icmp.specs.Icmp6.{icmp6_after}
use Rattle.dis_icmp.specs.Igmp.{igmp_after}
use Rattle.dis_ip.specs.Extensions.{extension_after}
use Rattle.dis_ip.specs.FragmentHeader.{fragment_after, fragment_part}
use Rattle.dis_ip.specs.Fragments.{part_after, is_fragment, LastIsPart}
use Rattle.dis_ip.specs.Ip4.{ip4_after, ip4_packet, ip4_span, ip4_is_read, ip4_carried, ip4_part, ip4_header}
use Rattle.dis_ip.specs.Ip6.{ip6_after, ip6_packet, ip6_next, ip6_span, ip6_is_read}
use Rattle.dis_ip.specs.Options.{sized_after, next_header, header_size}
use Rattle.dis_ip.specs.Packets.{in_packet}
use Rattle.dis_ip.specs.Protocols.{carried_by, ends_chain, next_of_protocol}
use Rattle.dis_ports.specs.Tcp.{tcp_after, tcp_carries}
use Rattle.dis_ports.specs.Udp.{udp_after, udp_carries}
use Rattle.app_layers.specs.Payloads.{ComesBehind}

behind_if : (layers : List Layer) (b : Bool) (x y : After) → ComesBehind x layers → ComesBehind y layers → ComesBehind (if b then x else y) layers
behind_if layers true x y one other = one
behind_if layers false x y one other = other

carried_behind : (layers : List Layer) (next : Next) (span : Span) (header : ℕ) → ComesBehind (carried next span header) layers
carried_behind layers next span header = behind_if layers (nat_lt header span.len) _ _ tt tt

carried_by_behind : (layers : List Layer) (six : Bool) (number : ℕ) (span : Span) (header : ℕ) → ComesBehind (carried_by six number span header) layers
carried_by_behind layers six number span header =
    behind_if layers (ends_chain number) afters.End (carried (next_of_protocol six number) span header) tt (carried_behind layers (next_of_protocol six number) span header)

packet_behind : (layers : List Layer) (packet : PacketHead) (after : After) → ComesBehind after layers → ComesBehind (in_packet packet after) layers
packet_behind layers packet (afters.Next next span) behind = tt
packet_behind layers packet (afters.Packet next span inner) behind = tt
packet_behind layers packet (afters.Fragment head span) behind = behind
packet_behind layers packet (afters.Datagram head span) behind = behind
packet_behind layers packet (afters.Segment head span) behind = behind
packet_behind layers packet afters.End behind = tt

-- a fragment comes behind the layer of its header
if_fragment : (layers : List Layer) (b : Bool) (head : FragmentHead) (span : Span) (other : After) → 0 < length layers → ComesBehind other layers
    → LastIsPart layers (if b then afters.Fragment head span else other) → ComesBehind (if b then afters.Fragment head span else other) layers
if_fragment layers true head span other some behind last = (some, last)
if_fragment layers false head span other some behind last = behind

part_behind : (layers : List Layer) (mode : Mode) (head : FragmentHead) (span : Span) (header : ℕ) → 0 < length layers
    → LastIsPart layers (part_after mode head span header) → ComesBehind (part_after mode head span header) layers
unfolding part_after
part_behind layers Plain head span header some last =
    if_fragment layers (is_fragment head) head (within span header (span.len - header)) (carried_by head.six head.next span header) some (carried_by_behind layers head.six head.next span header) last
part_behind layers Embedded head span header some last =
    behind_if layers (head.offset == 0) (carried_by head.six head.next span header) (carried nexts.Rest span header) (carried_by_behind layers head.six head.next span header) (carried_behind layers nexts.Rest span header)

-- so in a packet, and where something follows only if a header is whole
part_in_packet : (layers : List Layer) (packet : PacketHead) (after : After) → (LastIsPart layers after → ComesBehind after layers)
    → LastIsPart layers (in_packet packet after) → ComesBehind (in_packet packet after) layers
part_in_packet layers packet (afters.Next next span) behind last = tt
part_in_packet layers packet (afters.Packet next span inner) behind last = tt
part_in_packet layers packet (afters.Fragment head span) behind last = behind last
part_in_packet layers packet (afters.Datagram head span) behind last = behind last
part_in_packet layers packet (afters.Segment head span) behind last = behind last
part_in_packet layers packet afters.End behind last = tt

part_if : (layers : List Layer) (b : Bool) (after : After) → (LastIsPart layers after → ComesBehind after layers)
    → LastIsPart layers (if b then after else afters.End) → ComesBehind (if b then after else afters.End) layers
part_if layers true after behind last = behind last
part_if layers false after behind last = tt

both : {A : Type 0} (P : A → Type 0) (b : Bool) (x y : A) → P x → P y → P (if b then x else y)
both P true x y one other = one
both P false x y one other = other

pub link_behind : (layers : List Layer) (link : ℕ) (little : Bool) (span : Span) (bytes : List ℕ) → ComesBehind (link_after (link_of link) little span bytes) layers
unfolding link_after null_after eth_after sll_after sll2_after
link_behind layers link little span bytes =
    both (λ l. ComesBehind (link_after l little span bytes) layers) (link == 0) _ _ (carried_behind layers _ _ _)
    (both (λ l. ComesBehind (link_after l little span bytes) layers) (link == 1) _ _ (carried_behind layers _ _ _)
    (both (λ l. ComesBehind (link_after l little span bytes) layers) (link == 101) _ _ (carried_behind layers _ _ _)
    (both (λ l. ComesBehind (link_after l little span bytes) layers) (link == 113) _ _ (carried_behind layers _ _ _)
    (both (λ l. ComesBehind (link_after l little span bytes) layers) (link == 276) _ _ (carried_behind layers _ _ _)
    (carried_behind layers _ _ _)))))

pub vlan_behind : (layers : List Layer) (span : Span) (bytes : List ℕ) → ComesBehind (vlan_after span bytes) layers
unfolding vlan_after
vlan_behind layers span bytes = carried_behind layers _ _ _

pub icmp_behind : (layers : List Layer) (span : Span) (bytes : List ℕ) → ComesBehind (icmp_after span bytes) layers
unfolding icmp_after
icmp_behind layers span bytes = carried_behind layers _ _ _

pub icmp6_behind : (layers : List Layer) (span : Span) (bytes : List ℕ) → ComesBehind (icmp6_after span bytes) layers
unfolding icmp6_after
icmp6_behind layers span bytes = carried_behind layers _ _ _

pub igmp_behind : (layers : List Layer) (span : Span) → ComesBehind (igmp_after span) layers
unfolding igmp_after
igmp_behind layers span = carried_behind layers _ _ _

pub ip4_behind : (layers : List Layer) (mode : Mode) (cut : Bool) (span : Span) (bytes : List ℕ) → 0 < length layers
    → LastIsPart layers (ip4_after mode cut span bytes) → ComesBehind (ip4_after mode cut span bytes) layers
unfolding ip4_after
ip4_behind layers mode cut span bytes some last =
    let packet = ip4_packet cut span bytes in
    let layer = ip4_span span bytes in
    part_if layers (ip4_is_read span bytes) (ip4_carried mode packet layer bytes)
    (part_in_packet layers packet (part_after mode (ip4_part packet bytes) layer (ip4_header bytes)) (part_behind layers mode (ip4_part packet bytes) layer (ip4_header bytes) some)) last

pub ip6_behind : (layers : List Layer) (cut : Bool) (span : Span) (bytes : List ℕ) → ComesBehind (ip6_after cut span bytes) layers
unfolding ip6_after
ip6_behind layers cut span bytes =
    let packet = ip6_packet cut span bytes in
    let carries = carried_by true (ip6_next bytes) (ip6_span span bytes) 40 in
    behind_if layers (ip6_is_read span bytes) (in_packet packet carries) afters.End
    (packet_behind layers packet carries (carried_by_behind layers true (ip6_next bytes) (ip6_span span bytes) 40)) tt

pub extension_behind : (layers : List Layer) (which : Next) (packet : PacketHead) (mode : Mode) (span : Span) (bytes : List ℕ) → 0 < length layers
    → LastIsPart layers (extension_after which packet mode span bytes) → ComesBehind (extension_after which packet mode span bytes) layers
unfolding extension_after sized_after fragment_after
extension_behind layers nexts.HopOpts packet mode span bytes some last = carried_by_behind layers true (next_header bytes) span (header_size bytes)
extension_behind layers nexts.Routing packet mode span bytes some last = carried_by_behind layers true (next_header bytes) span (header_size bytes)
extension_behind layers nexts.DstOpts packet mode span bytes some last = carried_by_behind layers true (next_header bytes) span (header_size bytes)
extension_behind layers nexts.FragHdr packet mode span bytes some last =
    part_if layers (nat_le 8 span.len) (part_after mode (fragment_part packet bytes) span 8) (part_behind layers mode (fragment_part packet bytes) span 8 some) last
extension_behind layers nexts.Ip4 packet mode span bytes some last = tt
extension_behind layers nexts.Ip6 packet mode span bytes some last = tt
extension_behind layers nexts.Arp packet mode span bytes some last = tt
extension_behind layers nexts.Vlan packet mode span bytes some last = tt
extension_behind layers nexts.Icmp packet mode span bytes some last = tt
extension_behind layers nexts.Icmp6 packet mode span bytes some last = tt
extension_behind layers nexts.Udp packet mode span bytes some last = tt
extension_behind layers nexts.Tcp packet mode span bytes some last = tt
extension_behind layers (nexts.Neigh kind) packet mode span bytes some last = tt
extension_behind layers nexts.Igmp packet mode span bytes some last = tt
extension_behind layers nexts.Rest packet mode span bytes some last = tt

udp_carries_behind : (layers : List Layer) (r : Reach) (mode : Mode) (ports : PortsHead) (span : Span) → 0 < length layers
    → (udp_carries r mode ports span ≢ afters.End → last_proto layers ≡ UDP) → ComesBehind (udp_carries r mode ports span) layers
udp_carries_behind layers All Plain ports span some last = (some, last (search rules))
udp_carries_behind layers All Embedded ports span some last = carried_behind layers nexts.Rest span 8
udp_carries_behind layers Short mode ports span some last = tt
udp_carries_behind layers Failed mode ports span some last = tt

pub udp_behind : (layers : List Layer) (mode : Mode) (span : Span) (bytes : List ℕ) → 0 < length layers
    → (udp_after mode span bytes ≢ afters.End → last_proto layers ≡ UDP) → ComesBehind (udp_after mode span bytes) layers
unfolding udp_after
udp_behind layers mode span bytes some last = udp_carries_behind layers _ mode _ _ some last

tcp_carries_behind : (layers : List Layer) (r : Reach) (mode : Mode) (head : TcpHead) (header : ℕ) (span : Span) → 0 < length layers
    → (tcp_carries r mode head header span ≢ afters.End → last_proto layers ≡ TCP) → ComesBehind (tcp_carries r mode head header span) layers
tcp_carries_behind layers All Plain head header span some last = (some, last (search rules))
tcp_carries_behind layers All Embedded head header span some last = carried_behind layers nexts.Rest span header
tcp_carries_behind layers Short mode head header span some last = tt
tcp_carries_behind layers Failed mode head header span some last = tt

pub tcp_behind : (layers : List Layer) (mode : Mode) (span : Span) (bytes : List ℕ) → 0 < length layers
    → (tcp_after mode span bytes ≢ afters.End → last_proto layers ≡ TCP) → ComesBehind (tcp_after mode span bytes) layers
unfolding tcp_after
tcp_behind layers mode span bytes some last = tcp_carries_behind layers _ mode _ _ _ some last

-- a layer's payload, by what was read and what follows it
pub tree_behind : (t read : TreeShown) (after next : After) → t ≡ read → after ≡ next → ComesBehind next read.layers → ComesBehind after t.layers
tree_behind t read after next by is behind =
    subst (λ (x : TreeShown). ComesBehind after x.layers) (sym by) (subst (λ (x : After). ComesBehind x read.layers) (sym is) behind)
