-- What follows a header has no more bytes than were left for the header.
use Rattle.std.proofs.Common.{◌≡◌, ℕ, ◌+◌, ◌-◌, ◌≤◌, Bool, true, false, if◌then◌else◌, List, length, drop, Option, None, Some, ap, subst, sym, arith}
use Rattle.std.specs.Prelude.{nat_lt, nat_le, ◌==◌}
use Rattle.std.proofs.lemmas.List.{length-take}
use Rattle.pk_base.specs.declared.span.Span.{Span}
use Rattle.pk_tree.specs.Buffers.{buffer_of, bytes_of}
use Rattle.pk_base.specs.declared.heads.After.{After}
use Rattle.pk_base.specs.declared.heads.After.TheVariants as afters
use Rattle.pk_base.specs.declared.heads.FragmentHead.{FragmentHead}
use Rattle.pk_base.specs.declared.heads.Mode.{Mode}
use Rattle.pk_base.specs.declared.heads.Mode.TheVariants.{Plain, Embedded}
use Rattle.pk_base.specs.declared.heads.Next.{Next}
use Rattle.pk_base.specs.declared.heads.Next.TheVariants as nexts
use Rattle.pk_base.specs.declared.heads.PacketHead.{PacketHead}
use Rattle.pk_base.specs.declared.heads.PortsHead.{PortsHead}
use Rattle.pk_base.specs.declared.heads.TcpHead.{TcpHead}
use Rattle.pk_tree.specs.declared.layout.Reach.{Reach}
use Rattle.pk_tree.specs.declared.layout.Reach.TheVariants.{All, Short, Failed}
use Rattle.pk_tree.specs.Following.{behind, carried, first_of}
use Rattle.pk_tree.specs.Layouts.{within}
use Rattle.dis_link.specs.Ethernet.{eth_after}
use Rattle.dis_link.specs.EtherTypes.{ended, is_length}
use Rattle.dis_link.specs.Link.{link_of, link_after}
use Rattle.dis_link.specs.LinuxCooked.{sll_after, sll2_after}
use Rattle.dis_link.specs.Null.{null_after}
use Rattle.dis_link.specs.Vlan.{vlan_after}
use Rattle.dis_icmp.specs.Icmp.{icmp_after}
use Rattle.dis_icmp.specs.Icmp6.{icmp6_after}
use Rattle.dis_icmp.specs.Igmp.{igmp_after}
use Rattle.dis_ip.specs.Extensions.{extension_after}
use Rattle.dis_ip.specs.FragmentHeader.{fragment_after, fragment_part}
use Rattle.dis_ip.specs.Fragments.{part_after, is_fragment}
use Rattle.dis_ip.specs.Ip4.{ip4_after, ip4_packet, ip4_span, ip4_size, ip4_is_read, ip4_carried, ip4_part, ip4_header}
use Rattle.dis_ip.specs.Ip6.{ip6_after, ip6_packet, ip6_next, ip6_span, ip6_size, ip6_is_read}
use Rattle.dis_ip.specs.Options.{sized_after, next_header, header_size}
use Rattle.dis_ip.specs.Packets.{in_packet, packet_span}
use Rattle.dis_ip.specs.Protocols.{carried_by, ends_chain, next_of_protocol}
use Rattle.dis_ports.specs.Tcp.{tcp_after, tcp_carries}
use Rattle.dis_ports.specs.Udp.{udp_after, udp_carries, udp_length, udp_span}
use Rattle.app_layers.specs.Heads.{head_after}
use Rattle.dissect.specs.Stands.{bytes_behind}

-- ---- spans

both : {A : Type 0} (P : A → Type 0) (b : Bool) (x y : A) → P x → P y → P (if b then x else y)
both P true x y one other = one
both P false x y one other = other

first_short : (most n : ℕ) (span : Span) → span.len ≤ most → (first_of span n).len ≤ most
first_short most n span short = omega (arith, short)

packet_short : (span : Span) (size : Option ℕ) → (packet_span span size).len ≤ span.len
packet_short span None = omega arith
packet_short span (Some size) = first_short span.len size span (omega arith)

ip4_short : (span : Span) (bytes : List ℕ) → (ip4_span span bytes).len ≤ span.len
unfolding ip4_span
ip4_short span bytes = both (λ (s : Span). s.len ≤ span.len) (ip4_is_read span bytes) (packet_span span (ip4_size bytes)) span (packet_short span (ip4_size bytes)) (omega arith)

ip6_short : (span : Span) (bytes : List ℕ) → (ip6_span span bytes).len ≤ span.len
unfolding ip6_span
ip6_short span bytes = both (λ (s : Span). s.len ≤ span.len) (ip6_is_read span bytes) (packet_span span (ip6_size bytes)) span (packet_short span (ip6_size bytes)) (omega arith)

udp_short : (span : Span) (bytes : List ℕ) → (udp_span span bytes).len ≤ span.len
unfolding udp_span
udp_short span bytes = both (λ (s : Span). s.len ≤ span.len) (nat_le 8 (udp_length bytes)) (first_of span (udp_length bytes)) span (first_short span.len (udp_length bytes) span (omega arith)) (omega arith)

ended_short : (span : Span) (header number : ℕ) → (ended span header number).len ≤ span.len
unfolding ended
ended_short span header number = both (λ (s : Span). s.len ≤ span.len) (is_length number) (first_of span (header + number)) span (first_short span.len (header + number) span (omega arith)) (omega arith)

-- ---- what is carried

carried_short : (most : ℕ) (next : Next) (span : Span) (header : ℕ) → span.len ≤ most → bytes_behind (carried next span header) ≤ most
carried_short most next span header short =
    both (λ (after : After). bytes_behind after ≤ most) (nat_lt header span.len) (afters.Next next (behind span header)) afters.End (omega (arith, short)) (omega arith)

carried_by_short : (most : ℕ) (six : Bool) (number : ℕ) (span : Span) (header : ℕ) → span.len ≤ most → bytes_behind (carried_by six number span header) ≤ most
carried_by_short most six number span header short =
    both (λ (after : After). bytes_behind after ≤ most) (ends_chain number) afters.End (carried (next_of_protocol six number) span header) (omega arith)
    (carried_short most (next_of_protocol six number) span header short)

in_packet_short : (most : ℕ) (packet : PacketHead) (after : After) → bytes_behind after ≤ most → bytes_behind (in_packet packet after) ≤ most
in_packet_short most packet (afters.Next next span) short = short
in_packet_short most packet (afters.Packet next span inner) short = short
in_packet_short most packet (afters.Fragment head span) short = short
in_packet_short most packet (afters.Datagram head span) short = short
in_packet_short most packet (afters.Segment head span) short = short
in_packet_short most packet afters.End short = short

part_short : (most : ℕ) (mode : Mode) (head : FragmentHead) (span : Span) (header : ℕ) → span.len ≤ most → bytes_behind (part_after mode head span header) ≤ most
unfolding part_after
part_short most Plain head span header short =
    both (λ (after : After). bytes_behind after ≤ most) (is_fragment head) (afters.Fragment head (within span header (span.len - header))) (carried_by head.six head.next span header)
    (omega (arith, short)) (carried_by_short most head.six head.next span header short)
part_short most Embedded head span header short =
    both (λ (after : After). bytes_behind after ≤ most) (head.offset == 0) (carried_by head.six head.next span header) (carried nexts.Rest span header)
    (carried_by_short most head.six head.next span header short) (carried_short most nexts.Rest span header short)

read_short : (most : ℕ) (read : Bool) (after : After) → bytes_behind after ≤ most → bytes_behind (if read then after else afters.End) ≤ most
read_short most true after short = short
read_short most false after short = omega arith

-- ---- headers

ip4_less : (mode : Mode) (cut : Bool) (span : Span) (bytes : List ℕ) → bytes_behind (ip4_after mode cut span bytes) ≤ span.len
unfolding ip4_after
ip4_less mode cut span bytes =
    let packet = ip4_packet cut span bytes in
    let layer = ip4_span span bytes in
    read_short span.len (ip4_is_read span bytes) (ip4_carried mode packet layer bytes)
    (in_packet_short span.len packet (part_after mode (ip4_part packet bytes) layer (ip4_header bytes)) (part_short span.len mode (ip4_part packet bytes) layer (ip4_header bytes) (ip4_short span bytes)))

ip6_less : (cut : Bool) (span : Span) (bytes : List ℕ) → bytes_behind (ip6_after cut span bytes) ≤ span.len
unfolding ip6_after
ip6_less cut span bytes =
    let packet = ip6_packet cut span bytes in
    let carries = carried_by true (ip6_next bytes) (ip6_span span bytes) 40 in
    read_short span.len (ip6_is_read span bytes) (in_packet packet carries)
    (in_packet_short span.len packet carries (carried_by_short span.len true (ip6_next bytes) (ip6_span span bytes) 40 (ip6_short span bytes)))

extension_less : (which : Next) (packet : PacketHead) (mode : Mode) (span : Span) (bytes : List ℕ) → bytes_behind (extension_after which packet mode span bytes) ≤ span.len
unfolding extension_after sized_after fragment_after
extension_less nexts.HopOpts packet mode span bytes = carried_by_short span.len true (next_header bytes) span (header_size bytes) (omega arith)
extension_less nexts.Routing packet mode span bytes = carried_by_short span.len true (next_header bytes) span (header_size bytes) (omega arith)
extension_less nexts.DstOpts packet mode span bytes = carried_by_short span.len true (next_header bytes) span (header_size bytes) (omega arith)
extension_less nexts.FragHdr packet mode span bytes =
    read_short span.len (nat_le 8 span.len) (part_after mode (fragment_part packet bytes) span 8) (part_short span.len mode (fragment_part packet bytes) span 8 (omega arith))
extension_less nexts.Ip4 packet mode span bytes = omega arith
extension_less nexts.Ip6 packet mode span bytes = omega arith
extension_less nexts.Arp packet mode span bytes = omega arith
extension_less nexts.Vlan packet mode span bytes = omega arith
extension_less nexts.Icmp packet mode span bytes = omega arith
extension_less nexts.Icmp6 packet mode span bytes = omega arith
extension_less nexts.Udp packet mode span bytes = omega arith
extension_less nexts.Tcp packet mode span bytes = omega arith
extension_less (nexts.Neigh kind) packet mode span bytes = omega arith
extension_less nexts.Igmp packet mode span bytes = omega arith
extension_less nexts.Rest packet mode span bytes = omega arith

vlan_less : (span : Span) (bytes : List ℕ) → bytes_behind (vlan_after span bytes) ≤ span.len
unfolding vlan_after
vlan_less span bytes = carried_short span.len _ _ 4 (ended_short span 4 _)

icmp_less : (span : Span) (bytes : List ℕ) → bytes_behind (icmp_after span bytes) ≤ span.len
unfolding icmp_after
icmp_less span bytes = carried_short span.len _ span _ (omega arith)

icmp6_less : (span : Span) (bytes : List ℕ) → bytes_behind (icmp6_after span bytes) ≤ span.len
unfolding icmp6_after
icmp6_less span bytes = carried_short span.len _ span _ (omega arith)

igmp_less : (span : Span) → bytes_behind (igmp_after span) ≤ span.len
unfolding igmp_after
igmp_less span = carried_short span.len _ span _ (omega arith)

udp_carries_short : (most : ℕ) (r : Reach) (mode : Mode) (ports : PortsHead) (span : Span) → span.len ≤ most → bytes_behind (udp_carries r mode ports span) ≤ most
udp_carries_short most All Plain ports span short = omega (arith, short)
udp_carries_short most All Embedded ports span short = carried_short most nexts.Rest span 8 short
udp_carries_short most Short mode ports span short = omega arith
udp_carries_short most Failed mode ports span short = omega arith

udp_less : (mode : Mode) (span : Span) (bytes : List ℕ) → bytes_behind (udp_after mode span bytes) ≤ span.len
unfolding udp_after
udp_less mode span bytes = udp_carries_short span.len _ mode _ (udp_span span bytes) (udp_short span bytes)

tcp_carries_short : (most : ℕ) (r : Reach) (mode : Mode) (head : TcpHead) (header : ℕ) (span : Span) → span.len ≤ most → bytes_behind (tcp_carries r mode head header span) ≤ most
tcp_carries_short most All Plain head header span short = omega (arith, short)
tcp_carries_short most All Embedded head header span short = carried_short most nexts.Rest span header short
tcp_carries_short most Short mode head header span short = omega arith
tcp_carries_short most Failed mode head header span short = omega arith

tcp_less : (mode : Mode) (span : Span) (bytes : List ℕ) → bytes_behind (tcp_after mode span bytes) ≤ span.len
unfolding tcp_after
tcp_less mode span bytes = tcp_carries_short span.len _ mode _ _ span (omega arith)

head_less : (which : Next) (packet : PacketHead) (mode : Mode) (cut : Bool) (span : Span) (bytes : List ℕ) → bytes_behind (head_after which packet mode cut span bytes) ≤ span.len
unfolding head_after
head_less nexts.Ip4 packet mode cut span bytes = ip4_less mode cut span bytes
head_less nexts.Ip6 packet mode cut span bytes = ip6_less cut span bytes
head_less nexts.Arp packet mode cut span bytes = omega arith
head_less nexts.Vlan packet mode cut span bytes = vlan_less span bytes
head_less nexts.Icmp packet mode cut span bytes = icmp_less span bytes
head_less nexts.Icmp6 packet mode cut span bytes = icmp6_less span bytes
head_less nexts.Udp packet mode cut span bytes = udp_less mode span bytes
head_less nexts.Tcp packet mode cut span bytes = tcp_less mode span bytes
head_less nexts.HopOpts packet mode cut span bytes = extension_less nexts.HopOpts packet mode span bytes
head_less nexts.Routing packet mode cut span bytes = extension_less nexts.Routing packet mode span bytes
head_less nexts.DstOpts packet mode cut span bytes = extension_less nexts.DstOpts packet mode span bytes
head_less nexts.FragHdr packet mode cut span bytes = extension_less nexts.FragHdr packet mode span bytes
head_less (nexts.Neigh kind) packet mode cut span bytes = omega arith
head_less nexts.Igmp packet mode cut span bytes = igmp_less span
head_less nexts.Rest packet mode cut span bytes = omega arith

pub less-behind : (after : After) (which : Next) (packet : PacketHead) (mode : Mode) (cut : Bool) (span : Span) (bytes : List ℕ) → after ≡ head_after which packet mode cut span bytes → bytes_behind after ≤ span.len
less-behind after which packet mode cut span bytes is = subst (λ (a : After). bytes_behind a ≤ span.len) (sym is) (head_less which packet mode cut span bytes)

link_less : (link : ℕ) (little : Bool) (span : Span) (bytes : List ℕ) → bytes_behind (link_after (link_of link) little span bytes) ≤ span.len
unfolding link_after null_after eth_after sll_after sll2_after
link_less link little span bytes =
    both (λ l. bytes_behind (link_after l little span bytes) ≤ span.len) (link == 0) _ _ (carried_short span.len _ span 4 (omega arith))
    (both (λ l. bytes_behind (link_after l little span bytes) ≤ span.len) (link == 1) _ _ (carried_short span.len _ _ 14 (ended_short span 14 _))
    (both (λ l. bytes_behind (link_after l little span bytes) ≤ span.len) (link == 101) _ _ (carried_short span.len _ span 0 (omega arith))
    (both (λ l. bytes_behind (link_after l little span bytes) ≤ span.len) (link == 113) _ _ (carried_short span.len _ span 16 (omega arith))
    (both (λ l. bytes_behind (link_after l little span bytes) ≤ span.len) (link == 276) _ _ (carried_short span.len _ span 20 (omega arith))
    (carried_short span.len _ span 0 (omega arith))))))

pub less-first : (after : After) (link : ℕ) (little : Bool) (span : Span) (bytes : List ℕ) (size : ℕ) → after ≡ link_after (link_of link) little span bytes → span.len ≡ size → bytes_behind after ≤ size
less-first after link little span bytes size is len = subst (λ (a : After). bytes_behind a ≤ size) (sym is) (omega (arith, link_less link little span bytes, len))

-- and of a datagram that is whole what its first header has
pub less-joined : (after : After) (six : Bool) (number : ℕ) (span : Span) (size : ℕ) → after ≡ carried_by six number span 0 → span.len ≡ size → bytes_behind after ≤ size
less-joined after six number span size is len = subst (λ (a : After). bytes_behind a ≤ size) (sym is) (carried_by_short size six number span 0 (omega (arith, len)))

-- ---- bytes

pub bytes_short : (buffers : List (List ℕ)) (span : Span) (bytes : List ℕ) → bytes ≡ bytes_of buffers span → length bytes ≤ span.len
unfolding bytes_of
bytes_short buffers span bytes is = omega (arith, ap length is, length-take span.len (drop span.start (buffer_of buffers span.buffer)))
