-- A header as a layer of its protocol, and what follows it.
use Rattle.std.specs.Prelude.{ℕ, Bool, true, false, List}
use Rattle.pk_base.specs.declared.span.Span.{Span}
use Rattle.pk_tree.specs.Buffers.{bytes_of}
use Rattle.pk_fields.specs.Ids.{ARP, VLAN, IP, IPV6, UDP, TCP, ICMP, ICMPV6, IGMP, ND}
use Rattle.pk_base.specs.declared.heads.After.{After}
use Rattle.pk_base.specs.declared.heads.After.TheVariants as afters
use Rattle.pk_base.specs.declared.heads.Mode.{Mode}
use Rattle.pk_base.specs.declared.heads.Next.{Next}
use Rattle.pk_base.specs.declared.heads.Next.TheVariants as nexts
use Rattle.pk_base.specs.declared.heads.PacketHead.{PacketHead}
use Rattle.pk_tree.specs.Layouts.{layer_read}
use Rattle.pk_tree.specs.Trees.{TreeShown}
use Rattle.dis_link.specs.Arp.{arp_layout}
use Rattle.dis_link.specs.Vlan.{vlan_layout, vlan_span, vlan_after}
use Rattle.dis_icmp.specs.Icmp.{icmp_layout, icmp_after}
use Rattle.dis_icmp.specs.Icmp6.{icmp6_layout, icmp6_after}
use Rattle.dis_icmp.specs.Igmp.{igmp_layout, igmp_after}
use Rattle.dis_icmp.specs.Neigh.{neigh_layout}
use Rattle.dis_ip.specs.Extensions.{extension_proto, extension_layout, extension_after}
use Rattle.dis_ip.specs.Ip4.{ip4_span, ip4_layout, ip4_after}
use Rattle.dis_ip.specs.Ip6.{ip6_span, ip6_layout, ip6_after}
use Rattle.dis_ports.specs.Tcp.{tcp_layout, tcp_after}
use Rattle.dis_ports.specs.Udp.{udp_span, udp_layout, udp_after}

-- whether no header is to be read, but the rest
abbrev pub is_rest : Next → Bool
is_rest nexts.Rest = true
is_rest which = false

-- an extension header of IPv6
abbrev pub extension_read : Next → Mode → Bool → Span → TreeShown → TreeShown
extension_read which mode cut span t = layer_read t (extension_proto which) span (extension_layout which (bytes_of t.buffers span)) mode cut

-- the tree with a header's layer; the rest has none
unfoldable pub head_read : Next → Mode → Bool → Span → TreeShown → TreeShown
head_read nexts.Ip4 mode cut span t = layer_read t IP (ip4_span span (bytes_of t.buffers span)) (ip4_layout (bytes_of t.buffers span)) mode cut
head_read nexts.Ip6 mode cut span t = layer_read t IPV6 (ip6_span span (bytes_of t.buffers span)) (ip6_layout (bytes_of t.buffers span)) mode cut
head_read nexts.Arp mode cut span t = layer_read t ARP span (arp_layout (bytes_of t.buffers span)) mode cut
head_read nexts.Vlan mode cut span t = layer_read t VLAN (vlan_span span (bytes_of t.buffers span)) (vlan_layout (bytes_of t.buffers span)) mode cut
head_read nexts.Icmp mode cut span t = layer_read t ICMP span (icmp_layout (bytes_of t.buffers span)) mode cut
head_read nexts.Icmp6 mode cut span t = layer_read t ICMPV6 span (icmp6_layout (bytes_of t.buffers span)) mode cut
head_read nexts.Udp mode cut span t = layer_read t UDP (udp_span span (bytes_of t.buffers span)) (udp_layout (bytes_of t.buffers span)) mode cut
head_read nexts.Tcp mode cut span t = layer_read t TCP span (tcp_layout (bytes_of t.buffers span)) mode cut
head_read nexts.HopOpts mode cut span t = extension_read nexts.HopOpts mode cut span t
head_read nexts.Routing mode cut span t = extension_read nexts.Routing mode cut span t
head_read nexts.DstOpts mode cut span t = extension_read nexts.DstOpts mode cut span t
head_read nexts.FragHdr mode cut span t = extension_read nexts.FragHdr mode cut span t
head_read (nexts.Neigh kind) mode cut span t = layer_read t ND span (neigh_layout kind (bytes_of t.buffers span)) mode cut
head_read nexts.Igmp mode cut span t = layer_read t IGMP span igmp_layout mode cut
head_read nexts.Rest mode cut span t = t

-- what follows a header, by its bytes, given the IP header of the packet that it is in
unfoldable pub head_after : Next → PacketHead → Mode → Bool → Span → List ℕ → After
head_after nexts.Ip4 packet mode cut span bytes = ip4_after mode cut span bytes
head_after nexts.Ip6 packet mode cut span bytes = ip6_after cut span bytes
head_after nexts.Arp packet mode cut span bytes = afters.End
head_after nexts.Vlan packet mode cut span bytes = vlan_after span bytes
head_after nexts.Icmp packet mode cut span bytes = icmp_after span bytes
head_after nexts.Icmp6 packet mode cut span bytes = icmp6_after span bytes
head_after nexts.Udp packet mode cut span bytes = udp_after mode span bytes
head_after nexts.Tcp packet mode cut span bytes = tcp_after mode span bytes
head_after nexts.HopOpts packet mode cut span bytes = extension_after nexts.HopOpts packet mode span bytes
head_after nexts.Routing packet mode cut span bytes = extension_after nexts.Routing packet mode span bytes
head_after nexts.DstOpts packet mode cut span bytes = extension_after nexts.DstOpts packet mode span bytes
head_after nexts.FragHdr packet mode cut span bytes = extension_after nexts.FragHdr packet mode span bytes
head_after (nexts.Neigh kind) packet mode cut span bytes = afters.End
head_after nexts.Igmp packet mode cut span bytes = igmp_after span
head_after nexts.Rest packet mode cut span bytes = afters.End
