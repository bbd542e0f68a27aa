use Rattle.std.proofs.Common.{◌∙◌}
use Rattle.std.proofs.lemmas.Result.{IfOk-weaker}
use Rattle.pk_tree.specs.Buffers.{bytes_of}
use Rattle.pk_fields.specs.Ids.{UDP, TCP}
use Rattle.dis_ip.specs.Extensions.{extension_after}
use Rattle.dis_ip.specs.Ip4.{ip4_after}
use Rattle.dis_ip.specs.Ip6.{ip6_after}
use Rattle.dis_link.specs.Vlan.{vlan_after}
use Rattle.dis_icmp.specs.Icmp.{icmp_after}
use Rattle.dis_icmp.specs.Icmp6.{icmp6_after}
use Rattle.dis_icmp.specs.Igmp.{igmp_after}
use Rattle.dis_ports.specs.Udp.{udp_after}
use Rattle.dis_ports.specs.Tcp.{tcp_after}
use Rattle.app_layers.proofs.Behind.{vlan_behind, icmp_behind, icmp6_behind, igmp_behind, ip4_behind, ip6_behind, extension_behind, udp_behind, tcp_behind}
use Rattle.app_layers.proofs.HeadLemmas.{extension_layer, extension_next, part_ok, plain_ok, whole_ok}
use Rattle.app_layers.proofs.heads.read_head.Goals as goal

pub returns-in-Arp-clause-behind : goal.returns-in-Arp-clause-behind
returns-in-Arp-clause-behind c = plain_ok c.read_arp.new.b.layers _ c.read_arp.result tt c.read_arp.ensures.after

pub returns-in-Vlan-clause-behind : goal.returns-in-Vlan-clause-behind
returns-in-Vlan-clause-behind c = plain_ok c.read_vlan.new.b.layers (vlan_after c.args.span (bytes_of c.args.tree.now.buffers c.args.span)) c.read_vlan.result (vlan_behind _ _ _) c.read_vlan.ensures.after

pub returns-in-Ip4-clause-behind : goal.returns-in-Ip4-clause-behind
returns-in-Ip4-clause-behind c =
    part_ok c.read_ip4.new.b.layers (ip4_after c.args.mode c.args.cut c.args.span (bytes_of c.args.tree.now.buffers c.args.span)) c.read_ip4.result (ip4_behind _ _ _ _ _) c.read_ip4.ensures.after c.read_ip4.ensures.some c.read_ip4.ensures.part

pub returns-in-Ip6-clause-behind : goal.returns-in-Ip6-clause-behind
returns-in-Ip6-clause-behind c = plain_ok c.read_ip6.new.b.layers (ip6_after c.args.cut c.args.span (bytes_of c.args.tree.now.buffers c.args.span)) c.read_ip6.result (ip6_behind _ _ _ _) c.read_ip6.ensures.after

pub returns-in-HopOpts-clause-behind : goal.returns-in-HopOpts-clause-behind
returns-in-HopOpts-clause-behind c =
    part_ok c.read_extension.new.b.layers (extension_after c.args.which c.args.packet.now c.args.mode c.args.span (bytes_of c.args.tree.now.buffers c.args.span)) c.read_extension.result (extension_behind _ _ _ _ _ _) c.read_extension.ensures.after c.read_extension.ensures.some c.read_extension.ensures.part

pub returns-in-HopOpts-clause-layer : goal.returns-in-HopOpts-clause-layer
returns-in-HopOpts-clause-layer c =
    IfOk-weaker c.read_extension.result _ _ (λ after is. is ∙ extension_layer c.args.which c.args.mode c.args.cut c.args.span c.args.tree.now c.in-HopOpts.is) c.read_extension.ensures.layer

pub returns-in-HopOpts-clause-after : goal.returns-in-HopOpts-clause-after
returns-in-HopOpts-clause-after c =
    IfOk-weaker c.read_extension.result _ _ (λ after is. is ∙ extension_next c.args.which c.args.packet.now c.args.mode c.args.cut c.args.span (bytes_of c.args.tree.now.buffers c.args.span) c.in-HopOpts.is) c.read_extension.ensures.after

pub returns-in-Udp-clause-behind : goal.returns-in-Udp-clause-behind
returns-in-Udp-clause-behind c =
    whole_ok c.read_udp.new.b.layers UDP (udp_after c.args.mode c.args.span (bytes_of c.args.tree.now.buffers c.args.span)) c.read_udp.result (udp_behind _ _ _ _) c.read_udp.ensures.after c.read_udp.ensures.some c.read_udp.ensures.whole

pub returns-in-Tcp-clause-behind : goal.returns-in-Tcp-clause-behind
returns-in-Tcp-clause-behind c =
    whole_ok c.read_tcp.new.b.layers TCP (tcp_after c.args.mode c.args.span (bytes_of c.args.tree.now.buffers c.args.span)) c.read_tcp.result (tcp_behind _ _ _ _) c.read_tcp.ensures.after c.read_tcp.ensures.some c.read_tcp.ensures.whole

pub returns-in-Icmp-clause-behind : goal.returns-in-Icmp-clause-behind
returns-in-Icmp-clause-behind c = plain_ok c.read_icmp.new.b.layers (icmp_after c.args.span (bytes_of c.args.tree.now.buffers c.args.span)) c.read_icmp.result (icmp_behind _ _ _) c.read_icmp.ensures.after

pub returns-in-Icmp6-clause-behind : goal.returns-in-Icmp6-clause-behind
returns-in-Icmp6-clause-behind c = plain_ok c.read_icmp6.new.b.layers (icmp6_after c.args.span (bytes_of c.args.tree.now.buffers c.args.span)) c.read_icmp6.result (icmp6_behind _ _ _) c.read_icmp6.ensures.after

pub returns-in-Neigh-clause-behind : goal.returns-in-Neigh-clause-behind
returns-in-Neigh-clause-behind c = plain_ok c.read_neigh.new.b.layers _ c.read_neigh.result tt c.read_neigh.ensures.after

pub returns-in-Igmp-clause-behind : goal.returns-in-Igmp-clause-behind
returns-in-Igmp-clause-behind c = plain_ok c.read_igmp.new.b.layers (igmp_after c.args.span) c.read_igmp.result (igmp_behind _ _) c.read_igmp.ensures.after
