-- The table of fields. Written by tools/make_fields from tools/fields.txt.
use Rattle.std.specs.Prelude.{List, [], ◌∷◌, codes}
use Rattle.pk_fields.specs.declared.value_kind.ValueKind.TheVariants.{Uint, Bool, Bytes, Text, Ether, Ip4, Ip6, Time, Proto}
use Rattle.pk_fields.specs.Rows.{FieldRow, placed, whole, derived, made}
use Rattle.pk_fields.specs.Ids.{FRAME, ETH, NULL, SLL, SLL2, VLAN, ARP, IP, IPV6, IPV6_HOPOPTS, IPV6_DSTOPTS, IPV6_ROUTING, IPV6_FRAGHDR, ICMP, ICMPV6, UDP, TCP, DNS, DHCP, HTTP, DATA, WS_SHORT, WS_MALFORMED, ND, IGMP, NTP, MDNS}

-- each row stands at the place that is its field's number; its protocol is the place of another
unfoldable pub rows : List FieldRow
rows =
    whole (codes "frame") Proto FRAME ∷
    made (codes "frame.number") (Uint 32) FRAME ∷
    made (codes "frame.time_epoch") Time FRAME ∷
    made (codes "frame.time_relative") Time FRAME ∷
    made (codes "frame.time_delta") Time FRAME ∷
    made (codes "frame.len") (Uint 32) FRAME ∷
    made (codes "frame.cap_len") (Uint 32) FRAME ∷
    whole (codes "eth") Proto ETH ∷
    placed (codes "eth.dst") Ether ETH 0 48 1 ∷
    placed (codes "eth.addr") Ether ETH 0 48 1 ∷
    placed (codes "eth.src") Ether ETH 0 48 1 ∷
    placed (codes "eth.type") (Uint 16) ETH 0 16 1 ∷
    placed (codes "eth.len") (Uint 16) ETH 0 16 1 ∷
    whole (codes "null") Proto NULL ∷
    derived (codes "null.family") (Uint 32) NULL ∷
    whole (codes "sll") Proto SLL ∷
    placed (codes "sll.pkttype") (Uint 16) SLL 0 16 1 ∷
    placed (codes "sll.hatype") (Uint 16) SLL 0 16 1 ∷
    placed (codes "sll.halen") (Uint 16) SLL 0 16 1 ∷
    whole (codes "sll.src") Bytes SLL ∷
    placed (codes "sll.etype") (Uint 16) SLL 0 16 1 ∷
    whole (codes "sll2") Proto SLL2 ∷
    placed (codes "sll2.etype") (Uint 16) SLL2 0 16 1 ∷
    placed (codes "sll2.ifindex") (Uint 32) SLL2 0 32 1 ∷
    placed (codes "sll2.hatype") (Uint 16) SLL2 0 16 1 ∷
    placed (codes "sll2.pkttype") (Uint 8) SLL2 0 8 1 ∷
    placed (codes "sll2.halen") (Uint 8) SLL2 0 8 1 ∷
    whole (codes "sll2.src") Bytes SLL2 ∷
    whole (codes "vlan") Proto VLAN ∷
    placed (codes "vlan.priority") (Uint 3) VLAN 0 3 1 ∷
    placed (codes "vlan.dei") Bool VLAN 3 1 1 ∷
    placed (codes "vlan.id") (Uint 12) VLAN 4 12 1 ∷
    placed (codes "vlan.etype") (Uint 16) VLAN 0 16 1 ∷
    placed (codes "vlan.len") (Uint 16) VLAN 0 16 1 ∷
    whole (codes "arp") Proto ARP ∷
    placed (codes "arp.hw.type") (Uint 16) ARP 0 16 1 ∷
    placed (codes "arp.proto.type") (Uint 16) ARP 0 16 1 ∷
    placed (codes "arp.hw.size") (Uint 8) ARP 0 8 1 ∷
    placed (codes "arp.proto.size") (Uint 8) ARP 0 8 1 ∷
    placed (codes "arp.opcode") (Uint 16) ARP 0 16 1 ∷
    placed (codes "arp.src.hw_mac") Ether ARP 0 48 1 ∷
    placed (codes "arp.src.proto_ipv4") Ip4 ARP 0 32 1 ∷
    placed (codes "arp.dst.hw_mac") Ether ARP 0 48 1 ∷
    placed (codes "arp.dst.proto_ipv4") Ip4 ARP 0 32 1 ∷
    whole (codes "arp.src.hw") Bytes ARP ∷
    whole (codes "arp.src.proto") Bytes ARP ∷
    whole (codes "arp.dst.hw") Bytes ARP ∷
    whole (codes "arp.dst.proto") Bytes ARP ∷
    whole (codes "ip") Proto IP ∷
    placed (codes "ip.version") (Uint 4) IP 0 4 1 ∷
    placed (codes "ip.hdr_len") (Uint 8) IP 4 4 4 ∷
    placed (codes "ip.dsfield") (Uint 8) IP 0 8 1 ∷
    placed (codes "ip.dsfield.dscp") (Uint 6) IP 0 6 1 ∷
    placed (codes "ip.dsfield.ecn") (Uint 2) IP 6 2 1 ∷
    placed (codes "ip.len") (Uint 16) IP 0 16 1 ∷
    placed (codes "ip.id") (Uint 16) IP 0 16 1 ∷
    placed (codes "ip.flags.rb") Bool IP 0 1 1 ∷
    placed (codes "ip.flags.df") Bool IP 1 1 1 ∷
    placed (codes "ip.flags.mf") Bool IP 2 1 1 ∷
    placed (codes "ip.frag_offset") (Uint 13) IP 3 13 1 ∷
    placed (codes "ip.ttl") (Uint 8) IP 0 8 1 ∷
    placed (codes "ip.proto") (Uint 8) IP 0 8 1 ∷
    placed (codes "ip.checksum") (Uint 16) IP 0 16 1 ∷
    placed (codes "ip.src") Ip4 IP 0 32 1 ∷
    placed (codes "ip.addr") Ip4 IP 0 32 1 ∷
    placed (codes "ip.dst") Ip4 IP 0 32 1 ∷
    whole (codes "ip.options") Bytes IP ∷
    made (codes "ip.fragment") (Uint 32) IP ∷
    made (codes "ip.reassembled.length") (Uint 32) IP ∷
    made (codes "ip.fragment.error") (Uint 8) IP ∷
    made (codes "ip.reassembled_in") (Uint 32) IP ∷
    whole (codes "ipv6") Proto IPV6 ∷
    placed (codes "ipv6.version") (Uint 4) IPV6 0 4 1 ∷
    placed (codes "ipv6.tclass") (Uint 8) IPV6 4 8 1 ∷
    placed (codes "ipv6.flow") (Uint 20) IPV6 4 20 1 ∷
    placed (codes "ipv6.plen") (Uint 16) IPV6 0 16 1 ∷
    placed (codes "ipv6.nxt") (Uint 8) IPV6 0 8 1 ∷
    placed (codes "ipv6.hlim") (Uint 8) IPV6 0 8 1 ∷
    placed (codes "ipv6.src") Ip6 IPV6 0 128 1 ∷
    placed (codes "ipv6.addr") Ip6 IPV6 0 128 1 ∷
    placed (codes "ipv6.dst") Ip6 IPV6 0 128 1 ∷
    whole (codes "ipv6.hopopts") Proto IPV6_HOPOPTS ∷
    placed (codes "ipv6.hopopts.nxt") (Uint 8) IPV6_HOPOPTS 0 8 1 ∷
    placed (codes "ipv6.hopopts.len") (Uint 8) IPV6_HOPOPTS 0 8 1 ∷
    whole (codes "ipv6.hopopts.options") Bytes IPV6_HOPOPTS ∷
    whole (codes "ipv6.dstopts") Proto IPV6_DSTOPTS ∷
    placed (codes "ipv6.dstopts.nxt") (Uint 8) IPV6_DSTOPTS 0 8 1 ∷
    placed (codes "ipv6.dstopts.len") (Uint 8) IPV6_DSTOPTS 0 8 1 ∷
    whole (codes "ipv6.dstopts.options") Bytes IPV6_DSTOPTS ∷
    whole (codes "ipv6.routing") Proto IPV6_ROUTING ∷
    placed (codes "ipv6.routing.nxt") (Uint 8) IPV6_ROUTING 0 8 1 ∷
    placed (codes "ipv6.routing.len") (Uint 8) IPV6_ROUTING 0 8 1 ∷
    placed (codes "ipv6.routing.type") (Uint 8) IPV6_ROUTING 0 8 1 ∷
    placed (codes "ipv6.routing.segleft") (Uint 8) IPV6_ROUTING 0 8 1 ∷
    whole (codes "ipv6.routing.rest") Bytes IPV6_ROUTING ∷
    whole (codes "ipv6.fraghdr") Proto IPV6_FRAGHDR ∷
    placed (codes "ipv6.fraghdr.nxt") (Uint 8) IPV6_FRAGHDR 0 8 1 ∷
    placed (codes "ipv6.fraghdr.offset") (Uint 13) IPV6_FRAGHDR 0 13 1 ∷
    placed (codes "ipv6.fraghdr.more") Bool IPV6_FRAGHDR 7 1 1 ∷
    placed (codes "ipv6.fraghdr.ident") (Uint 32) IPV6_FRAGHDR 0 32 1 ∷
    made (codes "ipv6.fragment") (Uint 32) IPV6_FRAGHDR ∷
    made (codes "ipv6.reassembled.length") (Uint 32) IPV6_FRAGHDR ∷
    made (codes "ipv6.fragment.error") (Uint 8) IPV6_FRAGHDR ∷
    made (codes "ipv6.reassembled.in") (Uint 32) IPV6_FRAGHDR ∷
    whole (codes "icmp") Proto ICMP ∷
    placed (codes "icmp.type") (Uint 8) ICMP 0 8 1 ∷
    placed (codes "icmp.code") (Uint 8) ICMP 0 8 1 ∷
    placed (codes "icmp.checksum") (Uint 16) ICMP 0 16 1 ∷
    placed (codes "icmp.ident") (Uint 16) ICMP 0 16 1 ∷
    placed (codes "icmp.seq") (Uint 16) ICMP 0 16 1 ∷
    whole (codes "icmp.rest") Bytes ICMP ∷
    whole (codes "icmpv6") Proto ICMPV6 ∷
    placed (codes "icmpv6.type") (Uint 8) ICMPV6 0 8 1 ∷
    placed (codes "icmpv6.code") (Uint 8) ICMPV6 0 8 1 ∷
    placed (codes "icmpv6.checksum") (Uint 16) ICMPV6 0 16 1 ∷
    placed (codes "icmpv6.echo.identifier") (Uint 16) ICMPV6 0 16 1 ∷
    placed (codes "icmpv6.echo.sequence_number") (Uint 16) ICMPV6 0 16 1 ∷
    whole (codes "icmpv6.rest") Bytes ICMPV6 ∷
    whole (codes "udp") Proto UDP ∷
    placed (codes "udp.srcport") (Uint 16) UDP 0 16 1 ∷
    placed (codes "udp.port") (Uint 16) UDP 0 16 1 ∷
    placed (codes "udp.dstport") (Uint 16) UDP 0 16 1 ∷
    placed (codes "udp.length") (Uint 16) UDP 0 16 1 ∷
    placed (codes "udp.checksum") (Uint 16) UDP 0 16 1 ∷
    made (codes "udp.stream") (Uint 32) UDP ∷
    whole (codes "udp.payload") Bytes UDP ∷
    whole (codes "tcp") Proto TCP ∷
    placed (codes "tcp.srcport") (Uint 16) TCP 0 16 1 ∷
    placed (codes "tcp.port") (Uint 16) TCP 0 16 1 ∷
    placed (codes "tcp.dstport") (Uint 16) TCP 0 16 1 ∷
    placed (codes "tcp.seq_raw") (Uint 32) TCP 0 32 1 ∷
    placed (codes "tcp.ack_raw") (Uint 32) TCP 0 32 1 ∷
    placed (codes "tcp.hdr_len") (Uint 8) TCP 0 4 4 ∷
    placed (codes "tcp.flags") (Uint 12) TCP 4 12 1 ∷
    placed (codes "tcp.flags.cwr") Bool TCP 0 1 1 ∷
    placed (codes "tcp.flags.ece") Bool TCP 1 1 1 ∷
    placed (codes "tcp.flags.urg") Bool TCP 2 1 1 ∷
    placed (codes "tcp.flags.ack") Bool TCP 3 1 1 ∷
    placed (codes "tcp.flags.push") Bool TCP 4 1 1 ∷
    placed (codes "tcp.flags.reset") Bool TCP 5 1 1 ∷
    placed (codes "tcp.flags.syn") Bool TCP 6 1 1 ∷
    placed (codes "tcp.flags.fin") Bool TCP 7 1 1 ∷
    placed (codes "tcp.window_size_value") (Uint 16) TCP 0 16 1 ∷
    placed (codes "tcp.checksum") (Uint 16) TCP 0 16 1 ∷
    placed (codes "tcp.urgent_pointer") (Uint 16) TCP 0 16 1 ∷
    whole (codes "tcp.options") Bytes TCP ∷
    placed (codes "tcp.option_kind") (Uint 8) TCP 0 8 1 ∷
    placed (codes "tcp.option_len") (Uint 8) TCP 0 8 1 ∷
    placed (codes "tcp.options.mss_val") (Uint 16) TCP 0 16 1 ∷
    placed (codes "tcp.options.wscale.shift") (Uint 8) TCP 0 8 1 ∷
    whole (codes "tcp.options.sack_perm") Bytes TCP ∷
    placed (codes "tcp.options.sack_le") (Uint 32) TCP 0 32 1 ∷
    placed (codes "tcp.options.sack_re") (Uint 32) TCP 0 32 1 ∷
    placed (codes "tcp.options.timestamp.tsval") (Uint 32) TCP 0 32 1 ∷
    placed (codes "tcp.options.timestamp.tsecr") (Uint 32) TCP 0 32 1 ∷
    whole (codes "tcp.options.bad") Bytes TCP ∷
    made (codes "tcp.stream") (Uint 32) TCP ∷
    made (codes "tcp.seq") (Uint 32) TCP ∷
    made (codes "tcp.ack") (Uint 32) TCP ∷
    made (codes "tcp.len") (Uint 32) TCP ∷
    whole (codes "tcp.payload") Bytes TCP ∷
    made (codes "tcp.segment") (Uint 32) TCP ∷
    made (codes "tcp.reassembled_in") (Uint 32) TCP ∷
    whole (codes "dns") Proto DNS ∷
    placed (codes "dns.length") (Uint 16) DNS 0 16 1 ∷
    placed (codes "dns.id") (Uint 16) DNS 0 16 1 ∷
    placed (codes "dns.flags") (Uint 16) DNS 0 16 1 ∷
    placed (codes "dns.flags.response") Bool DNS 0 1 1 ∷
    placed (codes "dns.flags.opcode") (Uint 4) DNS 1 4 1 ∷
    placed (codes "dns.flags.authoritative") Bool DNS 5 1 1 ∷
    placed (codes "dns.flags.truncated") Bool DNS 6 1 1 ∷
    placed (codes "dns.flags.recdesired") Bool DNS 7 1 1 ∷
    placed (codes "dns.flags.recavail") Bool DNS 0 1 1 ∷
    placed (codes "dns.flags.z") Bool DNS 1 1 1 ∷
    placed (codes "dns.flags.authenticated") Bool DNS 2 1 1 ∷
    placed (codes "dns.flags.checkdisable") Bool DNS 3 1 1 ∷
    placed (codes "dns.flags.rcode") (Uint 4) DNS 4 4 1 ∷
    placed (codes "dns.count.queries") (Uint 16) DNS 0 16 1 ∷
    placed (codes "dns.count.answers") (Uint 16) DNS 0 16 1 ∷
    placed (codes "dns.count.auth_rr") (Uint 16) DNS 0 16 1 ∷
    placed (codes "dns.count.add_rr") (Uint 16) DNS 0 16 1 ∷
    derived (codes "dns.qry.name") Text DNS ∷
    placed (codes "dns.qry.type") (Uint 16) DNS 0 16 1 ∷
    placed (codes "dns.qry.class") (Uint 16) DNS 0 16 1 ∷
    derived (codes "dns.resp.name") Text DNS ∷
    placed (codes "dns.resp.type") (Uint 16) DNS 0 16 1 ∷
    placed (codes "dns.resp.class") (Uint 16) DNS 0 16 1 ∷
    placed (codes "dns.resp.ttl") (Uint 32) DNS 0 32 1 ∷
    placed (codes "dns.resp.len") (Uint 16) DNS 0 16 1 ∷
    placed (codes "dns.a") Ip4 DNS 0 32 1 ∷
    placed (codes "dns.aaaa") Ip6 DNS 0 128 1 ∷
    derived (codes "dns.ns") Text DNS ∷
    derived (codes "dns.cname") Text DNS ∷
    derived (codes "dns.ptr.domain_name") Text DNS ∷
    placed (codes "dns.mx.preference") (Uint 16) DNS 0 16 1 ∷
    derived (codes "dns.mx.mail_exchange") Text DNS ∷
    derived (codes "dns.soa.mname") Text DNS ∷
    derived (codes "dns.soa.rname") Text DNS ∷
    placed (codes "dns.soa.serial_number") (Uint 32) DNS 0 32 1 ∷
    placed (codes "dns.soa.refresh_interval") (Uint 32) DNS 0 32 1 ∷
    placed (codes "dns.soa.retry_interval") (Uint 32) DNS 0 32 1 ∷
    placed (codes "dns.soa.expire_limit") (Uint 32) DNS 0 32 1 ∷
    placed (codes "dns.soa.minimum_ttl") (Uint 32) DNS 0 32 1 ∷
    whole (codes "dns.txt") Text DNS ∷
    whole (codes "dns.data") Bytes DNS ∷
    made (codes "dns.response_to") (Uint 32) DNS ∷
    made (codes "dns.response_in") (Uint 32) DNS ∷
    whole (codes "dhcp") Proto DHCP ∷
    placed (codes "dhcp.type") (Uint 8) DHCP 0 8 1 ∷
    placed (codes "dhcp.hw.type") (Uint 8) DHCP 0 8 1 ∷
    placed (codes "dhcp.hw.len") (Uint 8) DHCP 0 8 1 ∷
    placed (codes "dhcp.hops") (Uint 8) DHCP 0 8 1 ∷
    placed (codes "dhcp.id") (Uint 32) DHCP 0 32 1 ∷
    placed (codes "dhcp.secs") (Uint 16) DHCP 0 16 1 ∷
    placed (codes "dhcp.flags") (Uint 16) DHCP 0 16 1 ∷
    placed (codes "dhcp.flags.bc") Bool DHCP 0 1 1 ∷
    placed (codes "dhcp.ip.client") Ip4 DHCP 0 32 1 ∷
    placed (codes "dhcp.ip.your") Ip4 DHCP 0 32 1 ∷
    placed (codes "dhcp.ip.server") Ip4 DHCP 0 32 1 ∷
    placed (codes "dhcp.ip.relay") Ip4 DHCP 0 32 1 ∷
    placed (codes "dhcp.hw.mac_addr") Ether DHCP 0 48 1 ∷
    whole (codes "dhcp.hw.addr") Bytes DHCP ∷
    whole (codes "dhcp.server") Text DHCP ∷
    whole (codes "dhcp.file") Text DHCP ∷
    placed (codes "dhcp.cookie") (Uint 32) DHCP 0 32 1 ∷
    placed (codes "dhcp.option.type") (Uint 8) DHCP 0 8 1 ∷
    placed (codes "dhcp.option.length") (Uint 8) DHCP 0 8 1 ∷
    whole (codes "dhcp.option.value") Bytes DHCP ∷
    placed (codes "dhcp.option.subnet_mask") Ip4 DHCP 0 32 1 ∷
    placed (codes "dhcp.option.router") Ip4 DHCP 0 32 1 ∷
    placed (codes "dhcp.option.domain_name_server") Ip4 DHCP 0 32 1 ∷
    whole (codes "dhcp.option.hostname") Text DHCP ∷
    placed (codes "dhcp.option.requested_ip_address") Ip4 DHCP 0 32 1 ∷
    placed (codes "dhcp.option.ip_address_lease_time") (Uint 32) DHCP 0 32 1 ∷
    placed (codes "dhcp.option.dhcp") (Uint 8) DHCP 0 8 1 ∷
    placed (codes "dhcp.option.dhcp_server_id") Ip4 DHCP 0 32 1 ∷
    whole (codes "http") Proto HTTP ∷
    made (codes "http.request") Bool HTTP ∷
    whole (codes "http.request.method") Text HTTP ∷
    whole (codes "http.request.uri") Text HTTP ∷
    made (codes "http.request.version") Text HTTP ∷
    made (codes "http.response") Bool HTTP ∷
    made (codes "http.response.version") Text HTTP ∷
    made (codes "http.response.code") (Uint 16) HTTP ∷
    whole (codes "http.response.phrase") Text HTTP ∷
    whole (codes "http.header.name") Text HTTP ∷
    whole (codes "http.header.value") Text HTTP ∷
    whole (codes "http.host") Text HTTP ∷
    whole (codes "http.user_agent") Text HTTP ∷
    whole (codes "http.content_type") Text HTTP ∷
    whole (codes "http.content_length_header") Text HTTP ∷
    whole (codes "http.transfer_encoding") Text HTTP ∷
    whole (codes "http.content_encoding") Text HTTP ∷
    whole (codes "http.server") Text HTTP ∷
    whole (codes "http.location") Text HTTP ∷
    whole (codes "http.connection") Text HTTP ∷
    whole (codes "http.cookie") Text HTTP ∷
    whole (codes "http.set_cookie") Text HTTP ∷
    whole (codes "http.referer") Text HTTP ∷
    whole (codes "http.accept") Text HTTP ∷
    whole (codes "http.date") Text HTTP ∷
    whole (codes "http.file_data") Bytes HTTP ∷
    made (codes "http.request_in") (Uint 32) HTTP ∷
    made (codes "http.response_in") (Uint 32) HTTP ∷
    whole (codes "data") Proto DATA ∷
    whole (codes "data.data") Bytes DATA ∷
    made (codes "data.len") (Uint 32) DATA ∷
    whole (codes "_ws.short") Proto WS_SHORT ∷
    whole (codes "_ws.malformed") Proto WS_MALFORMED ∷
    made (codes "tcp.lost") (Uint 32) TCP ∷
    whole (codes "nd") Proto ND ∷
    whole (codes "nd.reserved") Bytes ND ∷
    placed (codes "nd.ra.hop_limit") (Uint 8) ND 0 8 1 ∷
    placed (codes "nd.ra.managed") Bool ND 0 1 1 ∷
    placed (codes "nd.ra.other") Bool ND 1 1 1 ∷
    placed (codes "nd.ra.lifetime") (Uint 16) ND 0 16 1 ∷
    placed (codes "nd.ra.reachable") (Uint 32) ND 0 32 1 ∷
    placed (codes "nd.ra.retrans") (Uint 32) ND 0 32 1 ∷
    placed (codes "nd.target") Ip6 ND 0 128 1 ∷
    placed (codes "nd.na.router") Bool ND 0 1 1 ∷
    placed (codes "nd.na.solicited") Bool ND 1 1 1 ∷
    placed (codes "nd.na.override") Bool ND 2 1 1 ∷
    placed (codes "nd.destination") Ip6 ND 0 128 1 ∷
    placed (codes "nd.opt.type") (Uint 8) ND 0 8 1 ∷
    placed (codes "nd.opt.len") (Uint 8) ND 0 8 1 ∷
    whole (codes "nd.opt.value") Bytes ND ∷
    placed (codes "nd.opt.lladdr") Ether ND 0 48 1 ∷
    placed (codes "nd.opt.prefix_len") (Uint 8) ND 0 8 1 ∷
    placed (codes "nd.opt.prefix_onlink") Bool ND 0 1 1 ∷
    placed (codes "nd.opt.prefix_auto") Bool ND 1 1 1 ∷
    placed (codes "nd.opt.prefix_valid") (Uint 32) ND 0 32 1 ∷
    placed (codes "nd.opt.prefix_preferred") (Uint 32) ND 0 32 1 ∷
    placed (codes "nd.opt.prefix") Ip6 ND 0 128 1 ∷
    placed (codes "nd.opt.mtu") (Uint 32) ND 0 32 1 ∷
    whole (codes "igmp") Proto IGMP ∷
    placed (codes "igmp.type") (Uint 8) IGMP 0 8 1 ∷
    placed (codes "igmp.max_resp") (Uint 8) IGMP 0 8 1 ∷
    placed (codes "igmp.checksum") (Uint 16) IGMP 0 16 1 ∷
    placed (codes "igmp.maddr") Ip4 IGMP 0 32 1 ∷
    whole (codes "ntp") Proto NTP ∷
    placed (codes "ntp.flags.li") (Uint 2) NTP 0 2 1 ∷
    placed (codes "ntp.flags.vn") (Uint 3) NTP 2 3 1 ∷
    placed (codes "ntp.flags.mode") (Uint 3) NTP 5 3 1 ∷
    placed (codes "ntp.stratum") (Uint 8) NTP 0 8 1 ∷
    placed (codes "ntp.ppoll") (Uint 8) NTP 0 8 1 ∷
    placed (codes "ntp.precision") (Uint 8) NTP 0 8 1 ∷
    placed (codes "ntp.rootdelay") (Uint 32) NTP 0 32 1 ∷
    placed (codes "ntp.rootdispersion") (Uint 32) NTP 0 32 1 ∷
    whole (codes "ntp.refid") Bytes NTP ∷
    whole (codes "ntp.reftime") Bytes NTP ∷
    whole (codes "ntp.org") Bytes NTP ∷
    whole (codes "ntp.rec") Bytes NTP ∷
    whole (codes "ntp.xmt") Bytes NTP ∷
    whole (codes "mdns") Proto MDNS ∷
    placed (codes "mdns.id") (Uint 16) MDNS 0 16 1 ∷
    placed (codes "mdns.flags") (Uint 16) MDNS 0 16 1 ∷
    placed (codes "mdns.flags.response") Bool MDNS 0 1 1 ∷
    placed (codes "mdns.flags.opcode") (Uint 4) MDNS 1 4 1 ∷
    placed (codes "mdns.flags.authoritative") Bool MDNS 5 1 1 ∷
    placed (codes "mdns.flags.truncated") Bool MDNS 6 1 1 ∷
    placed (codes "mdns.flags.recdesired") Bool MDNS 7 1 1 ∷
    placed (codes "mdns.flags.recavail") Bool MDNS 0 1 1 ∷
    placed (codes "mdns.flags.z") Bool MDNS 1 1 1 ∷
    placed (codes "mdns.flags.authenticated") Bool MDNS 2 1 1 ∷
    placed (codes "mdns.flags.checkdisable") Bool MDNS 3 1 1 ∷
    placed (codes "mdns.flags.rcode") (Uint 4) MDNS 4 4 1 ∷
    placed (codes "mdns.count.queries") (Uint 16) MDNS 0 16 1 ∷
    placed (codes "mdns.count.answers") (Uint 16) MDNS 0 16 1 ∷
    placed (codes "mdns.count.auth_rr") (Uint 16) MDNS 0 16 1 ∷
    placed (codes "mdns.count.add_rr") (Uint 16) MDNS 0 16 1 ∷
    derived (codes "mdns.qry.name") Text MDNS ∷
    placed (codes "mdns.qry.type") (Uint 16) MDNS 0 16 1 ∷
    placed (codes "mdns.qry.qu") Bool MDNS 0 1 1 ∷
    placed (codes "mdns.qry.class") (Uint 15) MDNS 1 15 1 ∷
    derived (codes "mdns.resp.name") Text MDNS ∷
    placed (codes "mdns.resp.type") (Uint 16) MDNS 0 16 1 ∷
    placed (codes "mdns.resp.cache_flush") Bool MDNS 0 1 1 ∷
    placed (codes "mdns.resp.class") (Uint 15) MDNS 1 15 1 ∷
    placed (codes "mdns.resp.ttl") (Uint 32) MDNS 0 32 1 ∷
    placed (codes "mdns.resp.len") (Uint 16) MDNS 0 16 1 ∷
    placed (codes "mdns.a") Ip4 MDNS 0 32 1 ∷
    placed (codes "mdns.aaaa") Ip6 MDNS 0 128 1 ∷
    derived (codes "mdns.ns") Text MDNS ∷
    derived (codes "mdns.cname") Text MDNS ∷
    derived (codes "mdns.ptr.domain_name") Text MDNS ∷
    placed (codes "mdns.mx.preference") (Uint 16) MDNS 0 16 1 ∷
    derived (codes "mdns.mx.mail_exchange") Text MDNS ∷
    derived (codes "mdns.soa.mname") Text MDNS ∷
    derived (codes "mdns.soa.rname") Text MDNS ∷
    placed (codes "mdns.soa.serial_number") (Uint 32) MDNS 0 32 1 ∷
    placed (codes "mdns.soa.refresh_interval") (Uint 32) MDNS 0 32 1 ∷
    placed (codes "mdns.soa.retry_interval") (Uint 32) MDNS 0 32 1 ∷
    placed (codes "mdns.soa.expire_limit") (Uint 32) MDNS 0 32 1 ∷
    placed (codes "mdns.soa.minimum_ttl") (Uint 32) MDNS 0 32 1 ∷
    placed (codes "mdns.srv.priority") (Uint 16) MDNS 0 16 1 ∷
    placed (codes "mdns.srv.weight") (Uint 16) MDNS 0 16 1 ∷
    placed (codes "mdns.srv.port") (Uint 16) MDNS 0 16 1 ∷
    derived (codes "mdns.srv.target") Text MDNS ∷
    whole (codes "mdns.txt") Text MDNS ∷
    whole (codes "mdns.data") Bytes MDNS ∷
    []
