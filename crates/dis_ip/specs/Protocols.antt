-- What an IPv4 header's protocol number and an IPv6 header's next header number lead to (IANA's "Protocol Numbers").
use Rattle.std.specs.Prelude.{◌==◌, ℕ, Bool, if◌then◌else◌}
use Rattle.pk_base.specs.declared.span.Span.{Span}
use Rattle.pk_base.specs.declared.heads.After.{After}
use Rattle.pk_base.specs.declared.heads.After.TheVariants.{End}
use Rattle.pk_base.specs.declared.heads.Next.{Next}
use Rattle.pk_base.specs.declared.heads.Next.TheVariants.{Ip4, Ip6, Icmp, Icmp6, Udp, Tcp, HopOpts, Routing, DstOpts, FragHdr, Igmp, Rest}
use Rattle.pk_tree.specs.Following.{carried}

-- numbers that mean a protocol under IPv4 alone: 1 ICMP (RFC 792) and 2 IGMP (RFC 2236)
abbrev pub next_under_ip4 : ℕ → Next
next_under_ip4 number = if number == 1 then Icmp else (if number == 2 then Igmp else Rest)

-- and under IPv6 alone: 58 ICMPv6 (RFC 4443, 2.1), and the extension headers 0, 43, 44 and 60 (RFC 8200, 4)
abbrev pub next_under_ip6 : ℕ → Next
next_under_ip6 number =
    if number == 58 then Icmp6
    else (if number == 0 then HopOpts
    else (if number == 43 then Routing
    else (if number == 44 then FragHdr else (if number == 60 then DstOpts else Rest))))

-- under both: 4 IPv4 (RFC 2003, 3.1), 41 IPv6 (RFC 2473, 3), 6 TCP (RFC 9293) and 17 UDP (RFC 768); `six` says which version
unfoldable pub next_of_protocol : Bool → ℕ → Next
next_of_protocol six number =
    if number == 4 then Ip4 else (if number == 41 then Ip6
    else (if number == 6 then Tcp
    else (if number == 17 then Udp
    else (if six then next_under_ip6 number else next_under_ip4 number))))

-- 59 says that no header follows, and bytes behind it are passed over (RFC 8200, 4.7); so under IPv4 too
abbrev pub ends_chain : ℕ → Bool
ends_chain number = number == 59

-- what follows a header of so many bytes that names this number
abbrev pub carried_by : Bool → ℕ → Span → ℕ → After
carried_by six number span header =
    if ends_chain number then End else carried (next_of_protocol six number) span header
