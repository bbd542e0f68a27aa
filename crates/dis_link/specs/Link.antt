-- The first header of a frame, by the link type of its capture (the LINKTYPE registry of tcpdump.org).
use Rattle.std.specs.Prelude.{◌==◌, ℕ, Bool, List, if◌then◌else◌}
use Rattle.pk_base.specs.declared.span.Span.{Span}
use Rattle.pk_tree.specs.Buffers.{bytes_of}
use Rattle.pk_fields.specs.Ids.{ETH, NULL, SLL, SLL2}
use Rattle.pk_base.specs.declared.heads.After.{After}
use Rattle.pk_base.specs.declared.heads.Mode.TheVariants.{Plain}
use Rattle.pk_base.specs.declared.heads.Next.{Next}
use Rattle.pk_base.specs.declared.heads.Next.TheVariants as nexts
use Rattle.pk_tree.specs.Layouts.{layer_read, peeked}
use Rattle.pk_tree.specs.Trees.{TreeShown}
use Rattle.dis_link.specs.declared.link.Link.{Link}
use Rattle.dis_link.specs.declared.link.Link.TheVariants.{Null, Ethernet, Raw, LinuxCooked, LinuxCooked2, Unknown}
use Rattle.dis_link.specs.Ethernet.{eth_layout, eth_span, eth_after}
use Rattle.pk_tree.specs.Following.{carried}
use Rattle.dis_link.specs.LinuxCooked.{sll_layout, sll_after, sll2_layout, sll2_after}
use Rattle.dis_link.specs.Null.{null_layout, null_after}

-- LINKTYPE_NULL, LINKTYPE_ETHERNET, LINKTYPE_RAW, LINKTYPE_LINUX_SLL and LINKTYPE_LINUX_SLL2
abbrev pub link_of : ℕ → Link
link_of number =
    if number == 0 then Null
    else (if number == 1 then Ethernet
    else (if number == 101 then Raw
    else (if number == 113 then LinuxCooked
    else (if number == 276 then LinuxCooked2 else Unknown))))

-- an IP header begins with its version (RFC 791, 3.1; RFC 8200, 3)
abbrev pub next_of_version : ℕ → Next
next_of_version version =
    if version == 4 then nexts.Ip4 else (if version == 6 then nexts.Ip6 else nexts.Rest)

-- the tree with the header's layer; raw IP and unknown link types have none
unfoldable pub link_read : Link → Bool → TreeShown → Span → Bool → TreeShown
link_read Null little t span cut =
    layer_read t NULL span (null_layout little (bytes_of t.buffers span)) Plain cut
link_read Ethernet little t span cut =
    layer_read t ETH (eth_span span (bytes_of t.buffers span))
    (eth_layout (bytes_of t.buffers span)) Plain cut
link_read Raw little t span cut = t
link_read LinuxCooked little t span cut =
    layer_read t SLL span (sll_layout (bytes_of t.buffers span)) Plain cut
link_read LinuxCooked2 little t span cut =
    layer_read t SLL2 span (sll2_layout (bytes_of t.buffers span)) Plain cut
link_read Unknown little t span cut = t

-- what follows it
unfoldable pub link_after : Link → Bool → Span → List ℕ → After
link_after Null little span bytes = null_after little span bytes
link_after Ethernet little span bytes = eth_after span bytes
link_after Raw little span bytes = carried (next_of_version (peeked bytes 0 4)) span 0
link_after LinuxCooked little span bytes = sll_after span bytes
link_after LinuxCooked2 little span bytes = sll2_after span bytes
link_after Unknown little span bytes = carried nexts.Rest span 0

-- the protocol of the tree's last layer behind a whole header, by the one before
abbrev pub last_behind : Link → ℕ → ℕ
last_behind Null before = NULL
last_behind Ethernet before = ETH
last_behind Raw before = before
last_behind LinuxCooked before = SLL
last_behind LinuxCooked2 before = SLL2
last_behind Unknown before = before
