-- The extension headers of IPv6 (RFC 8200, 4).
use Rattle.std.specs.Prelude.{ℕ, Bool, true, false, List, []}
use Rattle.pk_base.specs.declared.span.Span.{Span}
use Rattle.pk_fields.specs.Ids.{IPV6_HOPOPTS, IPV6_DSTOPTS, IPV6_ROUTING, IPV6_FRAGHDR}
use Rattle.pk_base.specs.declared.heads.After.{After}
use Rattle.pk_base.specs.declared.heads.After.TheVariants.{End}
use Rattle.pk_base.specs.declared.heads.Mode.{Mode}
use Rattle.pk_base.specs.declared.heads.Next.{Next}
use Rattle.pk_base.specs.declared.heads.Next.TheVariants.{HopOpts, Routing, DstOpts, FragHdr}
use Rattle.pk_base.specs.declared.heads.PacketHead.{PacketHead}
use Rattle.pk_tree.specs.declared.layout.Step.{Step}
use Rattle.dis_ip.specs.FragmentHeader.{fragment_layout, fragment_after}
use Rattle.dis_ip.specs.Options.{hop_options_layout, target_options_layout, sized_after}
use Rattle.dis_ip.specs.Routing.{routing_layout}

abbrev pub is_extension : Next → Bool
is_extension HopOpts = true
is_extension Routing = true
is_extension DstOpts = true
is_extension FragHdr = true
is_extension next = false

abbrev pub extension_proto : Next → ℕ
extension_proto HopOpts = IPV6_HOPOPTS
extension_proto Routing = IPV6_ROUTING
extension_proto DstOpts = IPV6_DSTOPTS
extension_proto FragHdr = IPV6_FRAGHDR
extension_proto next = 0

unfoldable pub extension_layout : Next → List ℕ → List Step
extension_layout HopOpts bytes = hop_options_layout bytes
extension_layout Routing bytes = routing_layout bytes
extension_layout DstOpts bytes = target_options_layout bytes
extension_layout FragHdr bytes = fragment_layout
extension_layout next bytes = []

-- only a fragment header asks what the IP header says of its packet
unfoldable pub extension_after : Next → PacketHead → Mode → Span → List ℕ → After
extension_after HopOpts packet mode span bytes = sized_after span bytes
extension_after Routing packet mode span bytes = sized_after span bytes
extension_after DstOpts packet mode span bytes = sized_after span bytes
extension_after FragHdr packet mode span bytes = fragment_after mode packet span bytes
extension_after next packet mode span bytes = End
