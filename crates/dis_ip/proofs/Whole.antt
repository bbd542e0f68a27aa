-- Layouts of headers fit their protocol, and are read whole where all their bytes are there.
use Rattle.std.proofs.Common.{rules, ◌≡◌, ◌≤◌, ◌||◌, ℕ, Bool, true, false, List, nat_lt, refl}
use Rattle.pk_base.specs.declared.span.Span.{Span}
use Rattle.pk_base.specs.declared.heads.After.TheVariants.{Packet}
use Rattle.pk_base.specs.declared.heads.Mode.TheVariants.{Plain}
use Rattle.pk_base.specs.declared.heads.Next.{Next}
use Rattle.pk_tree.specs.Following.{behind}
use Rattle.pk_fields.specs.Fields.{row_of}
use Rattle.pk_fields.specs.Ids.{IP, IPV6, IPV6_HOPOPTS, IPV6_ROUTING, IPV6_FRAGHDR, IPV6_DSTOPTS}
use Rattle.pk_fields.specs.Table.{rows}
use Rattle.pk_tree.specs.Layouts.{reach, step_reach, StepsFit}
use Rattle.pk_tree.specs.declared.layout.Reach.TheVariants.{All}
use Rattle.dis_ip.specs.Extensions.{extension_layout, extension_proto}
use Rattle.dis_ip.specs.FragmentHeader.{fragment_layout}
use Rattle.dis_ip.specs.Fragments.{part_after}
use Rattle.dis_ip.specs.Ip4.{ip4_layout, ip4_after, ip4_header, ip4_is_read, ip4_more, ip4_offset, ip4_packet, ip4_protocol, ip4_span}
use Rattle.dis_ip.specs.Protocols.{ends_chain, next_of_protocol}
use Rattle.dis_ip.specs.Ip6.{ip6_after, ip6_is_read, ip6_layout, ip6_next, ip6_packet, ip6_span}
use Rattle.dis_ip.specs.Options.{header_size, hop_options_layout, target_options_layout}
use Rattle.dis_ip.specs.Routing.{routing_layout}
use Rattle.dis_ip.specs.Sized.{next_of}
use Rattle.dis_ip.specs.declared.sized.Sized.{Sized}
use Rattle.dis_ip.specs.declared.sized.Sized.TheVariants.{HopOptions, Routing, TargetOptions}

pub ip4_fits : (bytes : List ℕ) → StepsFit IP (ip4_layout bytes)
unfolding ip4_layout StepsFit row_of rows
ip4_fits bytes = search rules

-- what a whole packet carries that is no fragment
pub ip4_carries : (cut : Bool) (span : Span) (bytes : List ℕ) (next : Next) → ip4_is_read span bytes ≡ true → (ip4_more bytes || nat_lt 0 (ip4_offset bytes)) ≡ false
    → ends_chain (ip4_protocol bytes) ≡ false → next_of_protocol false (ip4_protocol bytes) ≡ next → nat_lt (ip4_header bytes) (ip4_span span bytes).len ≡ true
    → ip4_after Plain cut span bytes ≡ Packet next (behind (ip4_span span bytes) (ip4_header bytes)) (ip4_packet cut span bytes)
unfolding ip4_after part_after
ip4_carries cut span bytes next read part on is some = rw (read, part, on, is, some) refl

-- what a whole packet of version 6 carries
pub ip6_carries : (cut : Bool) (span : Span) (bytes : List ℕ) (next : Next) → ip6_is_read span bytes ≡ true
    → ends_chain (ip6_next bytes) ≡ false → next_of_protocol true (ip6_next bytes) ≡ next → nat_lt 40 (ip6_span span bytes).len ≡ true
    → ip6_after cut span bytes ≡ Packet next (behind (ip6_span span bytes) 40) (ip6_packet cut span bytes)
unfolding ip6_after
ip6_carries cut span bytes next read on is some = rw (read, on, is, some) refl

pub ip6_fits : (bytes : List ℕ) → StepsFit IPV6 (ip6_layout bytes)
unfolding ip6_layout StepsFit row_of rows
ip6_fits bytes = search rules

pub hop_options_fits : (bytes : List ℕ) → StepsFit IPV6_HOPOPTS (hop_options_layout bytes)
unfolding hop_options_layout StepsFit row_of rows
hop_options_fits bytes = search rules

pub hop_options_whole : (bytes : List ℕ) (end : ℕ) → header_size bytes ≤ end → reach end (hop_options_layout bytes) ≡ All
unfolding hop_options_layout reach step_reach row_of rows
hop_options_whole bytes end all = search rules

pub target_options_fits : (bytes : List ℕ) → StepsFit IPV6_DSTOPTS (target_options_layout bytes)
unfolding target_options_layout StepsFit row_of rows
target_options_fits bytes = search rules

pub target_options_whole : (bytes : List ℕ) (end : ℕ) → header_size bytes ≤ end → reach end (target_options_layout bytes) ≡ All
unfolding target_options_layout reach step_reach row_of rows
target_options_whole bytes end all = search rules

pub routing_fits : (bytes : List ℕ) → StepsFit IPV6_ROUTING (routing_layout bytes)
unfolding routing_layout StepsFit row_of rows
routing_fits bytes = search rules

pub routing_whole : (bytes : List ℕ) (end : ℕ) → header_size bytes ≤ end → reach end (routing_layout bytes) ≡ All
unfolding routing_layout reach step_reach row_of rows
routing_whole bytes end all = search rules

pub sized_fits : (which : Sized) (bytes : List ℕ) → StepsFit (extension_proto (next_of which)) (extension_layout (next_of which) bytes)
unfolding extension_layout
sized_fits HopOptions bytes = hop_options_fits bytes
sized_fits Routing bytes = routing_fits bytes
sized_fits TargetOptions bytes = target_options_fits bytes

pub sized_whole : (which : Sized) (bytes : List ℕ) (end : ℕ) → header_size bytes ≤ end → reach end (extension_layout (next_of which) bytes) ≡ All
unfolding extension_layout
sized_whole HopOptions bytes end all = hop_options_whole bytes end all
sized_whole Routing bytes end all = routing_whole bytes end all
sized_whole TargetOptions bytes end all = target_options_whole bytes end all

pub fragment_fits : StepsFit IPV6_FRAGHDR fragment_layout
unfolding fragment_layout StepsFit row_of rows
fragment_fits = search rules

pub fragment_whole : (end : ℕ) → 8 ≤ end → reach end fragment_layout ≡ All
unfolding fragment_layout reach step_reach row_of rows
fragment_whole end all = search rules
