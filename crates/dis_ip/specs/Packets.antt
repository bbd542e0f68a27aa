-- What an IP header of either version says of its packet.
use Rattle.std.specs.Prelude.{ℕ, Bool, not, nat_le, Option, Some, None}
use Rattle.pk_base.specs.declared.span.Span.{Span}
use Rattle.pk_base.specs.declared.heads.After.{After}
use Rattle.pk_base.specs.declared.heads.After.TheVariants as afters
use Rattle.pk_base.specs.declared.heads.PacketHead.{PacketHead}
use Rattle.pk_tree.specs.Following.{first_of}

-- a packet of so many bytes ends there, where the bytes don't end before; without a length it has all that are left
abbrev pub packet_span : Span → Option ℕ → Span
packet_span span None = span
packet_span span (Some size) = first_of span size

-- every byte that the length names is there; without a length, the frame wasn't cut
abbrev pub is_whole : Bool → Span → Option ℕ → Bool
is_whole cut span None = not cut
is_whole cut span (Some size) = nat_le size span.len

-- what follows, with what the IP header says of its packet
abbrev pub in_packet : PacketHead → After → After
in_packet packet (afters.Next next span) = afters.Packet next span packet
in_packet packet after = after
