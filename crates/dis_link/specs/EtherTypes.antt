-- The two bytes that say what an Ethernet frame, a VLAN tag or a cooked header carries.
use Rattle.std.specs.Prelude.{◌==◌, ℕ, ◌+◌, Bool, ◌||◌, nat_le, if◌then◌else◌}
use Rattle.pk_base.specs.declared.span.Span.{Span}
use Rattle.pk_base.specs.declared.heads.Next.{Next}
use Rattle.pk_base.specs.declared.heads.Next.TheVariants.{Ip4, Ip6, Arp, Vlan, Rest}
use Rattle.pk_tree.specs.Following.{first_of}

-- IEEE 802.3, 3.2.6: a number of at most 1,500 is the length of what follows, a larger one its type
abbrev pub is_length : ℕ → Bool
is_length number = nat_le number 1500

-- a layer's span by the length or type that ends its header: a length ends the layer, where the bytes don't end before;
-- what is behind that is padding
unfoldable pub ended : Span → ℕ → ℕ → Span
ended span header number = if is_length number then first_of span (header + number) else span

-- a customer's tag, 0x8100, or a service tag, 0x88A8 (IEEE 802.1Q, table 9-1)
abbrev pub is_tag : ℕ → Bool
is_tag number = number == 33024 || number == 34984

-- the protocol of a type: IPv4 is 0x0800 and ARP 0x0806 (RFC 894, RFC 826), IPv6 0x86DD (RFC 2464, 3)
abbrev pub next_of_type : ℕ → Next
next_of_type number =
    if number == 2048 then Ip4
    else (if number == 2054 then Arp
    else (if number == 34525 then Ip6 else (if is_tag number then Vlan else Rest)))
