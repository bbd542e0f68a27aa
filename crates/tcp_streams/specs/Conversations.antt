-- Conversations: the segments between the same two endpoints, whichever of them sends (RFC 9293, 3.3.1).
use Rattle.std.specs.Prelude.{◌==◌, ◌^◌, ℕ, Bool, true, false, not, ◌&&◌, nat_lt, nat_le, if◌then◌else◌, Option, None, Some}
use Rattle.pk_base.specs.declared.heads.Address.{Address}
use Rattle.pk_base.specs.declared.heads.Address.TheVariants.{Four, Six}
use Rattle.pk_base.specs.declared.heads.Endpoint.{Endpoint}
use Rattle.std.specs.BTreeMap as tree
use Rattle.tcp_streams.specs.declared.ends.End.{End}
use Rattle.tcp_streams.specs.declared.ends.Ends.{Ends}
use Rattle.tcp_streams.specs.declared.ends.FourEnds.{FourEnds}
use Rattle.tcp_streams.specs.declared.newest.Newest.{Newest}
use Rattle.tcp_streams.specs.declared.segment.Segment.{Segment}
use Rattle.tcp_streams.specs.KeyOrder.{four_cmp, ends_cmp}

abbrev pub end_at : Address → ℕ → End
end_at (Four address) port = record { six = false; address = address; port = port }
end_at (Six address) port = record { six = true; address = address; port = port }

abbrev pub end_of_endpoint : Endpoint → End
end_of_endpoint endpoint = end_at endpoint.address endpoint.port

abbrev pub same_bool : Bool → Bool → Bool
same_bool true other = other
same_bool false other = not other

abbrev pub same_end : End → End → Bool
same_end one other = same_bool one.six other.six && (one.address == other.address && one.port == other.port)

-- ends in an order: IPv4 before IPv6, then by address, then by port
abbrev pub comes_first : End → End → Bool
comes_first one other =
    if same_bool one.six other.six then (if one.address == other.address then nat_le one.port other.port else nat_lt one.address other.address) else other.six

-- what both directions of a conversation have in common: its two ends, in their order
unfoldable pub ends_between : End → End → Ends
ends_between source target =
    if comes_first source target then record { lesser = source; greater = target } else record { lesser = target; greater = source }

abbrev pub same_ends : Ends → Ends → Bool
same_ends one other = same_end one.lesser other.lesser && same_end one.greater other.greater

-- the key of a segment's conversation
abbrev pub ends_of : Segment → Ends
ends_of s = ends_between (end_of_endpoint s.from) (end_of_endpoint s.to)

-- an address of IPv4
abbrev pub narrow : End → Option ℕ
narrow end = if end.six then None else (if nat_lt end.address (2 ^ 32) then Some end.address else None)

abbrev pub four_at : Option ℕ → Option ℕ → ℕ → ℕ → Option FourEnds
four_at None greater lesser_port greater_port = None
four_at (Some lesser) None lesser_port greater_port = None
four_at (Some lesser) (Some greater) lesser_port greater_port =
    Some (record { lesser = lesser; greater = greater; lesser_port = lesser_port; greater_port = greater_port })

-- the ends of a conversation, if both are of IPv4
abbrev pub four_of : Ends → Option FourEnds
four_of ends = four_at (narrow ends.lesser) (narrow ends.greater) ends.lesser.port ends.greater.port

abbrev pub number_at : Newest → Option FourEnds → Ends → Option ℕ
number_at newest None ends = tree.get ends_cmp newest.others ends
number_at newest (Some four) ends = tree.get four_cmp newest.four four

-- the number of a conversation's newest stream, as it is kept
abbrev pub number_of : Newest → Ends → Option ℕ
number_of newest ends = number_at newest (four_of ends) ends
