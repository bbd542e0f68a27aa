-- Which fragments are of one datagram: IPv4 fragments with the same source, destination, protocol and identification
-- (RFC 791, 3.2), and IPv6 fragments with the same source, destination and identification (RFC 8200, 4.5).
use Rattle.std.specs.Prelude.{◌==◌, ◌&&◌, ◌||◌, Bool, false}
use Rattle.std.specs.Bool.{beq}
use Rattle.pk_base.specs.declared.heads.Address.{Address}
use Rattle.pk_base.specs.declared.heads.Address.TheVariants.{Four, Six}
use Rattle.pk_base.specs.declared.heads.FragmentHead.{FragmentHead}

abbrev pub same_address : Address → Address → Bool
same_address (Four a) (Four b) = a == b
same_address (Four a) (Six b) = false
same_address (Six a) (Four b) = false
same_address (Six a) (Six b) = a == b

abbrev pub same_key : FragmentHead → FragmentHead → Bool
same_key f g =
    beq f.six g.six && (same_address f.source g.source
    && (same_address f.target g.target
    && ((f.six || (f.next == g.next)) && (f.ident == g.ident))))
