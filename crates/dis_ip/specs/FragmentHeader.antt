-- The fragment header (RFC 8200, 4.5).
--
--     0                   1                   2                   3
--     0 1 2 3 4 5 6 7 8 9 0 1 2 3 4 5 6 7 8 9 0 1 2 3 4 5 6 7 8 9 0 1
--    +---------------+---------------+-------------------------+---+-+
--    |  next header  |   reserved    |     fragment offset     | 0 |M|
--    +---------------+---------------+-------------------------+---+-+
--    |                        identification                         |
--    +---------------------------------------------------------------+
use Rattle.std.specs.Prelude.{◌==◌, ℕ, ◌*◌, Bool, true, nat_le, if◌then◌else◌, List, [], ◌∷◌}
use Rattle.pk_base.specs.declared.span.Span.{Span}
use Rattle.pk_fields.specs.Ids.{IPV6_FRAGHDR_NXT, IPV6_FRAGHDR_OFFSET, IPV6_FRAGHDR_MORE, IPV6_FRAGHDR_IDENT}
use Rattle.pk_base.specs.declared.heads.After.{After}
use Rattle.pk_base.specs.declared.heads.After.TheVariants.{End}
use Rattle.pk_base.specs.declared.heads.FragmentHead.{FragmentHead}
use Rattle.pk_base.specs.declared.heads.Mode.{Mode}
use Rattle.pk_base.specs.declared.heads.PacketHead.{PacketHead}
use Rattle.pk_tree.specs.declared.layout.Step.{Step}
use Rattle.pk_tree.specs.declared.layout.Step.TheVariants.{Row}
use Rattle.pk_tree.specs.Layouts.{peeked}
use Rattle.dis_ip.specs.Fragments.{part_after}
use Rattle.dis_ip.specs.Options.{next_header}

-- where the fragment's bytes begin: it counts eights
abbrev pub fragment_offset : List ℕ → ℕ
fragment_offset bytes = 8 * peeked bytes 16 13

abbrev pub fragment_more : List ℕ → Bool
fragment_more bytes = peeked bytes 31 1 == 1

abbrev pub fragment_ident : List ℕ → ℕ
fragment_ident bytes = peeked bytes 32 32

unfoldable pub fragment_layout : List Step
fragment_layout =
    Row IPV6_FRAGHDR_NXT 0 ∷
    Row IPV6_FRAGHDR_OFFSET 2 ∷
    Row IPV6_FRAGHDR_MORE 3 ∷
    Row IPV6_FRAGHDR_IDENT 4 ∷
    []

-- its place in a datagram, with the addresses of its packet
abbrev pub fragment_part : PacketHead → List ℕ → FragmentHead
fragment_part packet bytes = record {
  six = true;
  source = packet.source;
  target = packet.target;
  next = next_header bytes;
  ident = fragment_ident bytes;
  offset = fragment_offset bytes;
  more = fragment_more bytes;
  whole = packet.whole;
}

-- nothing follows a header that isn't whole
unfoldable pub fragment_after : Mode → PacketHead → Span → List ℕ → After
fragment_after mode packet span bytes =
    if nat_le 8 span.len then part_after mode (fragment_part packet bytes) span 8 else End
