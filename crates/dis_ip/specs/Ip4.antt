-- Internet Protocol, version 4 (RFC 791, 3.1; RFC 2474, 3 and RFC 3168, 5 for the second byte).
--
--     0                   1                   2                   3
--     0 1 2 3 4 5 6 7 8 9 0 1 2 3 4 5 6 7 8 9 0 1 2 3 4 5 6 7 8 9 0 1
--    +-------+-------+-----------+---+-------------------------------+
--    |version|  IHL  |   DSCP    |ECN|         total length          |
--    +-------+-------+-----------+---+-----+-------------------------+
--    |        identification         |0|D|M|     fragment offset     |
--    +---------------+---------------+-----+-------------------------+
--    | time to live  |   protocol    |        header checksum        |
--    +---------------+---------------+-------------------------------+
--    |                        source address                         |
--    +---------------------------------------------------------------+
--    |                      destination address                      |
--    +---------------------------------------------------------------+
--    |  options, up to the header's end ..                           |
use Rattle.std.specs.Prelude.{◌==◌, ℕ, ◌-◌, ◌*◌, Bool, false, ◌||◌, nat_le, if◌then◌else◌, List, [], ◌∷◌, Option, Some, None}
use Rattle.pk_base.specs.declared.span.Span.{Span}
use Rattle.pk_fields.specs.Ids.{IP_VERSION, IP_HDR_LEN, IP_DSFIELD, IP_DSFIELD_DSCP, IP_DSFIELD_ECN, IP_LEN, IP_ID, IP_FLAGS_RB, IP_FLAGS_DF, IP_FLAGS_MF, IP_FRAG_OFFSET, IP_TTL, IP_PROTO, IP_CHECKSUM, IP_SRC, IP_ADDR, IP_DST, IP_OPTIONS}
use Rattle.pk_base.specs.declared.heads.Address.TheVariants.{Four}
use Rattle.pk_base.specs.declared.heads.After.{After}
use Rattle.pk_base.specs.declared.heads.After.TheVariants.{End}
use Rattle.pk_base.specs.declared.heads.FragmentHead.{FragmentHead}
use Rattle.pk_base.specs.declared.heads.Mode.{Mode}
use Rattle.pk_base.specs.declared.heads.PacketHead.{PacketHead}
use Rattle.pk_tree.specs.declared.layout.Step.{Step}
use Rattle.pk_tree.specs.declared.layout.Step.TheVariants.{Row, Part, Check}
use Rattle.pk_tree.specs.Layouts.{peeked, reach, is_all}
use Rattle.dis_ip.specs.Fragments.{part_after}
use Rattle.dis_ip.specs.Packets.{packet_span, is_whole, in_packet}

abbrev pub ip4_version : List ℕ → ℕ
ip4_version bytes = peeked bytes 0 4

-- the header's bytes: it counts words of four
abbrev pub ip4_header : List ℕ → ℕ
ip4_header bytes = 4 * peeked bytes 4 4

-- the packet's bytes with its header, or 0
abbrev pub ip4_total : List ℕ → ℕ
ip4_total bytes = peeked bytes 16 16

abbrev pub ip4_ident : List ℕ → ℕ
ip4_ident bytes = peeked bytes 32 16

abbrev pub ip4_more : List ℕ → Bool
ip4_more bytes = peeked bytes 50 1 == 1

-- where a fragment's bytes begin: it counts eights
abbrev pub ip4_offset : List ℕ → ℕ
ip4_offset bytes = 8 * peeked bytes 51 13

abbrev pub ip4_protocol : List ℕ → ℕ
ip4_protocol bytes = peeked bytes 72 8

abbrev pub ip4_source : List ℕ → ℕ
ip4_source bytes = peeked bytes 96 32

abbrev pub ip4_target : List ℕ → ℕ
ip4_target bytes = peeked bytes 128 32

-- it is of version 4, the header has its least bytes, and the packet, where its length is told, has the header's
abbrev pub ip4_conditions : List ℕ → List Bool
ip4_conditions bytes =
    (ip4_version bytes == 4) ∷
    nat_le 20 (ip4_header bytes) ∷
    (ip4_total bytes == 0 || nat_le (ip4_header bytes) (ip4_total bytes)) ∷
    []

unfoldable pub ip4_layout : List ℕ → List Step
ip4_layout bytes =
    Row IP_VERSION 0 ∷
    Row IP_HDR_LEN 0 ∷
    Check (ip4_version bytes == 4) ∷
    Check (nat_le 20 (ip4_header bytes)) ∷
    Row IP_DSFIELD 1 ∷
    Row IP_DSFIELD_DSCP 1 ∷
    Row IP_DSFIELD_ECN 1 ∷
    Row IP_LEN 2 ∷
    Row IP_ID 4 ∷
    Row IP_FLAGS_RB 6 ∷
    Row IP_FLAGS_DF 6 ∷
    Row IP_FLAGS_MF 6 ∷
    Row IP_FRAG_OFFSET 6 ∷
    Row IP_TTL 8 ∷
    Row IP_PROTO 9 ∷
    Row IP_CHECKSUM 10 ∷
    Row IP_SRC 12 ∷
    Row IP_ADDR 12 ∷
    Row IP_DST 16 ∷
    Row IP_ADDR 16 ∷
    Part IP_OPTIONS 20 (ip4_header bytes - 20) ∷
    Check (ip4_total bytes == 0 || nat_le (ip4_header bytes) (ip4_total bytes)) ∷
    []

-- no row and no condition ends the reading
abbrev pub ip4_is_read : Span → List ℕ → Bool
ip4_is_read span bytes = is_all (reach span.len (ip4_layout bytes))

-- a total length of 0 names no end: the packet has all bytes that are left
abbrev pub ip4_size : List ℕ → Option ℕ
ip4_size bytes = if ip4_total bytes == 0 then None else Some (ip4_total bytes)

unfoldable pub ip4_span : Span → List ℕ → Span
ip4_span span bytes = if ip4_is_read span bytes then packet_span span (ip4_size bytes) else span

abbrev pub ip4_packet : Bool → Span → List ℕ → PacketHead
ip4_packet cut span bytes = record {
  source = Four (ip4_source bytes);
  target = Four (ip4_target bytes);
  whole = is_whole cut span (ip4_size bytes);
}

-- the packet's place in a datagram
abbrev pub ip4_part : PacketHead → List ℕ → FragmentHead
ip4_part packet bytes = record {
  six = false;
  source = packet.source;
  target = packet.target;
  next = ip4_protocol bytes;
  ident = ip4_ident bytes;
  offset = ip4_offset bytes;
  more = ip4_more bytes;
  whole = packet.whole;
}

abbrev pub ip4_carried : Mode → PacketHead → Span → List ℕ → After
ip4_carried mode packet layer bytes =
    in_packet packet (part_after mode (ip4_part packet bytes) layer (ip4_header bytes))

unfoldable pub ip4_after : Mode → Bool → Span → List ℕ → After
ip4_after mode cut span bytes =
    if ip4_is_read span bytes
    then ip4_carried mode (ip4_packet cut span bytes) (ip4_span span bytes) bytes else End
