-- Internet Protocol, version 6 (RFC 8200, 3).
--
--     0                   1                   2                   3
--     0 1 2 3 4 5 6 7 8 9 0 1 2 3 4 5 6 7 8 9 0 1 2 3 4 5 6 7 8 9 0 1
--    +-------+---------------+---------------------------------------+
--    |version| traffic class |              flow label               |
--    +-------+---------------+-------+---------------+---------------+
--    |        payload length         |  next header  |   hop limit   |
--    +-------------------------------+---------------+---------------+
--    |              source address, four such words                  |
--    +---------------------------------------------------------------+
--    |            destination address, four such words               |
--    +---------------------------------------------------------------+
use Rattle.std.specs.Prelude.{◌==◌, ℕ, ◌+◌, Bool, true, if◌then◌else◌, List, [], ◌∷◌, Option, Some, None}
use Rattle.pk_base.specs.declared.span.Span.{Span}
use Rattle.pk_fields.specs.Ids.{IPV6_VERSION, IPV6_TCLASS, IPV6_FLOW, IPV6_PLEN, IPV6_NXT, IPV6_HLIM, IPV6_SRC, IPV6_ADDR, IPV6_DST}
use Rattle.pk_base.specs.declared.heads.Address.TheVariants.{Six}
use Rattle.pk_base.specs.declared.heads.After.{After}
use Rattle.pk_base.specs.declared.heads.After.TheVariants.{End}
use Rattle.pk_base.specs.declared.heads.PacketHead.{PacketHead}
use Rattle.pk_tree.specs.declared.layout.Step.{Step}
use Rattle.pk_tree.specs.declared.layout.Step.TheVariants.{Row, Check}
use Rattle.pk_tree.specs.Layouts.{peeked, reach, is_all}
use Rattle.dis_ip.specs.Packets.{packet_span, is_whole, in_packet}
use Rattle.dis_ip.specs.Protocols.{carried_by}

abbrev pub ip6_version : List ℕ → ℕ
ip6_version bytes = peeked bytes 0 4

-- the bytes behind the header, or 0
abbrev pub ip6_payload : List ℕ → ℕ
ip6_payload bytes = peeked bytes 32 16

abbrev pub ip6_next : List ℕ → ℕ
ip6_next bytes = peeked bytes 48 8

abbrev pub ip6_source : List ℕ → ℕ
ip6_source bytes = peeked bytes 64 128

abbrev pub ip6_target : List ℕ → ℕ
ip6_target bytes = peeked bytes 192 128

unfoldable pub ip6_layout : List ℕ → List Step
ip6_layout bytes =
    Row IPV6_VERSION 0 ∷
    Check (ip6_version bytes == 6) ∷
    Row IPV6_TCLASS 0 ∷
    Row IPV6_FLOW 1 ∷
    Row IPV6_PLEN 4 ∷
    Row IPV6_NXT 6 ∷
    Row IPV6_HLIM 7 ∷
    Row IPV6_SRC 8 ∷
    Row IPV6_ADDR 8 ∷
    Row IPV6_DST 24 ∷
    Row IPV6_ADDR 24 ∷
    []

-- no row and no condition ends the reading
abbrev pub ip6_is_read : Span → List ℕ → Bool
ip6_is_read span bytes = is_all (reach span.len (ip6_layout bytes))

-- a payload length of 0 names no end: the packet has all bytes that are left
abbrev pub ip6_size : List ℕ → Option ℕ
ip6_size bytes = if ip6_payload bytes == 0 then None else Some (40 + ip6_payload bytes)

unfoldable pub ip6_span : Span → List ℕ → Span
ip6_span span bytes = if ip6_is_read span bytes then packet_span span (ip6_size bytes) else span

abbrev pub ip6_packet : Bool → Span → List ℕ → PacketHead
ip6_packet cut span bytes = record {
  source = Six (ip6_source bytes);
  target = Six (ip6_target bytes);
  whole = is_whole cut span (ip6_size bytes);
}

unfoldable pub ip6_after : Bool → Span → List ℕ → After
ip6_after cut span bytes =
    if ip6_is_read span bytes
    then in_packet (ip6_packet cut span bytes)
    (carried_by true (ip6_next bytes) (ip6_span span bytes) 40) else End
