-- Transmission Control Protocol (RFC 9293, 3.1). The data offset counts the header's words of four bytes.
--
--     0                   1                   2                   3
--     0 1 2 3 4 5 6 7 8 9 0 1 2 3 4 5 6 7 8 9 0 1 2 3 4 5 6 7 8 9 0 1
--    +-------------------------------+-------------------------------+
--    |          source port          |       destination port        |
--    +-------------------------------+-------------------------------+
--    |                        sequence number                        |
--    +---------------------------------------------------------------+
--    |                     acknowledgment number                     |
--    +-------+-------+-+-+-+-+-+-+-+-+-------------------------------+
--    | data  |reser- |C|E|U|A|P|R|S|F|                               |
--    | offset| ved   |W|C|R|C|S|S|Y|I|            window             |
--    |       |       |R|E|G|K|H|T|N|N|                               |
--    +-------+-------+-+-+-+-+-+-+-+-+-------------------------------+
--    |           checksum            |        urgent pointer         |
--    +-------------------------------+-------------------------------+
--    |                          options ..                           |
use Rattle.std.specs.Prelude.{◌==◌, ℕ, ◌-◌, ◌*◌, List, [], ◌∷◌, ◌++◌, nat_le, take}
use Rattle.pk_base.specs.declared.span.Span.{Span}
use Rattle.pk_fields.specs.Ids.{TCP_SRCPORT, TCP_PORT, TCP_DSTPORT, TCP_SEQ_RAW, TCP_ACK_RAW, TCP_HDR_LEN, TCP_FLAGS, TCP_FLAGS_CWR, TCP_FLAGS_ECE, TCP_FLAGS_URG, TCP_FLAGS_ACK, TCP_FLAGS_PUSH, TCP_FLAGS_RESET, TCP_FLAGS_SYN, TCP_FLAGS_FIN, TCP_WINDOW_SIZE_VALUE, TCP_CHECKSUM, TCP_URGENT_POINTER, TCP_OPTIONS}
use Rattle.pk_base.specs.declared.heads.After.{After}
use Rattle.pk_base.specs.declared.heads.After.TheVariants as afters
use Rattle.pk_base.specs.declared.heads.Mode.{Mode}
use Rattle.pk_base.specs.declared.heads.Mode.TheVariants.{Plain, Embedded}
use Rattle.pk_base.specs.declared.heads.Next.TheVariants.{Rest}
use Rattle.pk_base.specs.declared.heads.TcpHead.{TcpHead}
use Rattle.pk_tree.specs.declared.layout.Reach.{Reach}
use Rattle.pk_tree.specs.declared.layout.Reach.TheVariants.{All, Short, Failed}
use Rattle.pk_tree.specs.declared.layout.Step.{Step}
use Rattle.pk_tree.specs.declared.layout.Step.TheVariants.{Row, Part, Check}
use Rattle.pk_tree.specs.Following.{behind, carried}
use Rattle.pk_tree.specs.Layouts.{peeked, reach}
use Rattle.dis_ports.specs.TcpOptions.{tcp_options}

-- the header's bytes, options among them
abbrev pub header_len : List ℕ → ℕ
header_len bytes = 4 * peeked bytes 96 4

unfoldable pub tcp_rows : List ℕ → List Step
tcp_rows bytes =
    Row TCP_SRCPORT 0 ∷
    Row TCP_PORT 0 ∷
    Row TCP_DSTPORT 2 ∷
    Row TCP_PORT 2 ∷
    Row TCP_SEQ_RAW 4 ∷
    Row TCP_ACK_RAW 8 ∷
    Row TCP_HDR_LEN 12 ∷
    Check (nat_le 20 (header_len bytes)) ∷
    Row TCP_FLAGS 12 ∷
    Row TCP_FLAGS_CWR 13 ∷
    Row TCP_FLAGS_ECE 13 ∷
    Row TCP_FLAGS_URG 13 ∷
    Row TCP_FLAGS_ACK 13 ∷
    Row TCP_FLAGS_PUSH 13 ∷
    Row TCP_FLAGS_RESET 13 ∷
    Row TCP_FLAGS_SYN 13 ∷
    Row TCP_FLAGS_FIN 13 ∷
    Row TCP_WINDOW_SIZE_VALUE 14 ∷
    Row TCP_CHECKSUM 16 ∷
    Row TCP_URGENT_POINTER 18 ∷
    Part TCP_OPTIONS 20 (header_len bytes - 20) ∷
    []

unfoldable pub tcp_layout : List ℕ → List Step
tcp_layout bytes = tcp_rows bytes ++ (tcp_options (take (header_len bytes) bytes)).steps

-- what the streams need of a header; the acknowledgment number counts where ACK is set
abbrev pub tcp_head : List ℕ → TcpHead
tcp_head bytes = record {
  source = peeked bytes 0 16;
  target = peeked bytes 16 16;
  seq = peeked bytes 32 32;
  ack = peeked bytes 64 32;
  syn = peeked bytes 110 1 == 1;
  acked = peeked bytes 107 1 == 1;
}

-- what follows a header of so many bytes that was read so far; what an embedded packet carries belongs to no conversation
-- and is data
abbrev pub tcp_carries : Reach → Mode → TcpHead → ℕ → Span → After
tcp_carries All Plain head header span = afters.Segment head (behind span header)
tcp_carries All Embedded head header span = carried Rest span header
tcp_carries Short mode head header span = afters.End
tcp_carries Failed mode head header span = afters.End

unfoldable pub tcp_after : Mode → Span → List ℕ → After
tcp_after mode span bytes =
    tcp_carries (reach span.len (tcp_layout bytes)) mode (tcp_head bytes) (header_len bytes) span
