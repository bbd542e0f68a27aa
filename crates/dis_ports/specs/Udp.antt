-- User Datagram Protocol (RFC 768). The length counts the header and what it carries.
--
--     0                   1                   2                   3
--     0 1 2 3 4 5 6 7 8 9 0 1 2 3 4 5 6 7 8 9 0 1 2 3 4 5 6 7 8 9 0 1
--    +-------------------------------+-------------------------------+
--    |          source port          |       destination port        |
--    +-------------------------------+-------------------------------+
--    |            length             |           checksum            |
--    +-------------------------------+-------------------------------+
use Rattle.std.specs.Prelude.{◌==◌, ℕ, Bool, ◌||◌, if◌then◌else◌, List, [], ◌∷◌, nat_le}
use Rattle.pk_base.specs.declared.span.Span.{Span}
use Rattle.pk_fields.specs.Ids.{UDP_SRCPORT, UDP_PORT, UDP_DSTPORT, UDP_LENGTH, UDP_CHECKSUM}
use Rattle.pk_base.specs.declared.heads.After.{After}
use Rattle.pk_base.specs.declared.heads.After.TheVariants as afters
use Rattle.pk_base.specs.declared.heads.Mode.{Mode}
use Rattle.pk_base.specs.declared.heads.Mode.TheVariants.{Plain, Embedded}
use Rattle.pk_base.specs.declared.heads.Next.TheVariants.{Rest}
use Rattle.pk_base.specs.declared.heads.PortsHead.{PortsHead}
use Rattle.pk_tree.specs.declared.layout.Reach.{Reach}
use Rattle.pk_tree.specs.declared.layout.Reach.TheVariants.{All, Short, Failed}
use Rattle.pk_tree.specs.declared.layout.Step.{Step}
use Rattle.pk_tree.specs.declared.layout.Step.TheVariants.{Row, Check}
use Rattle.pk_tree.specs.Following.{behind, carried, first_of}
use Rattle.pk_tree.specs.Layouts.{peeked, reach}

abbrev pub udp_length : List ℕ → ℕ
udp_length bytes = peeked bytes 32 16

-- the header's 8 bytes are the least length; 0 stands for all bytes that are left, as in a jumbogram (RFC 2675, 4)
abbrev pub is_udp_length : ℕ → Bool
is_udp_length number = number == 0 || nat_le 8 number

unfoldable pub udp_layout : List ℕ → List Step
udp_layout bytes =
    Row UDP_SRCPORT 0 ∷
    Row UDP_PORT 0 ∷
    Row UDP_DSTPORT 2 ∷
    Row UDP_PORT 2 ∷
    Row UDP_LENGTH 4 ∷
    Row UDP_CHECKSUM 6 ∷
    Check (is_udp_length (udp_length bytes)) ∷
    []

-- a length ends the layer, where the bytes don't end before; what is behind that is padding
unfoldable pub udp_span : Span → List ℕ → Span
udp_span span bytes = if nat_le 8 (udp_length bytes) then first_of span (udp_length bytes) else span

abbrev pub udp_ports : List ℕ → PortsHead
udp_ports bytes = record { source = peeked bytes 0 16; target = peeked bytes 16 16 }

-- what follows a header that was read so far, in a layer of this span; what an embedded packet carries belongs to no
-- conversation and is data
abbrev pub udp_carries : Reach → Mode → PortsHead → Span → After
udp_carries All Plain ports span = afters.Datagram ports (behind span 8)
udp_carries All Embedded ports span = carried Rest span 8
udp_carries Short mode ports span = afters.End
udp_carries Failed mode ports span = afters.End

unfoldable pub udp_after : Mode → Span → List ℕ → After
udp_after mode span bytes =
    udp_carries (reach (udp_span span bytes).len (udp_layout bytes)) mode (udp_ports bytes)
    (udp_span span bytes)
