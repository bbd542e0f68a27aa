-- Internet Control Message Protocol for IPv6 (RFC 4443, 2.1).
--
--     0                   1                   2                   3
--     0 1 2 3 4 5 6 7 8 9 0 1 2 3 4 5 6 7 8 9 0 1 2 3 4 5 6 7 8 9 0 1
--    +---------------+---------------+-------------------------------+
--    |     type      |     code      |           checksum            |
--    +---------------+---------------+-------------------------------+
--    |  of an echo: identifier       |  sequence number              |
--    |  of another message: four bytes by its type                   |
--    +---------------------------------------------------------------+
--    |  what follows ..                                              |
use Rattle.std.specs.Prelude.{◌==◌, ℕ, Bool, true, false, ◌||◌, ◌&&◌, nat_le, if◌then◌else◌, List, [], ◌∷◌}
use Rattle.pk_base.specs.declared.span.Span.{Span}
use Rattle.pk_fields.specs.Ids.{ICMPV6_TYPE, ICMPV6_CODE, ICMPV6_CHECKSUM, ICMPV6_ECHO_IDENTIFIER, ICMPV6_ECHO_SEQUENCE_NUMBER, ICMPV6_REST}
use Rattle.pk_base.specs.declared.heads.After.{After}
use Rattle.pk_base.specs.declared.heads.Next.{Next}
use Rattle.pk_base.specs.declared.heads.Next.TheVariants.{Ip6, Neigh, Rest}
use Rattle.pk_tree.specs.declared.layout.Step.{Step}
use Rattle.pk_tree.specs.declared.layout.Step.TheVariants.{Row, Part}
use Rattle.pk_tree.specs.Following.{carried}
use Rattle.pk_tree.specs.Layouts.{peeked}

abbrev pub icmp6_type : List ℕ → ℕ
icmp6_type bytes = peeked bytes 0 8

-- an echo request or an echo reply (RFC 4443, 4.1 and 4.2)
abbrev pub is_echo : ℕ → Bool
is_echo number = number == 128 || number == 129

-- a message about a packet, whose first bytes it carries (RFC 4443, 3): destination unreachable, packet too big, time
-- exceeded, parameter problem
abbrev pub is_about_packet : ℕ → Bool
is_about_packet number = nat_le 1 number && nat_le number 4

-- a message of neighbour discovery (RFC 4861, 4): the bytes behind its checksum are a layer of their own
abbrev pub is_neighbour : ℕ → Bool
is_neighbour number = nat_le 133 number && nat_le number 137

-- the bytes of a message up to what follows
abbrev pub header_size : Bool → ℕ
header_size true = 4
header_size false = 8

-- the rows of a message of neighbour discovery, of an echo, or of another message
unfoldable pub icmp6_rows : (neighbour echo : Bool) → List Step
icmp6_rows true echo =
    Row ICMPV6_TYPE 0 ∷
    Row ICMPV6_CODE 1 ∷
    Row ICMPV6_CHECKSUM 2 ∷
    []
icmp6_rows false true =
    Row ICMPV6_TYPE 0 ∷
    Row ICMPV6_CODE 1 ∷
    Row ICMPV6_CHECKSUM 2 ∷
    Row ICMPV6_ECHO_IDENTIFIER 4 ∷
    Row ICMPV6_ECHO_SEQUENCE_NUMBER 6 ∷
    []
icmp6_rows false false =
    Row ICMPV6_TYPE 0 ∷
    Row ICMPV6_CODE 1 ∷
    Row ICMPV6_CHECKSUM 2 ∷
    Part ICMPV6_REST 4 4 ∷
    []

abbrev pub icmp6_layout : List ℕ → List Step
icmp6_layout bytes = icmp6_rows (is_neighbour (icmp6_type bytes)) (is_echo (icmp6_type bytes))

abbrev pub next_of_message : ℕ → Next
next_of_message number =
    if is_neighbour number then Neigh number else (if is_about_packet number then Ip6 else Rest)

unfoldable pub icmp6_after : Span → List ℕ → After
icmp6_after span bytes =
    carried (next_of_message (icmp6_type bytes)) span
    (header_size (is_neighbour (icmp6_type bytes)))
