-- Internet Control Message Protocol (RFC 792).
--
--     0                   1                   2                   3
--     0 1 2 3 4 5 6 7 8 9 0 1 2 3 4 5 6 7 8 9 0 1 2 3 4 5 6 7 8 9 0 1
--    +---------------+---------------+-------------------------------+
--    |     type      |     code      |           checksum            |
--    +---------------+---------------+-------------------------------+
--    |  of an echo: identifier       |  sequence number              |
--    |  of another message: four bytes by its type                   |
--    +---------------------------------------------------------------+
--    |  what follows ..                                              |
use Rattle.std.specs.Prelude.{◌==◌, ℕ, Bool, true, false, ◌||◌, if◌then◌else◌, List, [], ◌∷◌}
use Rattle.pk_base.specs.declared.span.Span.{Span}
use Rattle.pk_fields.specs.Ids.{ICMP_TYPE, ICMP_CODE, ICMP_CHECKSUM, ICMP_IDENT, ICMP_SEQ, ICMP_REST}
use Rattle.pk_base.specs.declared.heads.After.{After}
use Rattle.pk_base.specs.declared.heads.Next.{Next}
use Rattle.pk_base.specs.declared.heads.Next.TheVariants.{Ip4, Rest}
use Rattle.pk_tree.specs.declared.layout.Step.{Step}
use Rattle.pk_tree.specs.declared.layout.Step.TheVariants.{Row, Part}
use Rattle.pk_tree.specs.Following.{carried}
use Rattle.pk_tree.specs.Layouts.{peeked}

abbrev pub icmp_type : List ℕ → ℕ
icmp_type bytes = peeked bytes 0 8

-- an echo reply or an echo
abbrev pub is_echo : ℕ → Bool
is_echo number = number == 0 || number == 8

-- a message about a packet, whose first bytes it carries: destination unreachable, source quench, redirect, time exceeded,
-- parameter problem
abbrev pub is_about_packet : ℕ → Bool
is_about_packet number = number == 3 || number == 4 || number == 5 || number == 11 || number == 12

-- the rows of an echo, or of another message
unfoldable pub icmp_rows : Bool → List Step
icmp_rows true =
    Row ICMP_TYPE 0 ∷
    Row ICMP_CODE 1 ∷
    Row ICMP_CHECKSUM 2 ∷
    Row ICMP_IDENT 4 ∷
    Row ICMP_SEQ 6 ∷
    []
icmp_rows false =
    Row ICMP_TYPE 0 ∷
    Row ICMP_CODE 1 ∷
    Row ICMP_CHECKSUM 2 ∷
    Part ICMP_REST 4 4 ∷
    []

abbrev pub icmp_layout : List ℕ → List Step
icmp_layout bytes = icmp_rows (is_echo (icmp_type bytes))

abbrev pub next_of_message : ℕ → Next
next_of_message number = if is_about_packet number then Ip4 else Rest

unfoldable pub icmp_after : Span → List ℕ → After
icmp_after span bytes = carried (next_of_message (icmp_type bytes)) span 8
