-- The headers of Linux's cooked captures (LINKTYPE_LINUX_SLL and LINKTYPE_LINUX_SLL2 of tcpdump.org's registry). The
-- address has 8 bytes, of which the length says how many count.
--
--    SLL    byte 0        2        4        6                14       16
--                +--------+--------+--------+----------------+--------+----------------
--                | packet |  ARP-  | length |    address     |  type  | what follows ..
--                |  type  |  HRD   |        |                |        |
--                +--------+--------+--------+----------------+--------+----------------
--
--    SLL2   byte 0        2        4            8        10    11    12               20
--                +--------+--------+------------+--------+-----+-----+----------------+----------------
--                |  type  |  zero  | interface  |  ARP-  |pack-|leng-|    address     | what follows ..
--                |        |        |            |  HRD   | et  | th  |                |
--                +--------+--------+------------+--------+-----+-----+----------------+----------------
use Rattle.std.specs.Prelude.{ℕ, min, List, [], ◌∷◌, length, nat_le}
use Rattle.pk_base.specs.declared.span.Span.{Span}
use Rattle.pk_fields.specs.Ids.{SLL_PKTTYPE, SLL_HATYPE, SLL_HALEN, SLL_SRC, SLL_ETYPE, SLL2_ETYPE, SLL2_IFINDEX, SLL2_HATYPE, SLL2_PKTTYPE, SLL2_HALEN, SLL2_SRC}
use Rattle.pk_base.specs.declared.heads.After.{After}
use Rattle.pk_tree.specs.declared.layout.Step.{Step}
use Rattle.pk_tree.specs.declared.layout.Step.TheVariants.{Row, Part, Room}
use Rattle.pk_tree.specs.Layouts.{peeked}
use Rattle.dis_link.specs.EtherTypes.{next_of_type}
use Rattle.pk_tree.specs.Following.{carried}

unfoldable pub sll_layout : List ℕ → List Step
sll_layout bytes =
    Row SLL_PKTTYPE 0 ∷
    Row SLL_HATYPE 2 ∷
    Row SLL_HALEN 4 ∷
    Part SLL_SRC 6 (min (peeked bytes 32 16) 8) ∷
    Row SLL_ETYPE 14 ∷
    []

unfoldable pub sll_after : Span → List ℕ → After
sll_after span bytes = carried (next_of_type (peeked bytes 112 16)) span 16

-- all 20 bytes are of the header, also where fewer bytes of the address count
unfoldable pub sll2_layout : List ℕ → List Step
sll2_layout bytes =
    Row SLL2_ETYPE 0 ∷
    Row SLL2_IFINDEX 4 ∷
    Row SLL2_HATYPE 8 ∷
    Row SLL2_PKTTYPE 10 ∷
    Row SLL2_HALEN 11 ∷
    Part SLL2_SRC 12 (min (peeked bytes 88 8) 8) ∷
    Room (nat_le 20 (length bytes)) ∷
    []

unfoldable pub sll2_after : Span → List ℕ → After
sll2_after span bytes = carried (next_of_type (peeked bytes 0 16)) span 20
