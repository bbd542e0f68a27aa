-- Internet Group Management Protocol, version 2 (RFC 2236, 2).
--
--     0                   1                   2                   3
--     0 1 2 3 4 5 6 7 8 9 0 1 2 3 4 5 6 7 8 9 0 1 2 3 4 5 6 7 8 9 0 1
--    +---------------+---------------+-------------------------------+
--    |     type      | max resp time |           checksum            |
--    +---------------+---------------+-------------------------------+
--    |                         group address                         |
--    +---------------------------------------------------------------+
--    |  what follows ..                                              |
use Rattle.std.specs.Prelude.{List, [], ◌∷◌}
use Rattle.pk_base.specs.declared.span.Span.{Span}
use Rattle.pk_fields.specs.Ids.{IGMP_TYPE, IGMP_MAX_RESP, IGMP_CHECKSUM, IGMP_MADDR}
use Rattle.pk_base.specs.declared.heads.After.{After}
use Rattle.pk_base.specs.declared.heads.Next.TheVariants.{Rest}
use Rattle.pk_tree.specs.declared.layout.Step.{Step}
use Rattle.pk_tree.specs.declared.layout.Step.TheVariants.{Row}
use Rattle.pk_tree.specs.Following.{carried}

unfoldable pub igmp_layout : List Step
igmp_layout =
    Row IGMP_TYPE 0 ∷
    Row IGMP_MAX_RESP 1 ∷
    Row IGMP_CHECKSUM 2 ∷
    Row IGMP_MADDR 4 ∷
    []

unfoldable pub igmp_after : Span → After
igmp_after span = carried Rest span 8
