-- The routing header (RFC 8200, 4.4). The length counts eights behind the first.
--
--     0                   1                   2                   3
--     0 1 2 3 4 5 6 7 8 9 0 1 2 3 4 5 6 7 8 9 0 1 2 3 4 5 6 7 8 9 0 1
--    +---------------+---------------+---------------+---------------+
--    |  next header  |    length     | routing type  | segments left |
--    +---------------+---------------+---------------+---------------+
--    |  data of the type, up to the end ..                           |
use Rattle.std.specs.Prelude.{ℕ, ◌-◌, List, [], ◌∷◌}
use Rattle.pk_fields.specs.Ids.{IPV6_ROUTING_NXT, IPV6_ROUTING_LEN, IPV6_ROUTING_TYPE, IPV6_ROUTING_SEGLEFT, IPV6_ROUTING_REST}
use Rattle.pk_tree.specs.declared.layout.Step.{Step}
use Rattle.pk_tree.specs.declared.layout.Step.TheVariants.{Row, Part}
use Rattle.dis_ip.specs.Options.{header_size}

unfoldable pub routing_layout : List ℕ → List Step
routing_layout bytes =
    Row IPV6_ROUTING_NXT 0 ∷
    Row IPV6_ROUTING_LEN 1 ∷
    Row IPV6_ROUTING_TYPE 2 ∷
    Row IPV6_ROUTING_SEGLEFT 3 ∷
    Part IPV6_ROUTING_REST 4 (header_size bytes - 4) ∷
    []
