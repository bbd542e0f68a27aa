-- The messages of neighbour discovery (RFC 4861, 4), from the byte behind the checksum of ICMPv6 on.
--
--     0                   1                   2                   3
--     0 1 2 3 4 5 6 7 8 9 0 1 2 3 4 5 6 7 8 9 0 1 2 3 4 5 6 7 8 9 0 1
--
--    router solicitation, 133 (4.1)
--    +---------------------------------------------------------------+
--    |                           reserved                            |
--    +---------------------------------------------------------------+
--
--    router advertisement, 134 (4.2)
--    +---------------+-+-+-----------+-------------------------------+
--    |   hop limit   |M|O| reserved  |        router lifetime        |
--    +---------------+-+-+-----------+-------------------------------+
--    |                        reachable time                         |
--    +---------------------------------------------------------------+
--    |                     retransmission timer                      |
--    +---------------------------------------------------------------+
--
--    neighbour solicitation, 135 (4.3); neighbour advertisement, 136 (4.4), with the flags R, S, O for reserved bits
--    +-+-+-+---------------------------------------------------------+
--    |R|S|O|                     reserved                            |
--    +-+-+-+---------------------------------------------------------+
--    |                      target (16 bytes)                        |
--    +---------------------------------------------------------------+
--
--    redirect, 137 (4.5)
--    +---------------------------------------------------------------+
--    |                           reserved                            |
--    +---------------------------------------------------------------+
--    |                      target (16 bytes)                        |
--    +---------------------------------------------------------------+
--    |                    destination (16 bytes)                     |
--    +---------------------------------------------------------------+
use Rattle.std.specs.Prelude.{◌==◌, ℕ, if◌then◌else◌, List, [], ◌∷◌, ◌++◌}
use Rattle.pk_fields.specs.Ids.{ND_RESERVED, ND_RA_HOP_LIMIT, ND_RA_MANAGED, ND_RA_OTHER, ND_RA_LIFETIME, ND_RA_REACHABLE, ND_RA_RETRANS, ND_TARGET, ND_NA_ROUTER, ND_NA_SOLICITED, ND_NA_OVERRIDE, ND_DESTINATION}
use Rattle.pk_tree.specs.declared.layout.Step.{Step}
use Rattle.pk_tree.specs.declared.layout.Step.TheVariants.{Row, Part}
use Rattle.dis_icmp.specs.NeighOptions.{neigh_options}

abbrev pub advertised_router : List Step
advertised_router =
    Row ND_RA_HOP_LIMIT 0 ∷
    Row ND_RA_MANAGED 1 ∷
    Row ND_RA_OTHER 1 ∷
    Row ND_RA_LIFETIME 2 ∷
    Row ND_RA_REACHABLE 4 ∷
    Row ND_RA_RETRANS 8 ∷
    []

abbrev pub advertised_neighbour : List Step
advertised_neighbour =
    Row ND_NA_ROUTER 0 ∷
    Row ND_NA_SOLICITED 0 ∷
    Row ND_NA_OVERRIDE 0 ∷
    Row ND_TARGET 4 ∷
    []

abbrev pub redirected : List Step
redirected =
    Part ND_RESERVED 0 4 ∷
    Row ND_TARGET 4 ∷
    Row ND_DESTINATION 20 ∷
    []

-- the rows before the options, by the message's type; what is none of the first four is a redirect
unfoldable pub neigh_rows : ℕ → List Step
neigh_rows kind =
    if kind == 133 then Part ND_RESERVED 0 4 ∷ []
    else (if kind == 134 then advertised_router
    else (if kind == 135 then Part ND_RESERVED 0 4 ∷ Row ND_TARGET 4 ∷ []
    else (if kind == 136 then advertised_neighbour
    else redirected)))

-- where the options begin
unfoldable pub options_start : ℕ → ℕ
options_start kind =
    if kind == 133 then 4
    else (if kind == 134 then 12
    else (if kind == 135 then 20
    else (if kind == 136 then 20
    else 36)))

unfoldable pub neigh_layout : ℕ → List ℕ → List Step
neigh_layout kind bytes = neigh_rows kind ++ (neigh_options bytes (options_start kind)).steps
