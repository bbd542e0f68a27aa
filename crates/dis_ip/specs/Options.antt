-- Hop-by-hop options and destination options (RFC 8200, 4.3 and 4.6). The length counts eights behind the first.
--
--     0                   1                   2                   3
--     0 1 2 3 4 5 6 7 8 9 0 1 2 3 4 5 6 7 8 9 0 1 2 3 4 5 6 7 8 9 0 1
--    +---------------+---------------+-------------------------------+
--    |  next header  |    length     |  options, up to the end ..    |
--    +---------------+---------------+-------------------------------+
use Rattle.std.specs.Prelude.{ℕ, ◌+◌, ◌-◌, ◌*◌, true, List, [], ◌∷◌}
use Rattle.pk_base.specs.declared.span.Span.{Span}
use Rattle.pk_fields.specs.Ids.{IPV6_HOPOPTS_NXT, IPV6_HOPOPTS_LEN, IPV6_HOPOPTS_OPTIONS, IPV6_DSTOPTS_NXT, IPV6_DSTOPTS_LEN, IPV6_DSTOPTS_OPTIONS}
use Rattle.pk_base.specs.declared.heads.After.{After}
use Rattle.pk_tree.specs.declared.layout.Step.{Step}
use Rattle.pk_tree.specs.declared.layout.Step.TheVariants.{Row, Part}
use Rattle.pk_tree.specs.Layouts.{peeked}
use Rattle.dis_ip.specs.Protocols.{carried_by}

abbrev pub next_header : List ℕ → ℕ
next_header bytes = peeked bytes 0 8

-- the bytes of a header with a length in its second byte
abbrev pub header_size : List ℕ → ℕ
header_size bytes = 8 * (peeked bytes 8 8 + 1)

unfoldable pub hop_options_layout : List ℕ → List Step
hop_options_layout bytes =
    Row IPV6_HOPOPTS_NXT 0 ∷
    Row IPV6_HOPOPTS_LEN 1 ∷
    Part IPV6_HOPOPTS_OPTIONS 2 (header_size bytes - 2) ∷
    []

unfoldable pub target_options_layout : List ℕ → List Step
target_options_layout bytes =
    Row IPV6_DSTOPTS_NXT 0 ∷
    Row IPV6_DSTOPTS_LEN 1 ∷
    Part IPV6_DSTOPTS_OPTIONS 2 (header_size bytes - 2) ∷
    []

-- what follows a header with a length in its second byte
unfoldable pub sized_after : Span → List ℕ → After
sized_after span bytes = carried_by true (next_header bytes) span (header_size bytes)
