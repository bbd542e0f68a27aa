-- Ethernet (IEEE 802.3, 3.1.1; LINKTYPE_ETHERNET of tcpdump.org's registry). The frame check sequence isn't captured.
--
--    byte 0             6             12      14
--         +-------------+-------------+-------+----------------
--         | destination |   source    | type  | what follows ..
--         +-------------+-------------+-------+----------------
use Rattle.std.specs.Prelude.{ℕ, List, [], ◌∷◌, if◌then◌else◌}
use Rattle.pk_base.specs.declared.span.Span.{Span}
use Rattle.pk_fields.specs.Ids.{ETH_DST, ETH_SRC, ETH_ADDR, ETH_TYPE, ETH_LEN}
use Rattle.pk_base.specs.declared.heads.After.{After}
use Rattle.pk_tree.specs.declared.layout.Step.{Step}
use Rattle.pk_tree.specs.declared.layout.Step.TheVariants.{Row}
use Rattle.pk_tree.specs.Layouts.{peeked}
use Rattle.dis_link.specs.EtherTypes.{is_length, ended, next_of_type}
use Rattle.pk_tree.specs.Following.{carried}

-- the length or type
abbrev pub eth_type : List ℕ → ℕ
eth_type bytes = peeked bytes 96 16

unfoldable pub eth_layout : List ℕ → List Step
eth_layout bytes =
    Row ETH_DST 0 ∷
    Row ETH_ADDR 0 ∷
    Row ETH_SRC 6 ∷
    Row ETH_ADDR 6 ∷
    (if is_length (eth_type bytes) then Row ETH_LEN 12 else Row ETH_TYPE 12) ∷
    []

abbrev pub eth_span : Span → List ℕ → Span
eth_span span bytes = ended span 14 (eth_type bytes)

unfoldable pub eth_after : Span → List ℕ → After
eth_after span bytes = carried (next_of_type (eth_type bytes)) (eth_span span bytes) 14
