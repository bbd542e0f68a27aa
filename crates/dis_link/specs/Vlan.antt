-- A VLAN tag (IEEE 802.1Q, 9.3 and 9.6) behind the type that announced it, and the type or length of what it tags.
--
--     0                   1                   2                   3
--     0 1 2 3 4 5 6 7 8 9 0 1 2 3 4 5 6 7 8 9 0 1 2 3 4 5 6 7 8 9 0 1
--    +-----+-+-----------------------+-------------------------------+
--    | PCP |D|    VLAN identifier    |        type or length         |
--    +-----+-+-----------------------+-------------------------------+
use Rattle.std.specs.Prelude.{ℕ, List, [], ◌∷◌, if◌then◌else◌}
use Rattle.pk_base.specs.declared.span.Span.{Span}
use Rattle.pk_fields.specs.Ids.{VLAN_PRIORITY, VLAN_DEI, VLAN_ID, VLAN_ETYPE, VLAN_LEN}
use Rattle.pk_base.specs.declared.heads.After.{After}
use Rattle.pk_tree.specs.declared.layout.Step.{Step}
use Rattle.pk_tree.specs.declared.layout.Step.TheVariants.{Row}
use Rattle.pk_tree.specs.Layouts.{peeked}
use Rattle.dis_link.specs.EtherTypes.{is_length, ended, next_of_type}
use Rattle.pk_tree.specs.Following.{carried}

-- the length or type
abbrev pub vlan_type : List ℕ → ℕ
vlan_type bytes = peeked bytes 16 16

unfoldable pub vlan_layout : List ℕ → List Step
vlan_layout bytes =
    Row VLAN_PRIORITY 0 ∷
    Row VLAN_DEI 0 ∷
    Row VLAN_ID 0 ∷
    (if is_length (vlan_type bytes) then Row VLAN_LEN 2 else Row VLAN_ETYPE 2) ∷
    []

abbrev pub vlan_span : Span → List ℕ → Span
vlan_span span bytes = ended span 4 (vlan_type bytes)

unfoldable pub vlan_after : Span → List ℕ → After
vlan_after span bytes = carried (next_of_type (vlan_type bytes)) (vlan_span span bytes) 4
