-- What two sources of a frame's values tell alike.
use Rattle.std.specs.Prelude.{◌≡◌, ◌==◌, ◌||◌, ℕ, Bool, true}
use Rattle.pk_base.specs.declared.chosen.Layers.TheVariants.{All}
use Rattle.pk_fields.specs.Fields.{IsField, row_of}
use Rattle.pk_fields.specs.Ids.{DATA, ETH, FRAME, IP, IPV6, TCP, UDP, VLAN}
use Rattle.pk_tree.specs.FieldValues.{values_of}
use Rattle.pk_tree.specs.Trees.{TreeShown}

-- the protocols of plain frames' headers, and that of bytes which no protocol reads
abbrev pub is_header : ℕ → Bool
is_header proto =
    proto == FRAME || proto == ETH || proto == VLAN || proto == IP || proto == IPV6 || proto == TCP || proto == UDP || proto == DATA

-- the same values of each field of these protocols, and of each of these protocols, in the same order
abbrev pub AreAlike : TreeShown → TreeShown → Type 0
AreAlike one other = (field : ℕ) → IsField field → is_header (row_of field).proto ≡ true → values_of one field All ≡ values_of other field All
