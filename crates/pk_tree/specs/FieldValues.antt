-- The values of a field in a tree.
use Rattle.std.specs.Prelude.{◌==◌, ℕ, List, [], ◌∷◌, if◌then◌else◌, map, filter}
use Rattle.std.specs.List.{flat_map}
use Rattle.pk_tree.specs.Buffers.{bytes_of}
use Rattle.pk_fields.specs.Fields.{row_of}
use Rattle.pk_base.specs.declared.value.Value.{Value}
use Rattle.pk_base.specs.declared.value.Value.TheVariants as values
use Rattle.pk_tree.specs.declared.item.Item.{Item}
use Rattle.pk_tree.specs.declared.layer.Layer.{Layer}
use Rattle.pk_base.specs.declared.chosen.Layers.{Layers}
use Rattle.pk_base.specs.Chosen.{is_chosen}
use Rattle.pk_tree.specs.Trees.{TreeShown}
use Rattle.pk_tree.specs.Values.{is_proto}

-- the values of a field among items
abbrev pub item_values : ℕ → List Item → List Value
item_values field items =
    map (λ (item : Item). item.value) (filter (λ (item : Item). item.field == field) items)

-- a layer's value as one of a protocol: all its bytes
abbrev pub proto_values : List (List ℕ) → ℕ → Layer → List Value
proto_values buffers proto layer =
    if layer.proto == proto then values.Proto (bytes_of buffers layer.span) ∷ [] else []

unfoldable pub layer_values : List (List ℕ) → ℕ → Layer → List Value
layer_values buffers field layer =
    if is_proto (row_of field).kind then proto_values buffers field layer
    else item_values field layer.items

abbrev pub chosen_values : List (List ℕ) → ℕ → Layers → Layer → List Value
chosen_values buffers field layers layer =
    if is_chosen layers layer.nth then layer_values buffers field layer else []

-- the values of a field in the chosen layers, in the tree's order
unfoldable pub values_of : TreeShown → ℕ → Layers → List Value
values_of t field layers = flat_map (λ layer. chosen_values t.buffers field layers layer) t.layers
