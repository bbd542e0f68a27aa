-- The values of a field that is no protocol, asked where they stand: in the layers of its protocol that are chosen.
use Rattle.std.specs.Prelude.{ℕ, ◌==◌, ◌&&◌, ◌||◌, Bool as Truth, not, List}
use Rattle.std.specs.List.{list_any, list_all}
use Rattle.pk_base.specs.Chosen.{is_chosen}
use Rattle.pk_base.specs.declared.chosen.Layers.{Layers}
use Rattle.pk_tree.specs.declared.item.Item.{Item}
use Rattle.pk_tree.specs.declared.layer.Layer.{Layer}
use Rattle.pk_base.specs.declared.value.Value.{Value}

abbrev pub is_asked : ℕ → Layers → Layer → Truth
is_asked proto chosen layer = (layer.proto == proto) && is_chosen chosen layer.nth

abbrev pub any_item : (Value → Truth) → ℕ → List Item → Truth
any_item test field items =
    list_any (λ (item : Item). (item.field == field) && test item.value) items

abbrev pub all_items : (Value → Truth) → ℕ → List Item → Truth
all_items test field items =
    list_all (λ (item : Item). not (item.field == field) || test item.value) items

abbrev pub any_in_layer : (Value → Truth) → ℕ → ℕ → Layers → Layer → Truth
any_in_layer test field proto chosen layer =
    is_asked proto chosen layer && any_item test field layer.items

abbrev pub all_in_layer : (Value → Truth) → ℕ → ℕ → Layers → Layer → Truth
all_in_layer test field proto chosen layer =
    not (is_asked proto chosen layer) || all_items test field layer.items

abbrev pub any_in_layers : (Value → Truth) → ℕ → ℕ → Layers → List Layer → Truth
any_in_layers test field proto chosen layers =
    list_any (λ layer. any_in_layer test field proto chosen layer) layers

abbrev pub all_in_layers : (Value → Truth) → ℕ → ℕ → Layers → List Layer → Truth
all_in_layers test field proto chosen layers =
    list_all (λ layer. all_in_layer test field proto chosen layer) layers
