-- A column that grows value by value holds the chosen values, joined.
use Rattle.std.proofs.Common.{◌≡◌, ℕ, suc, ◌-◌, true, false, List, [], ◌∷◌, ◌++◌, length, drop, refl, ap, ◌∙◌, arith, append-nil}
use Rattle.std.specs.List.{flat_map, fold}
use Rattle.pk_fields.specs.Fields.{row_of}
use Rattle.pk_base.specs.declared.value.Value.{Value}
use Rattle.pk_tree.specs.declared.layer.Layer.{Layer}
use Rattle.pk_base.specs.declared.chosen.Layers.TheVariants.{All as AllLayers}
use Rattle.pk_tree.specs.FieldValues.{item_values, layer_values, values_of}
use Rattle.pk_tree.specs.Trees.{TreeShown}
use Rattle.pk_tree.specs.Values.{is_proto}
use Rattle.out_lines.specs.declared.style.Occurrence.{Occurrence}
use Rattle.out_lines.specs.declared.style.Occurrence.TheVariants.{First, Last, All}
use Rattle.out_lines.specs.declared.style.Style.{Style}
use Rattle.out_lines.specs.Columns.{ColumnShown, with_value, with_values, written}
use Rattle.out_lines.specs.Lines.{chosen, column_of, column_text}
use Rattle.out_lines.specs.ValueText.{shown_value}

-- the values of a field that is no protocol
pub layers_of_field : (buffers : List (List ℕ)) (field : ℕ) (layers : List Layer) → is_proto (row_of field).kind ≡ false →
    flat_map (layer_values buffers field) layers ≡ flat_map (λ (layer : Layer). item_values field layer.items) layers
unfolding layer_values
layers_of_field buffers field [] is = refl
layers_of_field buffers field (layer ∷ layers) is = rw (is, layers_of_field buffers field layers is) refl

pub tree_values_of_field : (t : TreeShown) (field : ℕ) → is_proto (row_of field).kind ≡ false →
    values_of t field AllLayers ≡ flat_map (λ (layer : Layer). item_values field layer.items) t.layers
unfolding values_of
tree_values_of_field t field is = layers_of_field t.buffers field t.layers is

abbrev filled_with : List ℕ → ColumnShown
filled_with text = record { text = text; filled = true }

first_stays : (aggregator field : ℕ) (text : List ℕ) (values : List Value) →
    fold (with_value First aggregator field) (filled_with text) values ≡ filled_with text
unfolding with_value
first_stays aggregator field text [] = refl
first_stays aggregator field text (value ∷ values) = first_stays aggregator field text values

more_joined : (text shown rest : List ℕ) (aggregator : ℕ) →
    ((text ++ aggregator ∷ []) ++ shown) ++ rest ≡ text ++ (aggregator ∷ (shown ++ rest))
more_joined [] shown rest aggregator = refl
more_joined (byte ∷ text) shown rest aggregator = ap (λ bytes. byte ∷ bytes) (more_joined text shown rest aggregator)

all_joined : (aggregator field : ℕ) (text : List ℕ) (values : List Value) →
    fold (with_value All aggregator field) (filled_with text) values
    ≡ filled_with (text ++ flat_map (λ value. (aggregator ∷ []) ++ shown_value field value) values)
unfolding with_value
all_joined aggregator field text [] = rw (append-nil text) refl
all_joined aggregator field text (value ∷ values) =
    all_joined aggregator field ((text ++ aggregator ∷ []) ++ shown_value field value) values
    ∙ ap filled_with (more_joined text (shown_value field value) (flat_map (λ v. (aggregator ∷ []) ++ shown_value field v) values) aggregator)

abbrev last_of : Value → List Value → Value
last_of value [] = value
last_of value (next ∷ values) = last_of next values

last_stands : (aggregator field : ℕ) (column : ColumnShown) (value : Value) (values : List Value) →
    fold (with_value Last aggregator field) column (value ∷ values) ≡ filled_with (shown_value field (last_of value values))
unfolding with_value
last_stands aggregator field column value [] = refl
last_stands aggregator field column value (next ∷ values) =
    last_stands aggregator field (filled_with (shown_value field value)) next values

last_chosen : (value : Value) (values : List Value) → drop (length (value ∷ values) - 1) (value ∷ values) ≡ last_of value values ∷ []
last_chosen value [] = refl
last_chosen value (next ∷ values) =
    let one_less : length (value ∷ next ∷ values) - 1 ≡ suc (length (next ∷ values) - 1) = omega arith in
    rw one_less (last_chosen next values)

-- what a column of these values writes
values_written : (style : Style) (field : ℕ) (occurrence : Occurrence) (values : List Value) →
    written style.quote (fold (with_value occurrence style.aggregator field) (record { text = []; filled = false }) values)
    ≡ column_of style field (chosen occurrence values)
unfolding with_value
values_written style field First [] = refl
values_written style field Last [] = refl
values_written style field All [] = refl
values_written style field First (value ∷ values) =
    rw (first_stays style.aggregator field (shown_value field value) values, append-nil (shown_value field value)) refl
values_written style field Last (value ∷ values) =
    rw (last_stands style.aggregator field (record { text = []; filled = false }) value values, last_chosen value values, append-nil (shown_value field (last_of value values))) refl
values_written style field All (value ∷ values) = rw (all_joined style.aggregator field (shown_value field value) values) refl

pub column_written : (style : Style) (t : TreeShown) (field : ℕ) →
    written style.quote (with_values style field (record { text = []; filled = false }) (flat_map (layer_values t.buffers field) t.layers))
    ≡ column_text t style field
unfolding column_text values_of
column_written style t field = values_written style field style.occurrence (flat_map (layer_values t.buffers field) t.layers)
