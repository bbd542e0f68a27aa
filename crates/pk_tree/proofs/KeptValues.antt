-- A tree of some fields has the same values of these fields as the whole tree.
use Rattle.std.proofs.Common.{◌≡◌, ◌==◌, ℕ, Bool, true, false, cond, List, [], ◌∷◌, map, refl, sym, ap, ◌∙◌}
use Rattle.std.specs.List.{flat_map}
use Rattle.std.proofs.lemmas.Bool.{eqb-true}
use Rattle.pk_fields.specs.Fields.{row_of}
use Rattle.pk_fields.specs.FieldSets.{is_in}
use Rattle.pk_base.specs.declared.chosen.Layers.{Layers}
use Rattle.pk_tree.specs.declared.item.Item.{Item}
use Rattle.pk_tree.specs.declared.layer.Layer.{Layer}
use Rattle.pk_base.specs.declared.value.Value.{Value}
use Rattle.pk_base.specs.Chosen.{is_chosen}
use Rattle.pk_tree.specs.FieldValues.{item_values, proto_values, layer_values, chosen_values, values_of}
use Rattle.pk_tree.specs.Trees.{TreeShown, kept, kept_layer, kept_tree}
use Rattle.pk_tree.specs.Values.{is_proto}

-- among a layer's items
items_same : (wanted : List ℕ) (field : ℕ) (items : List Item) → is_in wanted field ≡ true → item_values field (kept wanted items) ≡ item_values field items
unfolding kept
items_same wanted field [] is = refl
items_same wanted field (item ∷ items) is = by_test (items_same wanted field items is) (is_in wanted item.field) refl
  where
    grow : List Value → List Value
    grow rest = cond (item.field == field) (item.value ∷ rest) rest

    grows : (rest : List Item) (test : Bool) → (item.field == field) ≡ test → item_values field (item ∷ rest) ≡ grow (item_values field rest)
    grows rest true same = rw same refl
    grows rest false same = rw same refl

    other : item_values field (kept wanted items) ≡ item_values field items → is_in wanted item.field ≡ false → (test : Bool) → (item.field == field) ≡ test → item_values field (kept wanted items) ≡ grow (item_values field items)
    other rest none true same =
        let both : is_in wanted item.field ≡ true = ap (λ f. is_in wanted f) (eqb-true item.field field same) ∙ is in
        absurd (cc)
    other rest none false same = rw same rest

    by_test : item_values field (kept wanted items) ≡ item_values field items → (test : Bool) → is_in wanted item.field ≡ test → item_values field (cond (is_in wanted item.field) (item ∷ kept wanted items) (kept wanted items)) ≡ item_values field (item ∷ items)
    by_test rest true has =
        rw has (grows (kept wanted items) (item.field == field) refl ∙ ap grow rest ∙ sym (grows items (item.field == field) refl))
    by_test rest false none =
        rw none (other rest none (item.field == field) refl ∙ sym (grows items (item.field == field) refl))

layer_same : (wanted : List ℕ) (buffers : List (List ℕ)) (field : ℕ) (layers : Layers) (layer : Layer) → is_in wanted field ≡ true →
    chosen_values buffers field layers (kept_layer wanted layer) ≡ chosen_values buffers field layers layer
unfolding layer_values
layer_same wanted buffers field layers layer is =
    ap (λ (values : List Value). cond (is_chosen layers layer.nth) (cond (is_proto (row_of field).kind) (proto_values buffers field layer) values) []) (items_same wanted field layer.items is)

layers_same : (wanted : List ℕ) (buffers : List (List ℕ)) (field : ℕ) (chosen : Layers) (layers : List Layer) → is_in wanted field ≡ true →
    flat_map (λ layer. chosen_values buffers field chosen layer) (map (kept_layer wanted) layers) ≡ flat_map (λ layer. chosen_values buffers field chosen layer) layers
layers_same wanted buffers field chosen [] is = refl
layers_same wanted buffers field chosen (layer ∷ layers) is =
    rw (layer_same wanted buffers field chosen layer is, layers_same wanted buffers field chosen layers is) refl

pub values_same : (wanted : List ℕ) (t : TreeShown) (field : ℕ) (layers : Layers) → is_in wanted field ≡ true → values_of (kept_tree wanted t) field layers ≡ values_of t field layers
unfolding values_of
values_same wanted t field layers is = layers_same wanted t.buffers field layers t.layers is
