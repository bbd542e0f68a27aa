-- Layers that keep the items of some fields read the same in these.
use Rattle.std.proofs.Common.{◌≡◌, ◌==◌, ℕ, Bool, true, false, cond, List, [], ◌∷◌, option_and_then, refl, sym, ap, ◌∙◌}
use Rattle.std.proofs.lemmas.Bool.{eqb-true}
use Rattle.pk_fields.specs.FieldSets.{is_in}
use Rattle.pk_tree.specs.declared.item.Item.{Item}
use Rattle.pk_tree.specs.declared.layer.Layer.{Layer}
use Rattle.pk_base.specs.declared.value.Value.{Value}
use Rattle.pk_tree.specs.FieldValues.{item_values}
use Rattle.pk_tree.specs.Trees.{kept, kept_layer}
use Rattle.second_pass.specs.Named.{number_of, truth_of, address4_of, address6_of, first_value, number_in, truth_in, address4_in, address6_in}

-- among a layer's items
items_same : (wanted : List ℕ) (field : ℕ) (items : List Item) → is_in wanted field ≡ true → item_values field (kept wanted items) ≡ item_values field items
unfolding kept
items_same wanted field [] is = refl
items_same wanted field (item ∷ items) is = by_test (items_same wanted field items is) (is_in wanted item.field) refl
  where
    grow : List Value → List Value
    grow rest = cond (item.field == field) (item.value ∷ rest) rest

    grows : (rest : List Item) (test : Bool) → (item.field == field) ≡ test → item_values field (item ∷ rest) ≡ grow (item_values field rest)
    grows rest true same = rw same refl
    grows rest false same = rw same refl

    other : item_values field (kept wanted items) ≡ item_values field items → is_in wanted item.field ≡ false → (test : Bool) → (item.field == field) ≡ test → item_values field (kept wanted items) ≡ grow (item_values field items)
    other rest none true same =
        let both : is_in wanted item.field ≡ true = ap (λ f. is_in wanted f) (eqb-true item.field field same) ∙ is in
        absurd (cc)
    other rest none false same = rw same rest

    by_test : item_values field (kept wanted items) ≡ item_values field items → (test : Bool) → is_in wanted item.field ≡ test → item_values field (cond (is_in wanted item.field) (item ∷ kept wanted items) (kept wanted items)) ≡ item_values field (item ∷ items)
    by_test rest true has =
        rw has (grows (kept wanted items) (item.field == field) refl ∙ ap grow rest ∙ sym (grows items (item.field == field) refl))
    by_test rest false none =
        rw none (other rest none (item.field == field) refl ∙ sym (grows items (item.field == field) refl))

module _ (wanted : List ℕ) where
  pub number_same : (field : ℕ) → is_in wanted field ≡ true → (layer : Layer) → number_in field (kept_layer wanted layer) ≡ number_in field layer
  number_same field is layer = ap (λ (v : List Value). option_and_then number_of (first_value v)) (items_same wanted field layer.items is)

  pub truth_same : (field : ℕ) → is_in wanted field ≡ true → (layer : Layer) → truth_in field (kept_layer wanted layer) ≡ truth_in field layer
  truth_same field is layer = ap (λ (v : List Value). option_and_then truth_of (first_value v)) (items_same wanted field layer.items is)

  pub address4_same : (field : ℕ) → is_in wanted field ≡ true → (layer : Layer) → address4_in field (kept_layer wanted layer) ≡ address4_in field layer
  address4_same field is layer = ap (λ (v : List Value). option_and_then address4_of (first_value v)) (items_same wanted field layer.items is)

  pub address6_same : (field : ℕ) → is_in wanted field ≡ true → (layer : Layer) → address6_in field (kept_layer wanted layer) ≡ address6_in field layer
  address6_same field is layer = ap (λ (v : List Value). option_and_then address6_of (first_value v)) (items_same wanted field layer.items is)
