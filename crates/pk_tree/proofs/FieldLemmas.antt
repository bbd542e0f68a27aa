-- The values of a field in layers that fit.
use Rattle.std.proofs.Common.{◌≡◌, ◌==◌, ℕ, Bool as Truth, true, false, cond, List, [], ◌∷◌, ◌++◌, map, ap, subst, sym, ◌∙◌, refl}
use Rattle.std.specs.List.{AllByRecursion as Each, filter, flat_map}
use Rattle.std.proofs.lemmas.Bool.{ne_eqb, eqb-false, eqb-true}
use Rattle.pk_tree.specs.Buffers.{bytes_of}
use Rattle.pk_fields.specs.declared.value_kind.ValueKind.{ValueKind}
use Rattle.pk_fields.specs.declared.value_kind.ValueKind.TheVariants as kinds
use Rattle.pk_fields.specs.Fields.{row_of}
use Rattle.pk_base.specs.declared.value.Value.TheVariants.{Proto}
use Rattle.pk_tree.specs.declared.item.Item.{Item}
use Rattle.pk_tree.specs.declared.layer.Layer.{Layer}
use Rattle.pk_base.specs.declared.chosen.Layers.{Layers}
use Rattle.pk_base.specs.Chosen.{is_chosen}
use Rattle.pk_tree.specs.FieldValues.{item_values, proto_values, layer_values, chosen_values}
use Rattle.pk_tree.specs.Trees.{ItemFits, LayersFit}
use Rattle.pk_tree.specs.Values.{IsOfKind, is_proto}

-- a layer has no items of another protocol's fields
pub no_items : (buffers : List (List ℕ)) (proto field : ℕ) (items : List Item) → Each (ItemFits buffers proto) items → ((row_of field).proto == proto) ≡ false →
    item_values field items ≡ []
no_items buffers proto field [] each other = refl
no_items buffers proto field (item ∷ items) each other =
    let differs : (item.field == field) ≡ false =
    ne_eqb item.field field (λ same. eqb-false (row_of field).proto proto other (ap (λ f. (row_of f).proto) (sym same) ∙ each.0.belongs)) in
    rw differs (no_items buffers proto field items each.1 other)

-- the values of a field are of its kind
each_append : {A : Type 0} (P : A → Type 0) (xs ys : List A) → Each P xs → Each P ys → Each P (xs ++ ys)
each_append P [] ys front back = back
each_append P (x ∷ xs) ys front back = (front.0, each_append P xs ys front.1 back)

each_test : {A B : Type 0} (P : B → Type 0) (f : A → B) (test : Truth) (x : A) (xs : List A) → (test ≡ true → P (f x)) → Each P (map f xs) → Each P (map f (cond test (x ∷ xs) xs))
each_test P f true x xs first rest = (first refl, rest)
each_test P f false x xs first rest = rest

item_values_kind : (buffers : List (List ℕ)) (proto field : ℕ) (items : List Item) → Each (ItemFits buffers proto) items → Each (IsOfKind (row_of field).kind) (item_values field items)
item_values_kind buffers proto field [] each = tt
item_values_kind buffers proto field (item ∷ items) each =
    each_test (IsOfKind (row_of field).kind) (λ (i : Item). i.value) (item.field == field) item (filter (λ (i : Item). i.field == field) items) (λ same. subst (λ (f : ℕ). IsOfKind (row_of f).kind item.value) (eqb-true item.field field same) each.0.kind) (item_values_kind buffers proto field items each.1)

proto_values_kind : (kind : ValueKind) (bytes : List ℕ) (test : Truth) → is_proto kind ≡ true → Each (IsOfKind kind) (cond test (Proto bytes ∷ []) [])
proto_values_kind kinds.Proto bytes true is = (tt, tt)
proto_values_kind kinds.Proto bytes false is = tt
proto_values_kind kind bytes test is = absurd (cc)

layer_values_kind : (buffers : List (List ℕ)) (field : ℕ) (layer : Layer) → Each (ItemFits buffers layer.proto) layer.items → Each (IsOfKind (row_of field).kind) (layer_values buffers field layer)
unfolding layer_values
layer_values_kind buffers field layer each = by_test (is_proto (row_of field).kind) refl
  where
    by_test : (test : Truth) → is_proto (row_of field).kind ≡ test → Each (IsOfKind (row_of field).kind) (cond test (proto_values buffers field layer) (item_values field layer.items))
    by_test true is = proto_values_kind (row_of field).kind (bytes_of buffers layer.span) (layer.proto == field) is
    by_test false is = item_values_kind buffers layer.proto field layer.items each

chosen_kind : (buffers : List (List ℕ)) (field : ℕ) (layer : Layer) (test : Truth) → Each (ItemFits buffers layer.proto) layer.items →
    Each (IsOfKind (row_of field).kind) (cond test (layer_values buffers field layer) [])
chosen_kind buffers field layer true each = layer_values_kind buffers field layer each
chosen_kind buffers field layer false each = tt

pub layers_kind : (buffers : List (List ℕ)) (field : ℕ) (chosen : Layers) (before layers : List Layer) → LayersFit buffers before layers →
    Each (IsOfKind (row_of field).kind) (flat_map (λ layer. chosen_values buffers field chosen layer) layers)
layers_kind buffers field chosen before [] fit = tt
layers_kind buffers field chosen before (layer ∷ layers) fit =
    each_append (IsOfKind (row_of field).kind) (chosen_values buffers field chosen layer) (flat_map (λ l. chosen_values buffers field chosen l) layers) (chosen_kind buffers field layer (is_chosen chosen layer.nth) fit.0.items) (layers_kind buffers field chosen (before ++ layer ∷ []) layers fit.1)
