-- A tree that lacks only layers with nothing to show, and buffers, has the same values of the wanted fields.
use Rattle.std.proofs.Common.{◌≡◌, ◌==◌, ℕ, Bool, true, false, cond, if◌then◌else◌, List, [], ◌∷◌, ◌++◌, length, refl, sym, ap, ◌∙◌, arith, true≢false}
use Rattle.std.specs.List.{AllByRecursion as Each, flat_map}
use Rattle.std.proofs.lemmas.Bool.{eqb-true}
use Rattle.pk_tree.specs.Buffers.{IsInside, bytes_of}
use Rattle.pk_fields.specs.Fields.{row_of}
use Rattle.pk_fields.specs.FieldSets.{is_in}
use Rattle.pk_base.specs.declared.chosen.Layers.{Layers}
use Rattle.pk_tree.specs.declared.layer.Layer.{Layer}
use Rattle.pk_base.specs.declared.value.Value.{Value}
use Rattle.pk_base.specs.declared.value.Value.TheVariants.{Proto}
use Rattle.pk_base.specs.Chosen.{is_chosen}
use Rattle.pk_tree.specs.FieldValues.{chosen_values, item_values, layer_values, proto_values, values_of}
use Rattle.pk_tree.specs.Trees.{IsTree, LayersFit, TreeShown}
use Rattle.pk_tree.specs.Values.{is_proto}
use Rattle.app_layers.specs.Aside.{IsAside, LacksOnly}
use Rattle.app_layers.proofs.MessageBuffers.{GrowsBy, bytes_stay}
use Rattle.dissect.specs.Followed.{HasSameValues}

proto_aside : (buffers : List (List ℕ)) (wanted : List ℕ) (field : ℕ) (layer : Layer) → is_in wanted layer.proto ≡ false → is_in wanted field ≡ true → proto_values buffers field layer ≡ []
proto_aside buffers wanted field layer aside is = by_test (layer.proto == field) refl
  where
    by_test : (test : Bool) → (layer.proto == field) ≡ test → (if test then Proto (bytes_of buffers layer.span) ∷ [] else []) ≡ []
    by_test true same = absurd (true≢false (sym is ∙ ap (λ (f : ℕ). is_in wanted f) (sym (eqb-true layer.proto field same)) ∙ aside))
    by_test false same = refl

if_none : (test : Bool) (xs ys : List Value) → xs ≡ [] → ys ≡ [] → (if test then xs else ys) ≡ []
if_none true xs ys one other = one
if_none false xs ys one other = other

layer_aside : (buffers : List (List ℕ)) (wanted : List ℕ) (field : ℕ) (layers : Layers) (layer : Layer) → IsAside wanted layer → is_in wanted field ≡ true → chosen_values buffers field layers layer ≡ []
unfolding layer_values
layer_aside buffers wanted field layers layer aside is =
    if_none (is_chosen layers layer.nth) _ []
    (if_none (is_proto (row_of field).kind) _ _ (proto_aside buffers wanted field layer aside.0 is) (ap (item_values field) aside.1)) refl

all_aside : (buffers : List (List ℕ)) (wanted : List ℕ) (field : ℕ) (layers : Layers) (more : List Layer) → Each (IsAside wanted) more → is_in wanted field ≡ true
    → flat_map (λ layer. chosen_values buffers field layers layer) more ≡ []
all_aside buffers wanted field layers [] aside is = refl
all_aside buffers wanted field layers (layer ∷ more) aside is =
    rw (layer_aside buffers wanted field layers layer aside.0 is, all_aside buffers wanted field layers more aside.1 is) refl

-- with more buffers each layer has the same values
layer_stays : (old new : List (List ℕ)) (most field : ℕ) (layers : Layers) (layer : Layer) → GrowsBy most old new → IsInside old layer.span → chosen_values new field layers layer ≡ chosen_values old field layers layer
unfolding layer_values
layer_stays old new most field layers layer grows inside =
    ap (λ (bytes : List ℕ). cond (is_chosen layers layer.nth) (cond (is_proto (row_of field).kind) (cond (layer.proto == field) (Proto bytes ∷ []) []) (item_values field layer.items)) [])
    (bytes_stay old new most layer.span grows inside)

all_stay : (old new : List (List ℕ)) (most field : ℕ) (layers : Layers) (before own more : List Layer) → GrowsBy most old new → LayersFit old before own
    → flat_map (λ layer. chosen_values new field layers layer) more ≡ []
    → flat_map (λ layer. chosen_values new field layers layer) (own ++ more) ≡ flat_map (λ layer. chosen_values old field layers layer) own
all_stay old new most field layers before [] more grows fit none = none
all_stay old new most field layers before (layer ∷ own) more grows fit none =
    rw (layer_stays old new most field layers layer grows fit.0.inside, all_stay old new most field layers (before ++ layer ∷ []) own more grows fit.1 none) refl

pub same_values : (whole t : TreeShown) → IsTree t → LacksOnly whole t → HasSameValues whole.wanted whole t
unfolding values_of
same_values whole t tree lacks = λ field layers is.
    let grows : GrowsBy (length lacks.buffers) t.buffers whole.buffers = record { more = lacks.buffers; all = lacks.whole_buffers; few = omega arith } in
    sym (ap (λ (ls : List Layer). flat_map (λ layer. chosen_values whole.buffers field layers layer) ls) lacks.whole_layers
    ∙ all_stay t.buffers whole.buffers (length lacks.buffers) field layers [] t.layers lacks.layers grows tree.layers (all_aside whole.buffers whole.wanted field layers lacks.layers lacks.aside is))
