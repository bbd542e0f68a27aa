-- The values of a field, asked layer by layer.
use Rattle.std.proofs.Common.{◌≡◌, ◌==◌, ℕ, Bool as Truth, true, false, cond, List, [], ◌∷◌, ◌++◌, map, ap, sym, ◌∙◌, refl}
use Rattle.std.specs.Prelude.{◌&&◌, ◌||◌, not}
use Rattle.std.proofs.lemmas.Bool.{ne_eqb, eqb-false}
use Rattle.std.proofs.lemmas.List.Folds.{list_all-append, list_any-append}
use Rattle.std.specs.List.{AllByRecursion as Each, filter, flat_map, list_any, list_all}
use Rattle.flt_lists.specs.Passes.{is_some_value}
use Rattle.flt_lists.specs.Questions.{is_so}
use Rattle.flt_lists.specs.declared.question.Question.TheVariants.{IsThere}
use Rattle.flt_lists.specs.Walks.{all_in_layers, all_items, any_in_layers, any_item, is_asked}
use Rattle.pk_tree.specs.Buffers.{bytes_of}
use Rattle.pk_fields.specs.Fields.{row_of}
use Rattle.pk_tree.proofs.FieldLemmas.{no_items}
use Rattle.pk_base.specs.Chosen.{is_chosen}
use Rattle.pk_tree.specs.FieldValues.{chosen_values, item_values, layer_values, proto_values, values_of}
use Rattle.pk_tree.specs.Trees.{ItemFits, IsTree, LayersFit, TreeShown}
use Rattle.pk_tree.specs.Values.{is_proto}
use Rattle.pk_base.specs.declared.chosen.Layers.{Layers}
use Rattle.pk_tree.specs.declared.item.Item.{Item}
use Rattle.pk_tree.specs.declared.layer.Layer.{Layer}
use Rattle.pk_base.specs.declared.value.Value.{Value}
use Rattle.pk_base.specs.declared.value.Value.TheVariants.{Proto}

-- among items
any_one : (test : Value → Truth) (item : Item) (rest : List Item) (is : Truth) {more : Truth} → list_any test (map (λ (i : Item). i.value) rest) ≡ more →
    list_any test (map (λ (i : Item). i.value) (cond is (item ∷ rest) rest)) ≡ ((is && test item.value) || more)
any_one test item rest true e = ap (λ m. test item.value || m) e
any_one test item rest false e = e

any_values : (test : Value → Truth) (field : ℕ) (items : List Item) → list_any test (item_values field items) ≡ any_item test field items
any_values test field [] = refl
any_values test field (item ∷ items) = any_one test item (filter (λ (i : Item). i.field == field) items) (item.field == field) (any_values test field items)

all_one : (test : Value → Truth) (item : Item) (rest : List Item) (is : Truth) {more : Truth} → list_all test (map (λ (i : Item). i.value) rest) ≡ more →
    list_all test (map (λ (i : Item). i.value) (cond is (item ∷ rest) rest)) ≡ ((not is || test item.value) && more)
all_one test item rest true e = ap (λ m. test item.value && m) e
all_one test item rest false e = e

all_values : (test : Value → Truth) (field : ℕ) (items : List Item) → list_all test (item_values field items) ≡ all_items test field items
all_values test field [] = refl
all_values test field (item ∷ items) = all_one test item (filter (λ (i : Item). i.field == field) items) (item.field == field) (all_values test field items)

other_way : (a b : ℕ) → (a == b) ≡ false → (b == a) ≡ false
other_way a b e = ne_eqb b a (λ same. eqb-false a b e (sym same))

-- in a layer, whose items are of its protocol
any_layer : (test : Value → Truth) (buffers : List (List ℕ)) (field : ℕ) (layer : Layer) (chosen own : Truth) → (layer.proto == (row_of field).proto) ≡ own →
    Each (ItemFits buffers layer.proto) layer.items → list_any test (cond chosen (item_values field layer.items) []) ≡ ((own && chosen) && any_item test field layer.items)
any_layer test buffers field layer true true same each = any_values test field layer.items
any_layer test buffers field layer false true same each = refl
any_layer test buffers field layer true false other each = ap (list_any test) (no_items buffers layer.proto field layer.items each (other_way layer.proto (row_of field).proto other))
any_layer test buffers field layer false false other each = refl

all_layer : (test : Value → Truth) (buffers : List (List ℕ)) (field : ℕ) (layer : Layer) (chosen own : Truth) → (layer.proto == (row_of field).proto) ≡ own →
    Each (ItemFits buffers layer.proto) layer.items → list_all test (cond chosen (item_values field layer.items) []) ≡ (not (own && chosen) || all_items test field layer.items)
all_layer test buffers field layer true true same each = all_values test field layer.items
all_layer test buffers field layer false true same each = refl
all_layer test buffers field layer true false other each = ap (list_all test) (no_items buffers layer.proto field layer.items each (other_way layer.proto (row_of field).proto other))
all_layer test buffers field layer false false other each = refl

any_chosen : (test : Value → Truth) (buffers : List (List ℕ)) (field : ℕ) (chosen : Layers) (layer : Layer) → Each (ItemFits buffers layer.proto) layer.items → is_proto (row_of field).kind ≡ false →
    list_any test (chosen_values buffers field chosen layer) ≡ (is_asked (row_of field).proto chosen layer && any_item test field layer.items)
unfolding layer_values
any_chosen test buffers field chosen layer each kind =
    ap (λ b. list_any test (cond (is_chosen chosen layer.nth) (cond b (proto_values buffers field layer) (item_values field layer.items)) [])) kind
    ∙ any_layer test buffers field layer (is_chosen chosen layer.nth) (layer.proto == (row_of field).proto) refl each

all_chosen : (test : Value → Truth) (buffers : List (List ℕ)) (field : ℕ) (chosen : Layers) (layer : Layer) → Each (ItemFits buffers layer.proto) layer.items → is_proto (row_of field).kind ≡ false →
    list_all test (chosen_values buffers field chosen layer) ≡ (not (is_asked (row_of field).proto chosen layer) || all_items test field layer.items)
unfolding layer_values
all_chosen test buffers field chosen layer each kind =
    ap (λ b. list_all test (cond (is_chosen chosen layer.nth) (cond b (proto_values buffers field layer) (item_values field layer.items)) [])) kind
    ∙ all_layer test buffers field layer (is_chosen chosen layer.nth) (layer.proto == (row_of field).proto) refl each

-- in all layers
or_parts : {a b c d : Truth} → a ≡ b → c ≡ d → (a || c) ≡ (b || d)
or_parts {a} {b} {c} {d} e f = ap (λ t. t || c) e ∙ ap (λ t. b || t) f

and_parts : {a b c d : Truth} → a ≡ b → c ≡ d → (a && c) ≡ (b && d)
and_parts {a} {b} {c} {d} e f = ap (λ t. t && c) e ∙ ap (λ t. b && t) f

any_walk : (test : Value → Truth) (buffers : List (List ℕ)) (field : ℕ) (chosen : Layers) (before layers : List Layer) → LayersFit buffers before layers → is_proto (row_of field).kind ≡ false →
    list_any test (flat_map (λ layer. chosen_values buffers field chosen layer) layers) ≡ any_in_layers test field (row_of field).proto chosen layers
any_walk test buffers field chosen before [] fit kind = refl
any_walk test buffers field chosen before (layer ∷ layers) fit kind =
    list_any-append test (chosen_values buffers field chosen layer) (flat_map (λ l. chosen_values buffers field chosen l) layers)
    ∙ or_parts (any_chosen test buffers field chosen layer fit.0.items kind) (any_walk test buffers field chosen (before ++ layer ∷ []) layers fit.1 kind)

all_walk : (test : Value → Truth) (buffers : List (List ℕ)) (field : ℕ) (chosen : Layers) (before layers : List Layer) → LayersFit buffers before layers → is_proto (row_of field).kind ≡ false →
    list_all test (flat_map (λ layer. chosen_values buffers field chosen layer) layers) ≡ all_in_layers test field (row_of field).proto chosen layers
all_walk test buffers field chosen before [] fit kind = refl
all_walk test buffers field chosen before (layer ∷ layers) fit kind =
    list_all-append test (chosen_values buffers field chosen layer) (flat_map (λ l. chosen_values buffers field chosen l) layers)
    ∙ and_parts (all_chosen test buffers field chosen layer fit.0.items kind) (all_walk test buffers field chosen (before ++ layer ∷ []) layers fit.1 kind)

pub any_walked : (test : Value → Truth) (t : TreeShown) (field : ℕ) (chosen : Layers) → IsTree t → is_proto (row_of field).kind ≡ false →
    any_in_layers test field (row_of field).proto chosen t.layers ≡ list_any test (values_of t field chosen)
unfolding values_of
any_walked test t field chosen fit kind = sym (any_walk test t.buffers field chosen [] t.layers fit.layers kind)

pub all_walked : (test : Value → Truth) (t : TreeShown) (field : ℕ) (chosen : Layers) → IsTree t → is_proto (row_of field).kind ≡ false →
    all_in_layers test field (row_of field).proto chosen t.layers ≡ list_all test (values_of t field chosen)
unfolding values_of
all_walked test t field chosen fit kind = sym (all_walk test t.buffers field chosen [] t.layers fit.layers kind)

-- that a value is there
some_true : (vs : List Value) → list_any (λ v. true) vs ≡ is_some_value vs
some_true [] = refl
some_true (v ∷ vs) = refl

pub item_there : (t : TreeShown) (field : ℕ) (chosen : Layers) → IsTree t → is_proto (row_of field).kind ≡ false →
    any_in_layers (λ v. is_so IsThere v) field (row_of field).proto chosen t.layers ≡ is_some_value (values_of t field chosen)
item_there t field chosen fit kind = any_walked (λ v. true) t field chosen fit kind ∙ some_true (values_of t field chosen)

some_both : (xs ys : List Value) → is_some_value (xs ++ ys) ≡ (is_some_value xs || is_some_value ys)
some_both [] ys = refl
some_both (x ∷ xs) ys = refl

layer_there : (chosen own : Truth) (v : Value) → is_some_value (cond chosen (cond own (v ∷ []) []) []) ≡ (own && chosen)
layer_there true true v = refl
layer_there true false v = refl
layer_there false true v = refl
layer_there false false v = refl

chosen_there : (buffers : List (List ℕ)) (field : ℕ) (chosen : Layers) (layer : Layer) → is_proto (row_of field).kind ≡ true →
    is_some_value (chosen_values buffers field chosen layer) ≡ is_asked field chosen layer
unfolding layer_values
chosen_there buffers field chosen layer kind =
    ap (λ b. is_some_value (cond (is_chosen chosen layer.nth) (cond b (proto_values buffers field layer) (item_values field layer.items)) [])) kind
    ∙ layer_there (is_chosen chosen layer.nth) (layer.proto == field) (Proto (bytes_of buffers layer.span))

layers_there : (buffers : List (List ℕ)) (field : ℕ) (chosen : Layers) (layers : List Layer) → is_proto (row_of field).kind ≡ true →
    is_some_value (flat_map (λ layer. chosen_values buffers field chosen layer) layers) ≡ list_any (λ layer. is_asked field chosen layer) layers
layers_there buffers field chosen [] kind = refl
layers_there buffers field chosen (layer ∷ layers) kind =
    some_both (chosen_values buffers field chosen layer) (flat_map (λ l. chosen_values buffers field chosen l) layers)
    ∙ or_parts (chosen_there buffers field chosen layer kind) (layers_there buffers field chosen layers kind)

pub proto_there : (t : TreeShown) (field : ℕ) (chosen : Layers) → is_proto (row_of field).kind ≡ true →
    list_any (λ layer. is_asked field chosen layer) t.layers ≡ is_some_value (values_of t field chosen)
unfolding values_of
proto_there t field chosen kind = sym (layers_there t.buffers field chosen t.layers kind)
