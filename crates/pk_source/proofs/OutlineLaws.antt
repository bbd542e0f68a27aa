-- The tree that headers are shown as has the values that are found in the headers.
use Rattle.std.proofs.Common.{◌≡◌, ◌==◌, ◌&&◌, ℕ, Bool as Truth, true, false, cond, List, [], ◌∷◌, ◌++◌, map, slice_get, Option, None, Some, refl, ap, sym, ◌∙◌}
use Rattle.std.specs.List.{AllByRecursion as Each, flat_map}
use Rattle.std.specs.Option.{option_map, option_map_or}
use Rattle.std.proofs.lemmas.Bool.{eqb-false, ne_eqb, eqb-true}
use Rattle.std.proofs.lemmas.List.{map-append}
use Rattle.std.proofs.lemmas.Option.{slice_get-map}
use Rattle.pk_base.specs.Chosen.{is_chosen}
use Rattle.pk_base.specs.declared.chosen.Layers.{Layers}
use Rattle.pk_base.specs.declared.chosen.Layers.TheVariants.{All as AllLayers}
use Rattle.pk_base.specs.declared.value.Value.{Value}
use Rattle.pk_base.specs.declared.value.Value.TheVariants as values
use Rattle.pk_fields.specs.FieldSets.{is_in}
use Rattle.pk_fields.specs.Fields.{row_of}
use Rattle.pk_fields.specs.declared.value_kind.ValueKind.{ValueKind}
use Rattle.pk_fields.specs.declared.value_kind.ValueKind.TheVariants as kinds
use Rattle.pk_source.proofs.FitLemmas.{all_get, each_note, each_whole, items_fit}
use Rattle.pk_source.proofs.Placed.{kept_values, notes_placed, placed, unwanted_values, values-append}
use Rattle.pk_source.specs.Found.{all_told, asked_told, fields_told, first_in, first_told, header_told, layer_told, layers_told, notes_told, rows_told, told_in, value_at}
use Rattle.pk_source.specs.Outlines.{IsOutline, IsReadWhole, NoteFits, header_items, header_layer, notes_of, outlined, rows_read, sizes_of, told_item}
use Rattle.pk_source.specs.declared.header.Header.{Header}
use Rattle.pk_source.specs.declared.header.Note.{Note}
use Rattle.pk_source.specs.declared.header.Told.TheVariants as tolds
use Rattle.pk_tree.proofs.FieldLemmas.{layers_kind, no_items}
use Rattle.pk_tree.specs.Buffers.{bytes_of}
use Rattle.pk_tree.specs.FieldValues.{chosen_values, item_values, layer_values, proto_values, values_of}
use Rattle.pk_tree.specs.Trees.{IsTree, TreeShown, kept}
use Rattle.pk_tree.specs.Values.{IsOfKind, is_proto, scaled, value_of, value_with}

other_way : (a b : ℕ) → (a == b) ≡ false → (b == a) ≡ false
other_way a b e = ne_eqb b a (λ same. eqb-false a b e (sym same))

same_way : (a b : ℕ) → (a == b) ≡ true → (b == a) ≡ true
same_way a b e = ap (λ n. n == a) (sym (eqb-true a b e)) ∙ ap (λ n. a == n) (eqb-true a b e) ∙ e

-- in the layer of one header
items_told : (buffers : List (List ℕ)) (notes : List Note) (field : ℕ) (h : Header) → (h.proto == (row_of field).proto) ≡ true → item_values field (header_items buffers notes h) ≡ map (value_at buffers field) (header_told field notes h)
unfolding header_items
items_told buffers notes field h own =
    let rows = rows_read buffers h.span (sizes_of h) h.slots.now in
    let beside = map (λ (note : Note). told_item buffers note.field note.told) (notes_of h.proto notes) in
    let found = rows_told h.span (sizes_of h) field h.slots.now in
    values-append field rows beside
    ∙ ap (λ front. front ++ item_values field beside) (placed buffers h.span (sizes_of h) field h.slots.now)
    ∙ ap (λ back. map (value_at buffers field) found ++ back) (notes_placed buffers h.proto field notes (same_way h.proto (row_of field).proto own))
    ∙ sym (map-append (value_at buffers field) found (notes_told field notes))

header_values : (buffers : List (List ℕ)) (wanted : List ℕ) (notes : List Note) (field : ℕ) (h : Header) → IsReadWhole buffers h → Each (NoteFits buffers) notes → is_in wanted field ≡ true → (chosen own : Truth) → (h.proto == (row_of field).proto) ≡ own →
    cond chosen (item_values field (kept wanted (header_items buffers notes h))) [] ≡ map (value_at buffers field) (cond (own && chosen) (header_told field notes h) [])
header_values buffers wanted notes field h whole told is true true own =
    kept_values wanted field (header_items buffers notes h) is ∙ items_told buffers notes field h own
header_values buffers wanted notes field h whole told is true false other =
    kept_values wanted field (header_items buffers notes h) is
    ∙ no_items buffers h.proto field (header_items buffers notes h) (items_fit buffers notes h whole told) (other_way h.proto (row_of field).proto other)
header_values buffers wanted notes field h whole told is false true own = refl
header_values buffers wanted notes field h whole told is false false own = refl

chosen_told : (buffers : List (List ℕ)) (wanted : List ℕ) (notes : List Note) (field : ℕ) (layers : Layers) (h : Header) → IsReadWhole buffers h → Each (NoteFits buffers) notes → is_in wanted field ≡ true → is_proto (row_of field).kind ≡ false →
    chosen_values buffers field layers (header_layer buffers wanted notes h) ≡ map (value_at buffers field) (asked_told field layers notes h)
unfolding layer_values
chosen_told buffers wanted notes field layers h whole told is kind =
    ap (λ b. cond (is_chosen layers h.nth) (cond b (proto_values buffers field (header_layer buffers wanted notes h)) (item_values field (kept wanted (header_items buffers notes h)))) []) kind
    ∙ header_values buffers wanted notes field h whole told is (is_chosen layers h.nth) (h.proto == (row_of field).proto) refl

fields_law : (buffers : List (List ℕ)) (wanted : List ℕ) (notes : List Note) (field : ℕ) (layers : Layers) (headers : List Header) → Each (IsReadWhole buffers) headers → Each (NoteFits buffers) notes → is_in wanted field ≡ true → is_proto (row_of field).kind ≡ false →
    flat_map (λ layer. chosen_values buffers field layers layer) (map (header_layer buffers wanted notes) headers) ≡ map (value_at buffers field) (fields_told field layers notes headers)
unfolding fields_told
fields_law buffers wanted notes field layers [] whole told is kind = refl
fields_law buffers wanted notes field layers (h ∷ headers) whole told is kind =
    ap (λ front. front ++ flat_map (λ layer. chosen_values buffers field layers layer) (map (header_layer buffers wanted notes) headers)) (chosen_told buffers wanted notes field layers h whole.0 told is kind)
    ∙ ap (λ back. map (value_at buffers field) (asked_told field layers notes h) ++ back) (fields_law buffers wanted notes field layers headers whole.1 told is kind)
    ∙ sym (map-append (value_at buffers field) (asked_told field layers notes h) (fields_told field layers notes headers))

-- in the layer of one header, whatever layers are chosen
pub told_in_values : (buffers : List (List ℕ)) (wanted : List ℕ) (notes : List Note) (field : ℕ) (h : Header) → IsReadWhole buffers h → Each (NoteFits buffers) notes →
    item_values field (kept wanted (header_items buffers notes h)) ≡ map (value_at buffers field) (told_in wanted notes field h)
unfolding told_in
told_in_values buffers wanted notes field h whole told = by_test (is_in wanted field) refl
  where
    by_test : (asked : Truth) → is_in wanted field ≡ asked → item_values field (kept wanted (header_items buffers notes h)) ≡ map (value_at buffers field) (cond asked (asked_told field AllLayers notes h) [])
    by_test true is = header_values buffers wanted notes field h whole told is true (h.proto == (row_of field).proto) refl
    by_test false none = unwanted_values wanted field (header_items buffers notes h) none

-- in the layer at a place
pub first_values : (bytes wanted : List ℕ) (headers : List Header) (notes : List Note) (field place : ℕ) → IsOutline bytes wanted headers notes →
    first_in field (slice_get (outlined bytes wanted headers notes).layers place) ≡ option_map (value_at (bytes ∷ []) field) (first_told wanted notes field (slice_get headers place))
unfolding outlined
first_values bytes wanted headers notes field place is =
    ap (first_in field) (slice_get-map (header_layer (bytes ∷ []) wanted notes) headers place) ∙ by_header (slice_get headers place) refl
  where
    by_header : (at : Option Header) → slice_get headers place ≡ at →
        first_in field (option_map (header_layer (bytes ∷ []) wanted notes) at) ≡ option_map (value_at (bytes ∷ []) field) (first_told wanted notes field at)
    by_header None here = refl
    by_header (Some h) here =
        ap (λ (values : List Value). slice_get values 0) (told_in_values (bytes ∷ []) wanted notes field h (all_get (IsReadWhole (bytes ∷ [])) headers place h is.whole here) (each_note bytes wanted headers notes is))
        ∙ slice_get-map (value_at (bytes ∷ []) field) (told_in wanted notes field h) 0

-- a field that isn't wanted has none
none_chosen : (wanted : List ℕ) (field : ℕ) (items : List Value) (chosen : Truth) → items ≡ [] → cond chosen items [] ≡ []
none_chosen wanted field items true none = none
none_chosen wanted field items false none = refl

none_law : (buffers : List (List ℕ)) (wanted : List ℕ) (notes : List Note) (field : ℕ) (layers : Layers) (headers : List Header) → is_in wanted field ≡ false → is_proto (row_of field).kind ≡ false →
    flat_map (λ layer. chosen_values buffers field layers layer) (map (header_layer buffers wanted notes) headers) ≡ []
unfolding layer_values
none_law buffers wanted notes field layers [] none kind = refl
none_law buffers wanted notes field layers (h ∷ headers) none kind =
    let items = item_values field (kept wanted (header_items buffers notes h)) in
    let first : chosen_values buffers field layers (header_layer buffers wanted notes h) ≡ [] =
    ap (λ b. cond (is_chosen layers h.nth) (cond b (proto_values buffers field (header_layer buffers wanted notes h)) items) []) kind
    ∙ none_chosen wanted field items (is_chosen layers h.nth) (unwanted_values wanted field (header_items buffers notes h) none) in
    ap (λ front. front ++ flat_map (λ layer. chosen_values buffers field layers layer) (map (header_layer buffers wanted notes) headers)) first
    ∙ none_law buffers wanted notes field layers headers none kind

-- a protocol's value is all the bytes of its layer
is_whole_layer : (kind : ValueKind) (bytes : List ℕ) (number : ℕ) → is_proto kind ≡ true → value_with kind bytes number ≡ values.Proto bytes
is_whole_layer kinds.Proto bytes number is = refl
is_whole_layer kind bytes number is = absurd (cc)

pub proto_value : (field : ℕ) (bytes : List ℕ) → is_proto (row_of field).kind ≡ true → value_of field bytes ≡ values.Proto bytes
unfolding value_of
proto_value field bytes is = is_whole_layer (row_of field).kind bytes (option_map_or (λ place. scaled bytes place) (row_of field).bits 0) is

layer_chosen : (buffers : List (List ℕ)) (field : ℕ) (h : Header) → is_proto (row_of field).kind ≡ true → (chosen own : Truth) →
    cond chosen (cond own (values.Proto (bytes_of buffers h.span) ∷ []) []) [] ≡ map (value_at buffers field) (cond (own && chosen) (tolds.Read h.span ∷ []) [])
layer_chosen buffers field h is true true = ap (λ v. v ∷ []) (sym (proto_value field (bytes_of buffers h.span) is))
layer_chosen buffers field h is true false = refl
layer_chosen buffers field h is false true = refl
layer_chosen buffers field h is false false = refl

layers_law : (buffers : List (List ℕ)) (wanted : List ℕ) (notes : List Note) (field : ℕ) (layers : Layers) (headers : List Header) → is_proto (row_of field).kind ≡ true →
    flat_map (λ layer. chosen_values buffers field layers layer) (map (header_layer buffers wanted notes) headers) ≡ map (value_at buffers field) (layers_told field layers headers)
unfolding layers_told layer_values
layers_law buffers wanted notes field layers [] is = refl
layers_law buffers wanted notes field layers (h ∷ headers) is =
    let first : chosen_values buffers field layers (header_layer buffers wanted notes h) ≡ map (value_at buffers field) (layer_told field layers h) =
    ap (λ b. cond (is_chosen layers h.nth) (cond b (proto_values buffers field (header_layer buffers wanted notes h)) (item_values field (kept wanted (header_items buffers notes h)))) []) is
    ∙ layer_chosen buffers field h is (is_chosen layers h.nth) (h.proto == field) in
    ap (λ front. front ++ flat_map (λ layer. chosen_values buffers field layers layer) (map (header_layer buffers wanted notes) headers)) first
    ∙ ap (λ back. map (value_at buffers field) (layer_told field layers h) ++ back) (layers_law buffers wanted notes field layers headers is)
    ∙ sym (map-append (value_at buffers field) (layer_told field layers h) (layers_told field layers headers))

pub outline_values : (bytes wanted : List ℕ) (headers : List Header) (notes : List Note) (field : ℕ) (layers : Layers) → IsOutline bytes wanted headers notes →
    values_of (outlined bytes wanted headers notes) field layers ≡ map (value_at (bytes ∷ []) field) (all_told wanted headers notes field layers)
unfolding values_of outlined all_told
outline_values bytes wanted headers notes field layers is = by_kind (is_proto (row_of field).kind) refl (is_in wanted field) refl
  where
    buffers : List (List ℕ)
    buffers = bytes ∷ []

    by_kind : (proto : Truth) → is_proto (row_of field).kind ≡ proto → (asked : Truth) → is_in wanted field ≡ asked →
        flat_map (λ layer. chosen_values buffers field layers layer) (map (header_layer buffers wanted notes) headers)
        ≡ map (value_at buffers field) (cond proto (layers_told field layers headers) (cond asked (fields_told field layers notes headers) []))
    by_kind true same asked has = layers_law buffers wanted notes field layers headers same
    by_kind false same true has =
        fields_law buffers wanted notes field layers headers (each_whole bytes wanted headers notes is) (each_note bytes wanted headers notes is) has same
    by_kind false same false has = none_law buffers wanted notes field layers headers has same

-- the values of a tree are of their field's kind
pub tree_kind : (t : TreeShown) (field : ℕ) (layers : Layers) → IsTree t → Each (IsOfKind (row_of field).kind) (values_of t field layers)
unfolding values_of
tree_kind t field layers is = layers_kind t.buffers field layers [] t.layers is.layers
