-- Values stand in a table, and an outline grows as the tree does.
use Rattle.std.proofs.Common.{◌≡◌, ◌==◌, ◌+◌, ◌-◌, ℕ, zero, suc, Bool as Truth, true, false, cond, List, [], ◌∷◌, ◌++◌, map, length, refl, ap, sym, ◌∙◌, append-nil, arith, append_assoc, eq-eqb}
use Rattle.std.specs.List.{AllByRecursion as Each}
use Rattle.std.proofs.lemmas.List.{length_push, map-append}
use Rattle.std.proofs.lemmas.List.Elements.{filter-append, recursion_from_All}
use Rattle.pk_fields.specs.FieldSets.{is_in}
use Rattle.pk_fields.specs.Fields.{row_of}
use Rattle.pk_source.proofs.Placed.{all_rows, placed}
use Rattle.pk_source.specs.Laws.{HeaderAdds, IsUntold, NoteAdds, ValuesStand}
use Rattle.pk_source.specs.Outlines.{header_items, header_layer, notes_of, outlined, rows_read, sizes_of, told_item}
use Rattle.pk_source.specs.declared.header.Header.{Header}
use Rattle.pk_source.specs.declared.header.Note.{Note}
use Rattle.pk_tree.proofs.KeptLemmas.{kept-push}
use Rattle.pk_tree.specs.FieldValues.{item_values}
use Rattle.pk_tree.specs.Layouts.{items_read, layer_read, reach}
use Rattle.pk_tree.specs.Tables.{steps_of}
use Rattle.pk_tree.specs.Trees.{TreeShown, kept, layer_gets, layers_of, with_item, with_item_at, with_last, with_layer}
use Rattle.pk_tree.specs.declared.item.Item.{Item}
use Rattle.pk_tree.specs.declared.layer.Layer.{Layer}
use Rattle.pk_tree.specs.declared.layout.Reach.TheVariants.{All}

-- where nothing is told of a protocol
none_told : (proto : ℕ) (notes : List Note) → Each (λ (note : Note). ((row_of note.field).proto == proto) ≡ false) notes → notes_of proto notes ≡ []
unfolding notes_of
none_told proto [] each = refl
none_told proto (note ∷ notes) each = rw each.0 (none_told proto notes each.1)

bare_items : (buffers : List (List ℕ)) (notes : List Note) (h : Header) (holds : List Truth) → IsUntold h.proto notes → reach h.span.len (steps_of holds (sizes_of h) h.slots.now) ≡ All →
    header_items buffers notes h ≡ items_read buffers h.span (steps_of holds (sizes_of h) h.slots.now)
unfolding header_items
bare_items buffers notes h holds untold whole =
    let none : notes_of h.proto notes ≡ [] = none_told h.proto notes (recursion_from_All (λ (note : Note). ((row_of note.field).proto == h.proto) ≡ false) notes untold) in
    rw (none, append-nil) (sym (all_rows buffers h.span holds (sizes_of h) h.slots.now whole))

of_layers : TreeShown → List Layer → TreeShown
of_layers t layers = record { layers = layers; buffers = t.buffers; wanted = t.wanted }

pub header_adds : HeaderAdds
unfolding outlined layer_read with_layer of_layers
header_adds bytes wanted headers notes h holds mode cut untold nth whole =
    let t = outlined bytes wanted headers notes in
    let more = map-append (header_layer (bytes ∷ []) wanted notes) headers (h ∷ []) in
    let items = bare_items (bytes ∷ []) notes h holds untold whole in
    rw whole (ap (of_layers t) (more ∙ ap (λ (layer : Layer). map (header_layer (bytes ∷ []) wanted notes) headers ++ layer ∷ []) (same nth items)))
  where
    layer_of : ℕ → List Item → Layer
    layer_of number all = record { proto = h.proto; nth = number; span = h.span; items = kept wanted all }

    same : h.nth ≡ layers_of h.proto (map (header_layer (bytes ∷ []) wanted notes) headers) + 1 → header_items (bytes ∷ []) notes h ≡ items_read (bytes ∷ []) h.span (steps_of holds (sizes_of h) h.slots.now) →
        header_layer (bytes ∷ []) wanted notes h ≡ layer_of (layers_of h.proto (map (header_layer (bytes ∷ []) wanted notes) headers) + 1) (items_read (bytes ∷ []) h.span (steps_of holds (sizes_of h) h.slots.now))
    same numbered items = ap (λ n. layer_of n (header_items (bytes ∷ []) notes h)) numbered ∙ ap (layer_of (layers_of h.proto (map (header_layer (bytes ∷ []) wanted notes) headers) + 1)) items

-- one more note
note_item : List (List ℕ) → Note → Item
note_item buffers note = told_item buffers note.field note.told

notes_more : (proto : ℕ) (notes : List Note) (note : Note) (test : Truth) → ((row_of note.field).proto == proto) ≡ test → notes_of proto (notes ++ note ∷ []) ≡ notes_of proto notes ++ cond test (note ∷ []) []
unfolding notes_of
notes_more proto notes note test is =
    filter-append (λ (n : Note). (row_of n.field).proto == proto) notes (note ∷ [])
    ∙ ap (λ t. notes_of proto notes ++ cond t (note ∷ []) []) is

own_items : (buffers : List (List ℕ)) (notes : List Note) (note : Note) (h : Header) → ((row_of note.field).proto == h.proto) ≡ true → header_items buffers (notes ++ note ∷ []) h ≡ header_items buffers notes h ++ note_item buffers note ∷ []
unfolding header_items note_item
own_items buffers notes note h is =
    let rows = rows_read buffers h.span (sizes_of h) h.slots.now in
    ap (λ ns. rows ++ map (note_item buffers) ns) (notes_more h.proto notes note true is)
    ∙ ap (λ back. rows ++ back) (map-append (note_item buffers) (notes_of h.proto notes) (note ∷ []))
    ∙ sym (append_assoc rows (map (note_item buffers) (notes_of h.proto notes)) (note_item buffers note ∷ []))

other_items : (buffers : List (List ℕ)) (notes : List Note) (note : Note) (h : Header) → ((row_of note.field).proto == h.proto) ≡ false → header_items buffers (notes ++ note ∷ []) h ≡ header_items buffers notes h
unfolding header_items note_item
other_items buffers notes note h is =
    let rows = rows_read buffers h.span (sizes_of h) h.slots.now in
    ap (λ ns. rows ++ map (note_item buffers) ns) (notes_more h.proto notes note false is ∙ append-nil (notes_of h.proto notes))

layer_of : List ℕ → Header → List Item → Layer
layer_of wanted h items = record { proto = h.proto; nth = h.nth; span = h.span; items = kept wanted items }

same_fronts : (buffers : List (List ℕ)) (wanted : List ℕ) (notes : List Note) (note : Note) (h : Header) (headers : List Header) → (row_of note.field).proto ≡ h.proto → Each (λ (other : Header). (h.proto == other.proto) ≡ false) headers →
    map (header_layer buffers wanted (notes ++ note ∷ [])) headers ≡ map (header_layer buffers wanted notes) headers
unfolding layer_of
same_fronts buffers wanted notes note h [] own each = refl
same_fronts buffers wanted notes note h (o ∷ os) own each =
    let other : ((row_of note.field).proto == o.proto) ≡ false = ap (λ p. p == o.proto) own ∙ each.0 in
    ap (λ items. layer_of wanted o items ∷ map (header_layer buffers wanted (notes ++ note ∷ [])) os) (other_items buffers notes note o other)
    ∙ ap (λ back. header_layer buffers wanted notes o ∷ back) (same_fronts buffers wanted notes note h os own each.1)

gets_at : (front : List Layer) (last : Layer) (item : Item) (at : ℕ) → at ≡ length front → layer_gets (front ++ last ∷ []) at item ≡ front ++ (record last { items = last.items ++ item ∷ [] }) ∷ []
gets_at [] last item zero is = refl
gets_at [] last item (suc at) is = absurd (omega arith)
gets_at (x ∷ front) last item zero is = absurd (omega arith)
gets_at (x ∷ front) last item (suc at) is = ap (λ back. x ∷ back) (gets_at front last item at (omega arith))

gets_last : (front : List Layer) (last : Layer) (item : Item) → layer_gets (front ++ last ∷ []) (length (front ++ last ∷ []) - 1) item ≡ front ++ (record last { items = last.items ++ item ∷ [] }) ∷ []
gets_last front last item =
    gets_at front last item (length (front ++ last ∷ []) - 1) (omega (arith, length_push front last))

item_added : (t : TreeShown) (front : List Layer) (last : Layer) (item : Item) (items : List Item) (test : Truth) → is_in t.wanted item.field ≡ test → t.layers ≡ front ++ last ∷ [] → last.items ≡ kept t.wanted items →
    with_item t item ≡ of_layers t (front ++ (record last { items = kept t.wanted (items ++ item ∷ []) }) ∷ [])
unfolding with_item with_last with_item_at of_layers
item_added t front last item items true is layers old =
    let new : kept t.wanted (items ++ item ∷ []) ≡ last.items ++ item ∷ [] = rw (is, ← old) at (kept-push t.wanted items item) in
    rw (is, layers, new) (ap (of_layers t) (gets_last front last item))
item_added t front last item items false is layers old =
    let new : kept t.wanted (items ++ item ∷ []) ≡ last.items = rw (is, ← old) at (kept-push t.wanted items item) in
    rw (is, new) (ap (of_layers t) layers)

pub note_adds : NoteAdds
unfolding outlined of_layers layer_of note_item
note_adds bytes wanted headers notes h note own others =
    let buffers = bytes ∷ [] in
    let t = outlined bytes wanted (headers ++ h ∷ []) notes in
    let front = map (header_layer buffers wanted notes) headers in
    let fronts = same_fronts buffers wanted notes note h headers own (recursion_from_All (λ (other : Header). (h.proto == other.proto) ≡ false) headers others) in
    let last = own_items buffers notes note h (eq-eqb (row_of note.field).proto h.proto own) in
    ap (of_layers t) (map-append (header_layer buffers wanted (notes ++ note ∷ [])) headers (h ∷ [])
    ∙ ap (λ ls. ls ++ header_layer buffers wanted (notes ++ note ∷ []) h ∷ []) fronts
    ∙ ap (λ items. front ++ layer_of wanted h items ∷ []) last)
    ∙ sym (item_added t front (header_layer buffers wanted notes h) (note_item buffers note) (header_items buffers notes h) (is_in wanted (note_item buffers note).field) refl (map-append (header_layer buffers wanted notes) headers (h ∷ [])) refl)

pub values_stand : ValuesStand
values_stand buffers span holds sizes field table whole =
    ap (item_values field) (all_rows buffers span holds sizes table whole) ∙ placed buffers span sizes field table
