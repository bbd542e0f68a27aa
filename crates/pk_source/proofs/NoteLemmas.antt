-- Notes one behind the other, and notes that are left out, since their fields aren't wanted.
use Rattle.std.proofs.Common.{◌≡◌, ◌==◌, ℕ, false, inl, inr, List, [], ◌∷◌, ◌++◌, map, refl, ap, sym, subst, ◌∙◌, append_assoc, append-nil}
use Rattle.std.specs.List.{All as ForAll, AllByRecursion as Each}
use Rattle.std.proofs.lemmas.Bool.{cases_Bool}
use Rattle.std.proofs.lemmas.List.Elements.{All-from_recursion, recursion_from_All}
use Rattle.pk_fields.specs.FieldSets.{is_in}
use Rattle.pk_fields.specs.Fields.{row_of}
use Rattle.pk_source.proofs.GrowthLaws.{note_adds}
use Rattle.pk_source.proofs.Placed.{told_field}
use Rattle.pk_source.specs.Outlines.{AreNumbered, IsOutline, NoteFits, header_items, header_layer, notes_of, outlined, rows_read, sizes_of, told_item, wanted_notes}
use Rattle.pk_source.specs.declared.header.Header.{Header}
use Rattle.pk_source.specs.declared.header.Note.{Note}
use Rattle.pk_tree.proofs.KeptLemmas.{kept-append}
use Rattle.pk_tree.specs.Layouts.{with_items}
use Rattle.pk_tree.specs.Trees.{TreeShown, kept}
use Rattle.pk_tree.specs.declared.item.Item.{Item}
use Rattle.pk_tree.specs.declared.layer.Layer.{Layer}

-- the items of notes
abbrev pub items_told : List (List ℕ) → List Note → List Item
items_told buffers notes = map (λ (note : Note). told_item buffers note.field note.told) notes

-- notes of the last header's protocol, which no other header has
pub notes_add : (bytes wanted : List ℕ) (headers : List Header) (notes more : List Note) (h : Header) → Each (λ (note : Note). (row_of note.field).proto ≡ h.proto) more
    → ForAll (λ (other : Header). (h.proto == other.proto) ≡ false) headers
    → outlined bytes wanted (headers ++ h ∷ []) (notes ++ more) ≡ with_items (outlined bytes wanted (headers ++ h ∷ []) notes) (items_told (bytes ∷ []) more)
unfolding with_items
notes_add bytes wanted headers notes [] h own others = ap (outlined bytes wanted (headers ++ h ∷ [])) (append-nil notes)
notes_add bytes wanted headers notes (note ∷ more) h own others =
    ap (outlined bytes wanted (headers ++ h ∷ [])) (sym (append_assoc notes (note ∷ []) more))
    ∙ notes_add bytes wanted headers (notes ++ note ∷ []) more h own.1 others
    ∙ ap (λ (t : TreeShown). with_items t (items_told (bytes ∷ []) more)) (note_adds bytes wanted headers notes h note own.0 others)

-- ---- notes that are left out

kept_told : (buffers : List (List ℕ)) (wanted : List ℕ) (proto : ℕ) (notes : List Note)
    → kept wanted (items_told buffers (notes_of proto (wanted_notes wanted notes))) ≡ kept wanted (items_told buffers (notes_of proto notes))
unfolding kept notes_of wanted_notes
kept_told buffers wanted proto [] = refl
kept_told buffers wanted proto (note ∷ notes) = elim (cases_Bool (is_in wanted note.field)) [
  | inl is ↦ elim (cases_Bool ((row_of note.field).proto == proto)) [
    | inl own ↦ rw (is, own, told_field buffers note.field note.told, is) (ap (λ (items : List Item). told_item buffers note.field note.told ∷ items) (kept_told buffers wanted proto notes))
    | inr other ↦ rw (is, other) (kept_told buffers wanted proto notes)
  ]
  | inr none ↦ elim (cases_Bool ((row_of note.field).proto == proto)) [
    | inl own ↦ rw (none, own, told_field buffers note.field note.told, none) (kept_told buffers wanted proto notes)
    | inr other ↦ rw (none, other) (kept_told buffers wanted proto notes)
  ]
]

layer_of : Header → List Item → Layer
layer_of h items = record { proto = h.proto; nth = h.nth; span = h.span; items = items }

kept_items : (buffers : List (List ℕ)) (wanted : List ℕ) (notes : List Note) (h : Header) → kept wanted (header_items buffers (wanted_notes wanted notes) h) ≡ kept wanted (header_items buffers notes h)
unfolding header_items
kept_items buffers wanted notes h =
    let rows = rows_read buffers h.span (sizes_of h) h.slots.now in
    kept-append wanted rows (items_told buffers (notes_of h.proto (wanted_notes wanted notes)))
    ∙ ap (λ (back : List Item). kept wanted rows ++ back) (kept_told buffers wanted h.proto notes)
    ∙ sym (kept-append wanted rows (items_told buffers (notes_of h.proto notes)))

layers_kept : (buffers : List (List ℕ)) (wanted : List ℕ) (notes : List Note) (headers : List Header) → map (header_layer buffers wanted (wanted_notes wanted notes)) headers ≡ map (header_layer buffers wanted notes) headers
unfolding layer_of
layers_kept buffers wanted notes [] = refl
layers_kept buffers wanted notes (h ∷ headers) =
    ap (λ (items : List Item). layer_of h items ∷ map (header_layer buffers wanted (wanted_notes wanted notes)) headers) (kept_items buffers wanted notes h)
    ∙ ap (λ (layers : List Layer). header_layer buffers wanted notes h ∷ layers) (layers_kept buffers wanted notes headers)

-- the tree is the same
pub outlined_kept : (bytes wanted : List ℕ) (headers : List Header) (notes : List Note) → outlined bytes wanted headers (wanted_notes wanted notes) ≡ outlined bytes wanted headers notes
unfolding outlined
outlined_kept bytes wanted headers notes =
    ap (λ (layers : List Layer). record { layers = layers; buffers = bytes ∷ []; wanted = wanted }) (layers_kept (bytes ∷ []) wanted notes headers)

each_kept : (buffers : List (List ℕ)) (wanted : List ℕ) (notes : List Note) → Each (NoteFits buffers) notes → Each (NoteFits buffers) (wanted_notes wanted notes)
unfolding wanted_notes
each_kept buffers wanted [] each = tt
each_kept buffers wanted (note ∷ notes) each = elim (cases_Bool (is_in wanted note.field)) [
  | inl is ↦ rw is (each.0, each_kept buffers wanted notes each.1)
  | inr none ↦ rw none (each_kept buffers wanted notes each.1)
]

pub outline_kept : (bytes wanted : List ℕ) (headers : List Header) (notes : List Note) → IsOutline bytes wanted headers notes → IsOutline bytes wanted headers (wanted_notes wanted notes)
outline_kept bytes wanted headers notes is = record {
  short = is.short;
  few = is.few;
  whole = is.whole;
  told = All-from_recursion (NoteFits (bytes ∷ [])) (wanted_notes wanted notes) (each_kept (bytes ∷ []) wanted notes (recursion_from_All (NoteFits (bytes ∷ [])) notes is.told));
  numbered = subst (λ (t : TreeShown). AreNumbered [] t.layers) (sym (outlined_kept bytes wanted headers notes)) is.numbered;
}
