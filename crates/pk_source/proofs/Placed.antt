-- A value stands at its place: the values of a field among the items of a table's rows are what the field's row reads at
-- each place that the field has in the table.
use Rattle.std.proofs.Common.{◌≡◌, ◌==◌, ℕ, Bool as Truth, true, false, cond, List, [], ◌∷◌, ◌++◌, map, filter, slice_index_or, refl, ap, sym, ◌∙◌}
use Rattle.std.proofs.lemmas.Bool.{eqb-true}
use Rattle.std.proofs.lemmas.List.{map-append}
use Rattle.std.proofs.lemmas.List.Elements.{filter-append}
use Rattle.pk_base.specs.declared.span.Span.{Span}
use Rattle.pk_base.specs.declared.value.Value.{Value}
use Rattle.pk_fields.specs.FieldSets.{is_in}
use Rattle.pk_fields.specs.Fields.{row_of}
use Rattle.pk_source.specs.Found.{note_told, notes_told, rows_told, slot_told, some_read, value_at}
use Rattle.pk_source.specs.Outlines.{notes_of, rows_read, told_item}
use Rattle.pk_source.specs.declared.header.Note.{Note}
use Rattle.pk_source.specs.declared.header.Told.{Told}
use Rattle.pk_source.specs.declared.header.Told.TheVariants as tolds
use Rattle.pk_tree.proofs.KnownLemmas.{first_known}
use Rattle.pk_tree.specs.FieldValues.{item_values}
use Rattle.pk_tree.specs.Layouts.{items_after, items_read, reach, step_items, step_reach, within}
use Rattle.pk_tree.specs.Tables.{step_of, steps_of}
use Rattle.pk_tree.specs.Trees.{kept, read_of}
use Rattle.pk_tree.specs.Values.{size_of}
use Rattle.pk_tree.specs.declared.item.Item.{Item}
use Rattle.pk_tree.specs.declared.layout.Reach.{Reach}
use Rattle.pk_tree.specs.declared.layout.Reach.TheVariants.{All, Short, Failed}
use Rattle.pk_tree.specs.declared.table.Slot.{Slot}
use Rattle.pk_tree.specs.declared.table.Slot.TheVariants as slots

-- where all rows are read, their items are those of each, whatever the conditions say
same_items : (buffers : List (List ℕ)) (span : Span) (holds : List Truth) (sizes : List ℕ) (slot : Slot) → step_items buffers span (step_of holds sizes slot) ≡ step_items buffers span (step_of [] sizes slot)
unfolding step_items
same_items buffers span holds sizes (slots.Row f at) = refl
same_items buffers span holds sizes (slots.Part f at size) = refl
same_items buffers span holds sizes (slots.PartAt f at size) = refl
same_items buffers span holds sizes (slots.Whole f at size) = refl
same_items buffers span holds sizes (slots.Check test) = refl
same_items buffers span holds sizes (slots.Room test) = refl

after_all : (r : Reach) (items : List Item) → r ≡ All → items_after r items ≡ items
after_all All items is = refl
after_all Short items is = absurd (cc)
after_all Failed items is = absurd (cc)

pub all_rows : (buffers : List (List ℕ)) (span : Span) (holds : List Truth) (sizes : List ℕ) (table : List Slot) → reach span.len (steps_of holds sizes table) ≡ All →
    items_read buffers span (steps_of holds sizes table) ≡ rows_read buffers span sizes table
unfolding items_read rows_read steps_of
all_rows buffers span holds sizes [] whole = refl
all_rows buffers span holds sizes (slot ∷ table) whole =
    let both = first_known span.len (step_of holds sizes slot) (steps_of holds sizes table) whole in
    after_all (step_reach span.len (step_of holds sizes slot)) (step_items buffers span (step_of holds sizes slot) ++ items_read buffers span (steps_of holds sizes table)) both.0
    ∙ ap (λ front. front ++ items_read buffers span (steps_of holds sizes table)) (same_items buffers span holds sizes slot)
    ∙ ap (λ back. step_items buffers span (step_of [] sizes slot) ++ back) (all_rows buffers span holds sizes table both.1)

pub values-append : (field : ℕ) (xs ys : List Item) → item_values field (xs ++ ys) ≡ item_values field xs ++ item_values field ys
values-append field xs ys =
    ap (map (λ (item : Item). item.value)) (filter-append (λ (item : Item). item.field == field) xs ys)
    ∙ map-append (λ (item : Item). item.value) (filter (λ (item : Item). item.field == field) xs) (filter (λ (item : Item). item.field == field) ys)

-- one item that a row reads
one_read : (buffers : List (List ℕ)) (field f : ℕ) (span : Span) (same : Truth) → (f == field) ≡ same →
    item_values field (read_of buffers f span ∷ []) ≡ map (value_at buffers field) (cond (f == field) (tolds.Read span ∷ []) [])
one_read buffers field f span true same = rw same (ap (λ g. value_at buffers g (tolds.Read span) ∷ []) (eqb-true f field same))
one_read buffers field f span false same = rw same refl

some_read_of : (buffers : List (List ℕ)) (field f : ℕ) (span : Span) (none : Truth) → (span.len == 0) ≡ none →
    item_values field (cond none [] (read_of buffers f span ∷ [])) ≡ map (value_at buffers field) (cond (f == field) (some_read span) [])
some_read_of buffers field f span true none = rw none (nothing (f == field))
  where
    nothing : (same : Truth) → ◌≡◌ {A = List Value} [] (map (value_at buffers field) (cond same [] []))
    nothing true = refl
    nothing false = refl
some_read_of buffers field f span false none = rw none (one_read buffers field f span (f == field) refl)

slot_placed : (buffers : List (List ℕ)) (span : Span) (sizes : List ℕ) (field : ℕ) (slot : Slot) → item_values field (step_items buffers span (step_of [] sizes slot)) ≡ map (value_at buffers field) (slot_told span sizes field slot)
unfolding step_items slot_told
slot_placed buffers span sizes field (slots.Row f at) = one_read buffers field f (within span at (size_of f)) (f == field) refl
slot_placed buffers span sizes field (slots.Part f at size) =
    some_read_of buffers field f (within span at (slice_index_or sizes size 0)) (slice_index_or sizes size 0 == 0) refl
slot_placed buffers span sizes field (slots.PartAt f at size) =
    some_read_of buffers field f (within span (slice_index_or sizes at 0) (slice_index_or sizes size 0)) (slice_index_or sizes size 0 == 0) refl
slot_placed buffers span sizes field (slots.Whole f at size) =
    one_read buffers field f (within span at (slice_index_or sizes size 0)) (f == field) refl
slot_placed buffers span sizes field (slots.Check test) = refl
slot_placed buffers span sizes field (slots.Room test) = refl

pub placed : (buffers : List (List ℕ)) (span : Span) (sizes : List ℕ) (field : ℕ) (table : List Slot) → item_values field (rows_read buffers span sizes table) ≡ map (value_at buffers field) (rows_told span sizes field table)
unfolding rows_read rows_told
placed buffers span sizes field [] = refl
placed buffers span sizes field (slot ∷ table) =
    values-append field (step_items buffers span (step_of [] sizes slot)) (rows_read buffers span sizes table)
    ∙ ap (λ front. front ++ item_values field (rows_read buffers span sizes table)) (slot_placed buffers span sizes field slot)
    ∙ ap (λ back. map (value_at buffers field) (slot_told span sizes field slot) ++ back) (placed buffers span sizes field table)
    ∙ sym (map-append (value_at buffers field) (slot_told span sizes field slot) (rows_told span sizes field table))

-- what is told beside the rows of the field's protocol
told_value : (buffers : List (List ℕ)) (f : ℕ) (told : Told) → (told_item buffers f told).value ≡ value_at buffers f told
told_value buffers f (tolds.Read span) = refl
told_value buffers f (tolds.Number number) = refl
told_value buffers f (tolds.Moment time) = refl

pub told_field : (buffers : List (List ℕ)) (f : ℕ) (told : Told) → (told_item buffers f told).field ≡ f
told_field buffers f (tolds.Read span) = refl
told_field buffers f (tolds.Number number) = refl
told_field buffers f (tolds.Moment time) = refl

note_item : List (List ℕ) → Note → Item
note_item buffers note = told_item buffers note.field note.told

own_note : (buffers : List (List ℕ)) (field : ℕ) (note : Note) (same : Truth) → (note.field == field) ≡ same → item_values field (note_item buffers note ∷ []) ≡ map (value_at buffers field) (note_told field note)
unfolding note_item
own_note buffers field note true same =
    rw (told_field buffers note.field note.told, same, told_value buffers note.field note.told) (ap (λ g. value_at buffers g note.told ∷ []) (eqb-true note.field field same))
own_note buffers field note false same = rw (told_field buffers note.field note.told, same) refl

pub notes_placed : (buffers : List (List ℕ)) (proto field : ℕ) (notes : List Note) → ((row_of field).proto == proto) ≡ true →
    item_values field (map (λ (note : Note). told_item buffers note.field note.told) (notes_of proto notes)) ≡ map (value_at buffers field) (notes_told field notes)
unfolding notes_of notes_told note_item
notes_placed buffers proto field [] own = refl
notes_placed buffers proto field (note ∷ notes) own =
    by_test (notes_placed buffers proto field notes own) ((row_of note.field).proto == proto) refl
  where
    not_own : ((row_of note.field).proto == proto) ≡ false → (note.field == field) ≡ false
    not_own other = by_same (note.field == field) refl
      where
        by_same : (same : Truth) → (note.field == field) ≡ same → same ≡ false
        by_same true same =
            let both : ((row_of note.field).proto == proto) ≡ true = ap (λ f. (row_of f).proto == proto) (eqb-true note.field field same) ∙ own in
            absurd (cc)
        by_same false same = refl

    by_test : item_values field (map (note_item buffers) (notes_of proto notes)) ≡ map (value_at buffers field) (notes_told field notes) → (test : Truth) → ((row_of note.field).proto == proto) ≡ test →
        item_values field (map (note_item buffers) (cond ((row_of note.field).proto == proto) (note ∷ notes_of proto notes) (notes_of proto notes))) ≡ map (value_at buffers field) (note_told field note ++ notes_told field notes)
    by_test rest true is =
        rw is (values-append field (note_item buffers note ∷ []) (map (note_item buffers) (notes_of proto notes))
        ∙ ap (λ front. front ++ item_values field (map (note_item buffers) (notes_of proto notes))) (own_note buffers field note (note.field == field) refl)
        ∙ ap (λ back. map (value_at buffers field) (note_told field note) ++ back) rest
        ∙ sym (map-append (value_at buffers field) (note_told field note) (notes_told field notes)))
    by_test rest false is = rw (is, not_own is) rest

-- among the items that are kept
pub kept_values : (wanted : List ℕ) (field : ℕ) (items : List Item) → is_in wanted field ≡ true → item_values field (kept wanted items) ≡ item_values field items
unfolding kept
kept_values wanted field [] is = refl
kept_values wanted field (item ∷ items) is = by_test (kept_values wanted field items is) (is_in wanted item.field) refl
  where
    other : item_values field (kept wanted items) ≡ item_values field items → is_in wanted item.field ≡ false → (same : Truth) → (item.field == field) ≡ same → item_values field (kept wanted items) ≡ item_values field (item ∷ items)
    other rest none true same =
        let both : is_in wanted item.field ≡ true = ap (λ f. is_in wanted f) (eqb-true item.field field same) ∙ is in
        absurd (cc)
    other rest none false same = rw same rest

    by_test : item_values field (kept wanted items) ≡ item_values field items → (test : Truth) → is_in wanted item.field ≡ test → item_values field (cond (is_in wanted item.field) (item ∷ kept wanted items) (kept wanted items)) ≡ item_values field (item ∷ items)
    by_test rest true has = rw has (values-append field (item ∷ []) (kept wanted items) ∙ ap (λ back. item_values field (item ∷ []) ++ back) rest ∙ sym (values-append field (item ∷ []) items))
    by_test rest false none = rw none (other rest none (item.field == field) refl)

pub unwanted_values : (wanted : List ℕ) (field : ℕ) (items : List Item) → is_in wanted field ≡ false → item_values field (kept wanted items) ≡ []
unfolding kept
unwanted_values wanted field [] none = refl
unwanted_values wanted field (item ∷ items) none = by_test (unwanted_values wanted field items none) (is_in wanted item.field) refl
  where
    by_same : item_values field (kept wanted items) ≡ [] → is_in wanted item.field ≡ true → (same : Truth) → (item.field == field) ≡ same → item_values field (item ∷ kept wanted items) ≡ []
    by_same rest has true same =
        let both : is_in wanted item.field ≡ false = ap (λ f. is_in wanted f) (eqb-true item.field field same) ∙ none in
        absurd (cc)
    by_same rest has false same = rw same rest

    by_test : item_values field (kept wanted items) ≡ [] → (test : Truth) → is_in wanted item.field ≡ test → item_values field (cond (is_in wanted item.field) (item ∷ kept wanted items) (kept wanted items)) ≡ []
    by_test rest true has = rw has (by_same rest has (item.field == field) refl)
    by_test rest false out = rw out rest
