-- What holds of outlines: where values stand in a table, and that an outline grows as its frame's tree does.
use Rattle.std.specs.Prelude.{◌≡◌, ◌==◌, ◌+◌, ℕ, Bool as Truth, false, List, [], ◌∷◌, ◌++◌, map}
use Rattle.std.specs.List.{All as ForAll}
use Rattle.pk_base.specs.declared.heads.Mode.{Mode}
use Rattle.pk_base.specs.declared.span.Span.{Span}
use Rattle.pk_fields.specs.Fields.{row_of}
use Rattle.pk_source.specs.Found.{rows_told, value_at}
use Rattle.pk_source.specs.Outlines.{outlined, sizes_of, told_item}
use Rattle.pk_source.specs.declared.header.Header.{Header}
use Rattle.pk_source.specs.declared.header.Note.{Note}
use Rattle.pk_tree.specs.FieldValues.{item_values}
use Rattle.pk_tree.specs.Layouts.{items_read, layer_read, reach}
use Rattle.pk_tree.specs.Tables.{steps_of}
use Rattle.pk_tree.specs.Trees.{layers_of, with_item}
use Rattle.pk_tree.specs.declared.layout.Reach.TheVariants.{All}
use Rattle.pk_tree.specs.declared.table.Slot.{Slot}

-- the values of a field among the items of a table that is read to its end are what the field's row reads at each place
-- that the field has in the table, in the table's order
abbrev pub ValuesStand : Type 0
ValuesStand =
    (buffers : List (List ℕ)) (span : Span) (holds : List Truth) (sizes : List ℕ) (field : ℕ) (table : List Slot)
    → reach span.len (steps_of holds sizes table) ≡ All
    → item_values field (items_read buffers span (steps_of holds sizes table))
    ≡ map (value_at buffers field) (rows_told span sizes field table)

-- of a header's protocol nothing is told so far
abbrev pub IsUntold : ℕ → List Note → Type 0
IsUntold proto notes = ForAll (λ (note : Note). ((row_of note.field).proto == proto) ≡ false) notes

-- one more header, whose table is read to its end, adds the layer that the table makes
abbrev pub HeaderAdds : Type 0
HeaderAdds =
    (bytes wanted : List ℕ) (headers : List Header) (notes : List Note) (h : Header)
    (holds : List Truth) (mode : Mode) (cut : Truth)
    → IsUntold h.proto notes
    → h.nth ≡ layers_of h.proto (outlined bytes wanted headers notes).layers + 1
    → reach h.span.len (steps_of holds (sizes_of h) h.slots.now) ≡ All
    → outlined bytes wanted (headers ++ h ∷ []) notes
    ≡ layer_read (outlined bytes wanted headers notes) h.proto h.span
    (steps_of holds (sizes_of h) h.slots.now) mode cut

-- one more note of the last header's protocol, which no other header has, adds an item to its layer
abbrev pub NoteAdds : Type 0
NoteAdds =
    (bytes wanted : List ℕ) (headers : List Header) (notes : List Note) (h : Header) (note : Note)
    → (row_of note.field).proto ≡ h.proto
    → ForAll (λ (other : Header). (h.proto == other.proto) ≡ false) headers
    → outlined bytes wanted (headers ++ h ∷ []) (notes ++ note ∷ [])
    ≡ with_item (outlined bytes wanted (headers ++ h ∷ []) notes)
    (told_item (bytes ∷ []) note.field note.told)
