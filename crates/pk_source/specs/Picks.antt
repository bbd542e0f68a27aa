-- Which slots of its protocol's table read a field, looked up once.
use Rattle.std.specs.Prelude.{◌≡◌, ◌==◌, ℕ, Bool as Truth, true, false, List, [], ◌∷◌, ◌++◌, Some}
use Rattle.std.specs.List.{find, slice_index_or}
use Rattle.pk_base.specs.Chosen.{is_chosen}
use Rattle.pk_base.specs.declared.chosen.Layers.{Layers}
use Rattle.pk_base.specs.declared.span.Span.{Span}
use Rattle.pk_fields.specs.Fields.{row_of}
use Rattle.pk_source.specs.Found.{rows_told, slot_told}
use Rattle.pk_source.specs.declared.found.Asked.{Asked}
use Rattle.pk_source.specs.declared.header.Header.{Header}
use Rattle.pk_source.specs.Outlines.{sizes_of}
use Rattle.pk_source.specs.declared.header.Told.{Told}
use Rattle.pk_source.specs.declared.header.Told.TheVariants as tolds
use Rattle.pk_source.specs.declared.picks.Picks.{Picks}
use Rattle.pk_source.specs.declared.picks.Picks.TheVariants as picks
use Rattle.pk_source.specs.declared.picks.Table.{Table}
use Rattle.pk_tree.specs.declared.table.Slot.{Slot}
use Rattle.pk_tree.specs.declared.table.Slot.TheVariants as slots

-- whether a slot is of a field
abbrev pub is_of : ℕ → Slot → Truth
is_of field (slots.Row f at) = f == field
is_of field (slots.Part f at size) = f == field
is_of field (slots.PartAt f at size) = f == field
is_of field (slots.Whole f at size) = f == field
is_of field (slots.Check test) = false
is_of field (slots.Room test) = false

abbrev pub slot_at : List Slot → ℕ → Slot
slot_at table number = slice_index_or table number (slots.Check 0)

-- the places that the picked slots tell; where none were picked, those that the whole table tells
abbrev pub picked_told : Span → List ℕ → ℕ → List Slot → Picks → List Told
picked_told span sizes field table picks.Unknown = rows_told span sizes field table
picked_told span sizes field table picks.Never = []
picked_told span sizes field table (picks.Once a) = slot_told span sizes field (slot_at table a)
picked_told span sizes field table (picks.Twice a b) =
    slot_told span sizes field (slot_at table a) ++ slot_told span sizes field (slot_at table b)

-- whether at most one slot was picked
abbrev pub has_one_slot : Picks → Truth
has_one_slot picks.Unknown = false
has_one_slot picks.Never = true
has_one_slot (picks.Once a) = true
has_one_slot (picks.Twice a b) = false

-- in a chosen header's layer, what a slot reads for a field
abbrev pub IsRowIn : Header → ℕ → ℕ → Layers → Span → Type 0
IsRowIn h number field layers span =
    (is_chosen layers h.nth ≡ true) × (slot_told h.span (sizes_of h) field (slot_at h.slots.now number) ≡ tolds.Read span ∷ [])

-- no place in the table is left out, in whatever span and with whatever sizes it is read
abbrev pub IsPicked : ℕ → List Slot → Picks → Type 0
IsPicked field table picks =
    (span : Span) (sizes : List ℕ)
    → picked_told span sizes field table picks ≡ rows_told span sizes field table

-- where a header is of the asked field's protocol, its table has no place that wasn't picked
abbrev pub IsPickedIn : Asked → Header → Type 0
IsPickedIn asked h = h.proto ≡ asked.home → IsPicked asked.field h.slots.now asked.picks

abbrev pub pick_at : List Picks → ℕ → Picks
pick_at places field = slice_index_or places field picks.Unknown

-- the picks of each field are of the first table of its protocol
abbrev pub ArePlaces : List Table → List Picks → Type 0
ArePlaces tables places =
    (field : ℕ) (table : Table)
    → find (λ (t : Table). t.proto == (row_of field).proto) tables ≡ Some table
    → IsPicked field table.slots.now (pick_at places field)

-- the picks of the fields of a header's protocol are of the header's table
abbrev pub Knows : List Picks → Header → Type 0
Knows places h =
    (field : ℕ) → (row_of field).proto ≡ h.proto → IsPicked field h.slots.now (pick_at places field)
