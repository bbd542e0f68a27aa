-- The values of a field, found where headers have them.
use Rattle.std.specs.Prelude.{◌≡◌, ◌==◌, ◌+◌, ◌<◌, ℕ, zero, suc, drop, length, ◌&&◌, not, Bool as Truth, true, false, List, [], ◌∷◌, ◌++◌, if◌then◌else◌, Option, Some, None, IsTrue}
use Rattle.std.specs.List.{flat_map, slice_get, slice_index_or}
use Rattle.pk_base.specs.Chosen.{is_chosen}
use Rattle.pk_base.specs.declared.chosen.Layers.{Layers}
use Rattle.pk_base.specs.declared.chosen.Layers.TheVariants.{All as AllLayers}
use Rattle.pk_base.specs.declared.span.Span.{Span}
use Rattle.pk_base.specs.declared.value.Value.{Value}
use Rattle.pk_base.specs.declared.value.Value.TheVariants as values
use Rattle.pk_fields.specs.FieldSets.{is_in}
use Rattle.pk_fields.specs.Fields.{row_of}
use Rattle.pk_source.specs.Outlines.{sizes_of}
use Rattle.pk_source.specs.declared.found.Kth.{Kth}
use Rattle.pk_source.specs.declared.found.Kth.TheVariants as kths
use Rattle.pk_source.specs.declared.header.Header.{Header}
use Rattle.pk_source.specs.declared.header.Note.{Note}
use Rattle.pk_source.specs.declared.header.Told.{Told}
use Rattle.pk_source.specs.declared.header.Told.TheVariants as tolds
use Rattle.pk_tree.specs.Buffers.{IsInside, bytes_of}
use Rattle.pk_tree.specs.FieldValues.{item_values}
use Rattle.pk_tree.specs.Layouts.{within}
use Rattle.pk_tree.specs.Values.{HasSize, is_proto, is_read, size_of, value_of}
use Rattle.pk_tree.specs.declared.layer.Layer.{Layer}
use Rattle.pk_tree.specs.declared.table.Slot.{Slot}
use Rattle.pk_tree.specs.declared.table.Slot.TheVariants as slots

-- there is no item for no bytes
abbrev pub some_read : Span → List Told
some_read span = if span.len == 0 then [] else tolds.Read span ∷ []

-- where a slot reads a field in a span, if it does
unfoldable pub slot_told : Span → List ℕ → ℕ → Slot → List Told
slot_told span sizes field (slots.Row f at) =
    if f == field then tolds.Read (within span at (size_of f)) ∷ [] else []
slot_told span sizes field (slots.Part f at size) =
    if f == field then some_read (within span at (slice_index_or sizes size 0)) else []
slot_told span sizes field (slots.PartAt f at size) =
    if f == field then some_read (within span (slice_index_or sizes at 0) (slice_index_or sizes size 0))
    else []
slot_told span sizes field (slots.Whole f at size) =
    if f == field then tolds.Read (within span at (slice_index_or sizes size 0)) ∷ [] else []
slot_told span sizes field (slots.Check test) = []
slot_told span sizes field (slots.Room test) = []

-- all the places of a field in a table
unfoldable pub rows_told : Span → List ℕ → ℕ → List Slot → List Told
rows_told span sizes field table = flat_map (slot_told span sizes field) table

abbrev pub note_told : ℕ → Note → List Told
note_told field note = if note.field == field then note.told ∷ [] else []

unfoldable pub notes_told : ℕ → List Note → List Told
notes_told field notes = flat_map (note_told field) notes

abbrev pub header_told : ℕ → List Note → Header → List Told
header_told field notes h =
    rows_told h.span (sizes_of h) field h.slots.now ++ notes_told field notes

-- a header of a protocol that is among the chosen layers
abbrev pub is_asked : ℕ → Layers → Header → Truth
is_asked proto layers h = (h.proto == proto) && is_chosen layers h.nth

abbrev pub asked_told : ℕ → Layers → List Note → Header → List Told
asked_told field layers notes h =
    if is_asked (row_of field).proto layers h then header_told field notes h else []

abbrev pub layer_told : ℕ → Layers → Header → List Told
layer_told proto layers h = if is_asked proto layers h then tolds.Read h.span ∷ [] else []

-- whether at most one header is of a protocol, or none where one was seen before
abbrev pub is_alone : Truth → ℕ → List Header → Truth
is_alone seen proto [] = true
is_alone seen proto (h ∷ headers) =
    if h.proto == proto then not seen && is_alone true proto headers else is_alone seen proto headers

-- a field's places in the chosen layers, in their order; a protocol has one in each of its layers
unfoldable pub fields_told : ℕ → Layers → List Note → List Header → List Told
fields_told field layers notes headers = flat_map (asked_told field layers notes) headers

-- the header at a place, behind which there is none of its protocol
abbrev pub IsOnlyFrom : ℕ → ℕ → List Header → Header → Type 0
IsOnlyFrom place home headers h =
    (place < length headers) × (h ≡ slice_index_or headers place h) × (is_alone true home (drop (place + 1) headers) ≡ true)

-- a header of a protocol, and the fields of the protocol have no places but those in it
pub record IsOnlyOf (home : ℕ) (headers : List Header) (h : Header) : Type 0 where
  pub place : ℕ
  pub inside : place < length headers
  pub at : h ≡ slice_index_or headers place h
  pub mine : h.proto ≡ home
  pub told : (field : ℕ) (notes : List Note) → home ≡ (row_of field).proto
      → fields_told field AllLayers notes headers ≡ header_told field notes h

unfoldable pub layers_told : ℕ → Layers → List Header → List Told
layers_told proto layers headers = flat_map (layer_told proto layers) headers

unfoldable pub all_told : List ℕ → List Header → List Note → ℕ → Layers → List Told
all_told wanted headers notes field layers =
    if is_proto (row_of field).kind then layers_told field layers headers
    else if is_in wanted field then fields_told field layers notes headers
    else []

-- the places of a field in the layer of one header
unfoldable pub told_in : List ℕ → List Note → ℕ → Header → List Told
told_in wanted notes field h =
    if is_in wanted field then asked_told field AllLayers notes h else []

abbrev pub first_told : List ℕ → List Note → ℕ → Option Header → Option Told
first_told wanted notes field None = None
first_told wanted notes field (Some h) = slice_get (told_in wanted notes field h) 0

-- the value that stands there; of a protocol, all the bytes
abbrev pub value_at : List (List ℕ) → ℕ → Told → Value
value_at buffers field (tolds.Read span) = value_of field (bytes_of buffers span)
value_at buffers field (tolds.Number number) = values.Uint number
value_at buffers field (tolds.Moment time) = values.Time time

-- a place where the field's row reads a value, or the bytes of a protocol
abbrev pub IsReadable : List (List ℕ) → ℕ → Told → Type 0
IsReadable buffers field (tolds.Read span) =
    IsInside buffers span
    × (is_proto (row_of field).kind ≡ false → HasSize (row_of field).bits span.len × IsTrue (is_read (row_of field)))
IsReadable buffers field (tolds.Number number) = Unit {0}
IsReadable buffers field (tolds.Moment time) = Unit {0}

-- the one of a number, from 0, or the number that is left behind them all
abbrev pub kth : List Told → ℕ → Kth
kth [] k = kths.Left k
kth (told ∷ more) zero = kths.At told
kth (told ∷ more) (suc k) = kth more k

abbrev pub there : Kth → Option Told
there (kths.At told) = Some told
there (kths.Left k) = None

-- what is told once more where the first ones were too few
abbrev pub or_then : Kth → (ℕ → Kth) → Kth
or_then (kths.At told) more = kths.At told
or_then (kths.Left k) more = more k

-- whether there is a value
abbrev pub is_there : List Value → Truth
is_there [] = false
is_there (value ∷ more) = true

-- the first value of a field in a layer
abbrev pub first_in : ℕ → Option Layer → Option Value
first_in field None = None
first_in field (Some layer) = slice_get (item_values field layer.items) 0
