-- The tree that headers are shown as, where each is read whole: without a tree, they have its values.
use Rattle.std.specs.Prelude.{◌≡◌, ◌==◌, ℕ, ◌+◌, ◌^◌, ◌<◌, Bool as Truth, List, [], ◌∷◌, ◌++◌, length, map, filter, IsTrue}
use Rattle.std.specs.List.{All as ForAll, flat_map}
use Rattle.pk_base.specs.declared.span.Span.{Span}
use Rattle.pk_base.specs.declared.value.Value.TheVariants as values
use Rattle.pk_fields.specs.FieldSets.{is_in}
use Rattle.pk_fields.specs.Fields.{row_of}
use Rattle.pk_source.specs.declared.header.Header.{Header}
use Rattle.pk_source.specs.declared.header.Note.{Note}
use Rattle.pk_source.specs.declared.header.Told.{Told}
use Rattle.pk_source.specs.declared.header.Told.TheVariants as tolds
use Rattle.pk_tree.specs.Buffers.{IsInside}
use Rattle.pk_tree.specs.Layouts.{StepsFit, reach, step_items, step_reach}
use Rattle.pk_tree.specs.Tables.{step_of, steps_of}
use Rattle.pk_tree.specs.Trees.{TreeShown, kept, layers_of, made_of, read_of}
use Rattle.pk_tree.specs.Values.{HasSize, IsOfKind, IsProtocol, is_read}
use Rattle.pk_tree.specs.declared.item.Item.{Item}
use Rattle.pk_tree.specs.declared.layer.Layer.{Layer}
use Rattle.pk_tree.specs.declared.layout.Reach.TheVariants.{All}
use Rattle.pk_tree.specs.declared.table.Slot.{Slot}

-- the sizes that a header's table names
abbrev pub sizes_of : Header → List ℕ
sizes_of h = h.size ∷ []

-- the items of a table whose rows are all read: conditions hold, and have none
unfoldable pub rows_read : List (List ℕ) → Span → List ℕ → List Slot → List Item
rows_read buffers span sizes slots = flat_map (λ slot. step_items buffers span (step_of [] sizes slot)) slots

-- what is told beside, as an item
abbrev pub told_item : List (List ℕ) → ℕ → Told → Item
told_item buffers field (tolds.Read span) = read_of buffers field span
told_item buffers field (tolds.Number number) = made_of field (values.Uint number)
told_item buffers field (tolds.Moment time) = made_of field (values.Time time)

-- the notes of a protocol's fields
unfoldable pub notes_of : ℕ → List Note → List Note
notes_of proto notes = filter (λ (note : Note). (row_of note.field).proto == proto) notes

-- the notes of the wanted fields
unfoldable pub wanted_notes : List ℕ → List Note → List Note
wanted_notes wanted notes = filter (λ (note : Note). is_in wanted note.field) notes

-- the items of a header's layer: those of its rows, and behind them what is told of its protocol
unfoldable pub header_items : List (List ℕ) → List Note → Header → List Item
header_items buffers notes h =
    rows_read buffers h.span (sizes_of h) h.slots.now
    ++ map (λ (note : Note). told_item buffers note.field note.told) (notes_of h.proto notes)

abbrev pub header_layer : List (List ℕ) → List ℕ → List Note → Header → Layer
header_layer buffers wanted notes h =
    record {
      proto = h.proto;
      nth = h.nth;
      span = h.span;
      items = kept wanted (header_items buffers notes h);
    }

-- the tree of a frame's bytes that has these headers as its layers, with the items of the wanted fields
unfoldable pub outlined : List ℕ → List ℕ → List Header → List Note → TreeShown
outlined bytes wanted headers notes =
    record {
      layers = map (header_layer (bytes ∷ []) wanted notes) headers;
      buffers = bytes ∷ [];
      wanted = wanted;
    }

-- the protocols of layers, and of headers
abbrev pub protocols : List Layer → List ℕ
protocols layers = map (λ (layer : Layer). layer.proto) layers

abbrev pub protocols_of : List Header → List ℕ
protocols_of headers = map (λ (h : Header). h.proto) headers

-- slots of which each row is inside a layer of so many bytes; conditions may be any
abbrev pub SlotsKnown : ℕ → List ℕ → List Slot → Type 0
SlotsKnown end sizes slots =
    (holds : List Truth) × ForAll (λ slot. step_reach end (step_of holds sizes slot) ≡ All) slots

-- a header whose table is read to its end, whichever conditions it names
pub record IsReadWhole (buffers : List (List ℕ)) (h : Header) : Type 0 where
  pub proto : IsProtocol h.proto
  pub inside : IsInside buffers h.span
  pub holds : List Truth
  pub fits : StepsFit h.proto (steps_of holds (sizes_of h) h.slots.now)
  pub whole : reach h.span.len (steps_of holds (sizes_of h) h.slots.now) ≡ All

-- a note is of its field's kind, or its field's row reads it
abbrev pub ToldFits : List (List ℕ) → ℕ → Told → Type 0
ToldFits buffers field (tolds.Read span) =
    IsInside buffers span × HasSize (row_of field).bits span.len × IsTrue (is_read (row_of field))
ToldFits buffers field (tolds.Number number) = IsOfKind (row_of field).kind (values.Uint number)
ToldFits buffers field (tolds.Moment time) = IsOfKind (row_of field).kind (values.Time time)

abbrev pub NoteFits : List (List ℕ) → Note → Type 0
NoteFits buffers note = ToldFits buffers note.field note.told

-- headers behind others are numbered by their protocol
abbrev pub AreNumbered : List Layer → List Layer → Type 0
AreNumbered before [] = Unit {0}
AreNumbered before (layer ∷ layers) =
    (layer.nth ≡ layers_of layer.proto before + 1) × AreNumbered (before ++ layer ∷ []) layers

pub record IsOutline (bytes wanted : List ℕ) (headers : List Header) (notes : List Note) : Type 0 where
  pub short : length bytes < 2 ^ 32
  pub few : length headers < 2 ^ 32
  pub whole : ForAll (IsReadWhole (bytes ∷ [])) headers
  pub told : ForAll (NoteFits (bytes ∷ [])) notes
  pub numbered : AreNumbered [] (outlined bytes wanted headers notes).layers
