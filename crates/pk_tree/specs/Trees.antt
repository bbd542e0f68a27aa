-- The tree of a dissected frame, what is true of each one, and what each step of building one adds.
use Rattle.std.specs.Prelude.{◌≡◌, ◌==◌, ℕ, zero, suc, ◌+◌, ◌-◌, ◌^◌, ◌<◌, if◌then◌else◌, List, [], ◌∷◌, ◌++◌, length, map, filter, count_by, IsTrue}
use Rattle.std.specs.List.{AllByRecursion as Each}
use Rattle.pk_base.specs.declared.span.Span.{Span}
use Rattle.pk_tree.specs.Buffers.{IsInside, bytes_of}
use Rattle.pk_fields.specs.Fields.{row_of}
use Rattle.pk_fields.specs.FieldSets.{is_in, every_field}
use Rattle.pk_base.specs.declared.value.Value.{Value}
use Rattle.pk_tree.specs.declared.item.Place.{Place}
use Rattle.pk_tree.specs.declared.item.Place.TheVariants as places
use Rattle.pk_tree.specs.declared.item.Item.{Item}
use Rattle.pk_tree.specs.declared.layer.Layer.{Layer}
use Rattle.pk_tree.specs.Values.{IsOfKind, IsProtocol, HasSize, is_read, value_of}

-- the layers in their order, the bytes that their spans lie in, the frame's own bytes first, and the fields whose items
-- are kept
pub record TreeShown : Type 0 where
  pub layers : List Layer
  pub buffers : List (List ℕ)
  pub wanted : List ℕ

-- how many of the layers are of a protocol
abbrev pub layers_of : ℕ → List Layer → ℕ
layers_of proto layers = count_by (λ (layer : Layer). layer.proto == proto) layers

-- a value that is read is what its field's row, which is one that reads, reads from a span of the row's size
abbrev pub PlaceFits : List (List ℕ) → ℕ → Value → Place → Type 0
PlaceFits buffers field value (places.Read span) =
    IsInside buffers span × HasSize (row_of field).bits span.len
    × (value ≡ value_of field (bytes_of buffers span)) × IsTrue (is_read (row_of field))
PlaceFits buffers field value (places.Derived span) = IsInside buffers span
PlaceFits buffers field value places.Made = Unit {0}

-- an item of a layer: its field belongs to the layer's protocol, and its value is of its field's kind
pub record ItemFits (buffers : List (List ℕ)) (proto : ℕ) (item : Item) : Type 0 where
  pub belongs : (row_of item.field).proto ≡ proto
  pub kind : IsOfKind (row_of item.field).kind item.value
  pub place : PlaceFits buffers item.field item.value item.place

-- a layer behind others: it is numbered behind those of its protocol
pub record LayerFits (buffers : List (List ℕ)) (before : List Layer) (layer : Layer) : Type 0 where
  pub proto : IsProtocol layer.proto
  pub nth : layer.nth ≡ layers_of layer.proto before + 1
  pub inside : IsInside buffers layer.span
  pub items : Each (ItemFits buffers layer.proto) layer.items

abbrev pub LayersFit : List (List ℕ) → List Layer → List Layer → Type 0
LayersFit buffers before [] = Unit {0}
LayersFit buffers before (layer ∷ layers) =
    LayerFits buffers before layer × LayersFit buffers (before ++ layer ∷ []) layers

-- what is true of each tree
pub record IsTree (t : TreeShown) : Type 0 where
  pub frame : 0 < length t.buffers
  pub count : length t.layers < 2 ^ 32
  pub layers : LayersFit t.buffers [] t.layers

-- the items of the wanted fields
unfoldable pub kept : List ℕ → List Item → List Item
kept wanted items = filter (λ (item : Item). is_in wanted item.field) items

-- the tree with one more layer, which has these items as far as they are wanted
unfoldable pub with_layer : TreeShown → ℕ → Span → List Item → TreeShown
with_layer t proto span items =
    record t {
      layers = t.layers
          ++ (record {
            proto = proto;
            nth = layers_of proto t.layers + 1;
            span = span;
            items = kept t.wanted items;
          }) ∷ [];
    }

-- the layers with one more item in the one at a place
abbrev pub layer_gets : List Layer → ℕ → Item → List Layer
layer_gets [] at item = []
layer_gets (layer ∷ layers) zero item = record layer { items = layer.items ++ item ∷ [] } ∷ layers
layer_gets (layer ∷ layers) (suc at) item = layer ∷ layer_gets layers at item

-- the protocol of the layer at a place
abbrev pub proto_at : List Layer → ℕ → ℕ
proto_at [] at = 0
proto_at (layer ∷ layers) zero = layer.proto
proto_at (layer ∷ layers) (suc at) = proto_at layers at

abbrev pub last_proto : List Layer → ℕ
last_proto layers = proto_at layers (length layers - 1)

-- the tree with one more item in the layer at a place
unfoldable pub with_item_at : TreeShown → ℕ → Item → TreeShown
with_item_at t at item = record t { layers = layer_gets t.layers at item }

-- the tree with one more item in its last layer
unfoldable pub with_last : TreeShown → Item → TreeShown
with_last t item = with_item_at t (length t.layers - 1) item

-- the same, if the item's field is wanted
unfoldable pub with_item : TreeShown → Item → TreeShown
with_item t item = if is_in t.wanted item.field then with_last t item else t

-- the tree with one more buffer
unfoldable pub with_buffer : TreeShown → List ℕ → TreeShown
with_buffer t bytes = record t { buffers = t.buffers ++ bytes ∷ [] }

-- a layer, and a whole tree, of which only the items of some fields are kept
abbrev pub kept_layer : List ℕ → Layer → Layer
kept_layer wanted layer = record layer { items = kept wanted layer.items }

abbrev pub kept_tree : List ℕ → TreeShown → TreeShown
kept_tree wanted t =
    record { layers = map (kept_layer wanted) t.layers; buffers = t.buffers; wanted = wanted }

-- a tree of some fields beside the tree of all of them
pub record IsKept (wanted : List ℕ) (whole kept : TreeShown) : Type 0 where
  pub same : kept ≡ kept_tree wanted whole
  pub all : whole.wanted ≡ every_field

-- an item whose value its field's row reads
abbrev pub read_of : List (List ℕ) → ℕ → Span → Item
read_of buffers field span =
    record {
      field = field;
      value = value_of field (bytes_of buffers span);
      place = places.Read span;
    }

-- an item whose value a rule works out from a place
abbrev pub derived_of : ℕ → Value → Span → Item
derived_of field value span = record { field = field; value = value; place = places.Derived span }

-- an item whose value has no place
abbrev pub made_of : ℕ → Value → Item
made_of field value = record { field = field; value = value; place = places.Made }
