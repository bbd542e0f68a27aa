-- The links of a frame's messages, as items of their layers.
use Rattle.std.specs.Prelude.{◌==◌, ℕ, zero, suc, ◌-◌, if◌then◌else◌, List, [], ◌∷◌, ◌++◌, map, Option, Some, None, get_or}
use Rattle.pk_fields.specs.FieldSets.{is_in}
use Rattle.pk_fields.specs.Ids.{DNS, DNS_RESPONSE_TO, HTTP, HTTP_REQUEST_IN}
use Rattle.pk_tree.specs.declared.layer.Layer.{Layer}
use Rattle.pk_base.specs.declared.value.Value.TheVariants.{Uint}
use Rattle.pk_tree.specs.Trees.{TreeShown, made_of}
use Rattle.message_links.specs.declared.linking.Link.{Link}

-- a link to a frame, where there is one and its field is wanted
abbrev pub wanted_link : List ℕ → ℕ → Option ℕ → Option Link
wanted_link wanted field None = None
wanted_link wanted field (Some frame) = if is_in wanted field then Some (record { field = field; frame = frame }) else None

-- a frame's n-th message is the n-th layer of its protocol
abbrev pub link_at : List (Option ℕ) → Layer → Option ℕ
link_at links layer = get_or links (layer.nth - 1) None

abbrev pub layer_link : List ℕ → List (Option ℕ) → Layer → Option Link
layer_link wanted links layer =
    if layer.proto == DNS then wanted_link wanted DNS_RESPONSE_TO (link_at links layer)
    else (if layer.proto == HTTP then wanted_link wanted HTTP_REQUEST_IN (link_at links layer) else None)

abbrev pub with_link : Layer → Option Link → Layer
with_link layer None = layer
with_link layer (Some link) = record layer { items = layer.items ++ made_of link.field (Uint link.frame) ∷ [] }

abbrev pub layer_linked : List ℕ → List (Option ℕ) → Layer → Layer
layer_linked wanted links layer = with_link layer (layer_link wanted links layer)

-- the layers with the one at a place changed
abbrev pub linked_at : (Layer → Layer) → ℕ → List Layer → List Layer
linked_at f at [] = []
linked_at f zero (layer ∷ layers) = f layer ∷ layers
linked_at f (suc at) (layer ∷ layers) = layer ∷ linked_at f at layers

-- the tree with the links of its messages that are wanted
unfoldable pub linked : List ℕ → List (Option ℕ) → TreeShown → TreeShown
linked wanted links t = record t { layers = map (layer_linked wanted links) t.layers }
