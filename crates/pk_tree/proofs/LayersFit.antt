-- Layers that fit stay so as layers, items and buffers are added.
use Rattle.std.proofs.Common.{◌≡◌, ◌==◌, ℕ, zero, suc, ◌+◌, ◌-◌, ◌^◌, ◌<◌, ◌≤◌, true, cond, List, [], ◌∷◌, ◌++◌, length, get_or, set, take, refl, sym, ap, ◌∙◌, arith, append_assoc, append-nil, eq-eqb}
use Rattle.std.specs.List.{AllByRecursion as Each}
use Rattle.std.proofs.lemmas.List.{length_push}
use Rattle.std.proofs.lemmas.List.Sums.{sum_by_push, count_by_more_yes}
use Rattle.pk_tree.specs.Buffers.{IsInside}
use Rattle.pk_tree.proofs.Spans.{inside_more, bytes_of-more}
use Rattle.pk_base.specs.declared.value.Value.{Value}
use Rattle.pk_tree.specs.declared.item.Place.{Place}
use Rattle.pk_tree.specs.declared.item.Place.TheVariants.{Read, Derived, Made}
use Rattle.pk_tree.specs.declared.item.Item.{Item}
use Rattle.pk_tree.specs.declared.layer.Layer.{Layer}
use Rattle.pk_tree.specs.Trees.{IsTree, layers_of, PlaceFits, ItemFits, LayerFits, LayersFit, layer_gets, proto_at, last_proto}
use Rattle.pk_tree.specs.Values.{IsProtocol}

-- one more layer
pub layers_fit_push : (buffers : List (List ℕ)) (before layers : List Layer) (layer : Layer) → LayersFit buffers before layers → LayerFits buffers (before ++ layers) layer →
    LayersFit buffers before (layers ++ layer ∷ [])
layers_fit_push buffers before [] layer fit last = (rw append-nil at last, tt)
layers_fit_push buffers before (first ∷ layers) layer fit last =
    (fit.0, layers_fit_push buffers (before ++ first ∷ []) layers layer fit.1 (rw (append_assoc before (first ∷ []) layers) last))

-- layers before that are as many of each protocol serve as well
same_before : (buffers : List (List ℕ)) (before others layers : List Layer) → ((proto : ℕ) → layers_of proto before ≡ layers_of proto others) → LayersFit buffers before layers →
    LayersFit buffers others layers
same_before buffers before others [] same fit = tt
same_before buffers before others (layer ∷ layers) same fit =
    let numbered : layer.nth ≡ layers_of layer.proto others + 1 = rw (← same layer.proto) fit.0.nth in
    let more : (proto : ℕ) → layers_of proto (before ++ layer ∷ []) ≡ layers_of proto (others ++ layer ∷ []) = λ proto.
    rw (
      sum_by_push (λ (l : Layer). cond (l.proto == proto) 1 0) before layer,
      sum_by_push (λ (l : Layer). cond (l.proto == proto) 1 0) others layer,
      same proto,
    )
    refl in (
      record { proto = fit.0.proto; nth = numbered; inside = fit.0.inside; items = fit.0.items },
      same_before buffers (before ++ layer ∷ []) (others ++ layer ∷ []) layers more fit.1,
    )

-- each layer fits behind those before it
pub fits_at : (buffers : List (List ℕ)) (before layers : List Layer) (at : ℕ) (d : Layer) → LayersFit buffers before layers → at < length layers →
    LayerFits buffers (before ++ take at layers) (get_or layers at d)
fits_at buffers before [] at d fit inside = absurd (omega arith)
fits_at buffers before (layer ∷ layers) zero d fit inside = rw append-nil fit.0
fits_at buffers before (layer ∷ layers) (suc at) d fit inside =
    rw (← append_assoc before (layer ∷ []) (take at layers)) (fits_at buffers (before ++ layer ∷ []) layers at d fit.1 (omega arith))

-- the last layer of a protocol has the number of all
pub last_number : (buffers : List (List ℕ)) (layers : List Layer) (proto at : ℕ) (layer : Layer) → LayersFit buffers [] layers → 0 < at → at ≤ length layers →
    layer ≡ get_or layers (at - 1) layer → layer.proto ≡ proto → layers_of proto (take at layers) ≡ layers_of proto layers → layer.nth ≡ layers_of proto layers
last_number buffers layers proto at layer fit some inside is same none =
    let here : at - 1 < length layers = omega arith in
    let next : at - 1 + 1 ≡ at = omega arith in
    let found : layer.nth ≡ layers_of layer.proto (take (at - 1) layers) + 1 = rw (← is) at (fits_at buffers [] layers (at - 1) layer fit here).nth in
    let passes : (layer.proto == proto) ≡ true = eq-eqb layer.proto proto same in
    let one : (((get_or layers (at - 1) layer).proto) == proto) ≡ true = rw (← is) passes in
    let more : layers_of proto (take (at - 1 + 1) layers) ≡ layers_of proto (take (at - 1) layers) + 1 = count_by_more_yes (λ (l : Layer). l.proto == proto) layers (at - 1) layer here one in
    found ∙ ap (λ p. layers_of p (take (at - 1) layers) + 1) same ∙ sym more ∙ ap (λ n. layers_of proto (take n layers)) next ∙ none

proto_at-push : (layers : List Layer) (layer : Layer) (at : ℕ) → length layers ≡ at → proto_at (layers ++ layer ∷ []) at ≡ layer.proto
proto_at-push [] layer zero here = refl
proto_at-push [] layer (suc at) here = absurd (omega arith)
proto_at-push (first ∷ layers) layer zero here = absurd (omega arith)
proto_at-push (first ∷ layers) layer (suc at) here = proto_at-push layers layer at (omega arith)

-- the last layer is the one that was added
pub last_proto-push : (layers : List Layer) (layer : Layer) → last_proto (layers ++ layer ∷ []) ≡ layer.proto
last_proto-push layers layer =
    proto_at-push layers layer (length (layers ++ layer ∷ []) - 1) (omega (arith, length_push layers layer))

-- one more layer keeps a tree
pub opened_fits : (wanted : List ℕ) (layers : List Layer) (buffers : List (List ℕ)) (layer : Layer) → IsTree (record { layers = layers; buffers = buffers; wanted = wanted }) → IsProtocol layer.proto → IsInside buffers layer.span →
    layer.nth ≡ layers_of layer.proto layers + 1 → Each (ItemFits buffers layer.proto) layer.items → length layers + 1 < 2 ^ 32 → IsTree (record { layers = layers ++ layer ∷ []; buffers = buffers; wanted = wanted })
opened_fits wanted layers buffers layer tree proto inside nth items room = record {
  frame = tree.frame;
  count = omega (arith, length_push layers layer);
  layers = layers_fit_push buffers [] layers layer tree.layers (record { proto = proto; nth = nth; inside = inside; items = items });
}

-- one more item in a layer
each_push : {A : Type 0} (P : A → Type 0) (xs : List A) (x : A) → Each P xs → P x → Each P (xs ++ x ∷ [])
each_push P [] x each last = (last, tt)
each_push P (first ∷ xs) x each last = (each.0, each_push P xs x each.1 last)

item_fits : (buffers : List (List ℕ)) (before layers : List Layer) (at : ℕ) (item : Item) → LayersFit buffers before layers → ItemFits buffers (proto_at layers at) item →
    LayersFit buffers before (layer_gets layers at item)
item_fits buffers before [] at item fit one = tt
item_fits buffers before (layer ∷ layers) zero item fit one =
    let longer : Layer = record layer { items = layer.items ++ item ∷ [] } in
    let same : (proto : ℕ) → layers_of proto (before ++ layer ∷ []) ≡ layers_of proto (before ++ longer ∷ []) = λ proto.
    rw (
      sum_by_push (λ (l : Layer). cond (l.proto == proto) 1 0) before layer,
      sum_by_push (λ (l : Layer). cond (l.proto == proto) 1 0) before longer,
    )
    refl in (
      record { proto = fit.0.proto; nth = fit.0.nth; inside = fit.0.inside; items = each_push (ItemFits buffers layer.proto) layer.items item fit.0.items one },
      same_before buffers (before ++ layer ∷ []) (before ++ longer ∷ []) layers same fit.1,
    )
item_fits buffers before (layer ∷ layers) (suc at) item fit one =
    (fit.0, item_fits buffers (before ++ layer ∷ []) layers at item fit.1 one)

pub length-layer_gets : (layers : List Layer) (at : ℕ) (item : Item) → length (layer_gets layers at item) ≡ length layers
length-layer_gets [] at item = refl
length-layer_gets (layer ∷ layers) zero item = refl
length-layer_gets (layer ∷ layers) (suc at) item = ap suc (length-layer_gets layers at item)

pub proto_at-layer_gets : (layers : List Layer) (at place : ℕ) (item : Item) → proto_at (layer_gets layers at item) place ≡ proto_at layers place
proto_at-layer_gets [] at place item = refl
proto_at-layer_gets (layer ∷ layers) zero zero item = refl
proto_at-layer_gets (layer ∷ layers) zero (suc place) item = refl
proto_at-layer_gets (layer ∷ layers) (suc at) zero item = refl
proto_at-layer_gets (layer ∷ layers) (suc at) (suc place) item = proto_at-layer_gets layers at place item

-- what a write of the longer layer leaves
pub layer_gets_set : (layers : List Layer) (at : ℕ) (layer : Layer) (item : Item) → layer ≡ get_or layers at layer →
    set layers at (record layer { items = layer.items ++ item ∷ [] }) ≡ layer_gets layers at item
layer_gets_set [] at layer item is = refl
layer_gets_set (first ∷ layers) zero layer item is = rw is refl
layer_gets_set (first ∷ layers) (suc at) layer item is = ap (λ rest. first ∷ rest) (layer_gets_set layers at layer item is)

-- one more item keeps a tree
pub added_fits : (wanted : List ℕ) (layers : List Layer) (buffers : List (List ℕ)) (at : ℕ) (item : Item) → IsTree (record { layers = layers; buffers = buffers; wanted = wanted }) → ItemFits buffers (proto_at layers at) item →
    IsTree (record { layers = layer_gets layers at item; buffers = buffers; wanted = wanted })
added_fits wanted layers buffers at item tree one = record {
  frame = tree.frame;
  count = rw (length-layer_gets layers at item) tree.count;
  layers = item_fits buffers [] layers at item tree.layers one;
}

-- one more buffer
place_fits_more : (buffers : List (List ℕ)) (bytes : List ℕ) (field : ℕ) (value : Value) (place : Place) → PlaceFits buffers field value place → PlaceFits (buffers ++ bytes ∷ []) field value place
place_fits_more buffers bytes field value (Read span) fit =
    (inside_more buffers bytes span fit.0, fit.1, rw (bytes_of-more buffers bytes span fit.0) fit.2, fit.3)
place_fits_more buffers bytes field value (Derived span) fit = inside_more buffers bytes span fit
place_fits_more buffers bytes field value Made fit = tt

items_fit_more : (buffers : List (List ℕ)) (bytes : List ℕ) (proto : ℕ) (items : List Item) → Each (ItemFits buffers proto) items → Each (ItemFits (buffers ++ bytes ∷ []) proto) items
items_fit_more buffers bytes proto [] each = tt
items_fit_more buffers bytes proto (item ∷ items) each = (
  record {
    belongs = each.0.belongs;
    kind = each.0.kind;
    place = place_fits_more buffers bytes item.field item.value item.place each.0.place;
  },
  items_fit_more buffers bytes proto items each.1,
)

layers_fit_more : (buffers : List (List ℕ)) (bytes : List ℕ) (before layers : List Layer) → LayersFit buffers before layers → LayersFit (buffers ++ bytes ∷ []) before layers
layers_fit_more buffers bytes before [] fit = tt
layers_fit_more buffers bytes before (layer ∷ layers) fit = (
  record {
    proto = fit.0.proto;
    nth = fit.0.nth;
    inside = inside_more buffers bytes layer.span fit.0.inside;
    items = items_fit_more buffers bytes layer.proto layer.items fit.0.items;
  },
  layers_fit_more buffers bytes (before ++ layer ∷ []) layers fit.1,
)

-- one more buffer keeps a tree
pub widened_fits : (wanted : List ℕ) (layers : List Layer) (buffers : List (List ℕ)) (bytes : List ℕ) → IsTree (record { layers = layers; buffers = buffers; wanted = wanted }) → IsTree (record { layers = layers; buffers = buffers ++ bytes ∷ []; wanted = wanted })
widened_fits wanted layers buffers bytes tree = record {
  frame = omega (arith, length_push buffers bytes);
  count = tree.count;
  layers = layers_fit_more buffers bytes [] layers tree.layers;
}
