-- A tree of some fields grows as the whole tree does.
use Rattle.std.proofs.Common.{◌≡◌, ◌==◌, ℕ, zero, suc, ◌+◌, ◌-◌, Bool, true, false, ◌&&◌, cond, List, [], ◌∷◌, ◌++◌, map, length, Option, Some, None, refl, sym, ap, ◌∙◌, subst}
use Rattle.std.proofs.lemmas.List.{length-map, map-append}
use Rattle.std.proofs.lemmas.List.Folds.{fold-map}
use Rattle.pk_base.specs.declared.span.Span.{Span}
use Rattle.pk_fields.specs.FieldSets.{is_in, every_field}
use Rattle.pk_fields.proofs.FieldSetLemmas.{in_every}
use Rattle.pk_base.specs.declared.heads.Mode.{Mode}
use Rattle.pk_tree.specs.declared.item.Item.{Item}
use Rattle.pk_tree.specs.declared.layer.Layer.{Layer}
use Rattle.pk_tree.specs.declared.layout.Step.{Step}
use Rattle.pk_tree.specs.Layouts.{items_read, reach, reaches_end, fault_of, with_fault, end_of, layer_read}
use Rattle.pk_tree.specs.Trees.{TreeShown, IsKept, kept, kept_layer, kept_tree, layers_of, layer_gets, with_layer, with_item, with_last, with_item_at, with_buffer}
use Rattle.pk_tree.proofs.KeptLemmas.{kept-push}

-- where all fields are wanted
all_wanted : (wanted : List ℕ) → wanted ≡ every_field → (f : ℕ) → is_in wanted f ≡ true
all_wanted wanted all f = ap (λ w. is_in w f) all ∙ in_every f

pub kept_all : (wanted : List ℕ) (items : List Item) → ((f : ℕ) → is_in wanted f ≡ true) → kept wanted items ≡ items
unfolding kept
kept_all wanted [] all = refl
kept_all wanted (item ∷ items) all = rw (all item.field) (ap (λ rest. item ∷ rest) (kept_all wanted items all))

-- one more item in a layer
longer : Layer → Item → Layer
longer layer item = record layer { items = layer.items ++ item ∷ [] }

layer_keeps : (wanted : List ℕ) (layer : Layer) (item : Item) → is_in wanted item.field ≡ true → kept_layer wanted (longer layer item) ≡ longer (kept_layer wanted layer) item
unfolding longer
layer_keeps wanted layer item is = ap (λ items. record layer { items = items }) (rw is at (kept-push wanted layer.items item))

layer_drops : (wanted : List ℕ) (layer : Layer) (item : Item) → is_in wanted item.field ≡ false → kept_layer wanted (longer layer item) ≡ kept_layer wanted layer
unfolding longer
layer_drops wanted layer item is = ap (λ items. record layer { items = items }) (rw is at (kept-push wanted layer.items item))

gets_kept : (wanted : List ℕ) (layers : List Layer) (at : ℕ) (item : Item) → is_in wanted item.field ≡ true → map (kept_layer wanted) (layer_gets layers at item) ≡ layer_gets (map (kept_layer wanted) layers) at item
unfolding longer
gets_kept wanted [] at item is = refl
gets_kept wanted (layer ∷ layers) zero item is = ap (λ first. first ∷ map (kept_layer wanted) layers) (layer_keeps wanted layer item is)
gets_kept wanted (layer ∷ layers) (suc at) item is = ap (λ rest. kept_layer wanted layer ∷ rest) (gets_kept wanted layers at item is)

gets_dropped : (wanted : List ℕ) (layers : List Layer) (at : ℕ) (item : Item) → is_in wanted item.field ≡ false → map (kept_layer wanted) (layer_gets layers at item) ≡ map (kept_layer wanted) layers
unfolding longer
gets_dropped wanted [] at item is = refl
gets_dropped wanted (layer ∷ layers) zero item is = ap (λ first. first ∷ map (kept_layer wanted) layers) (layer_drops wanted layer item is)
gets_dropped wanted (layer ∷ layers) (suc at) item is = ap (λ rest. kept_layer wanted layer ∷ rest) (gets_dropped wanted layers at item is)

of_layers : (wanted : List ℕ) → TreeShown → List Layer → TreeShown
of_layers wanted t layers = record { layers = layers; buffers = t.buffers; wanted = wanted }

same_item : (wanted : List ℕ) (t : TreeShown) (item : Item) → is_in t.wanted item.field ≡ true → with_item (kept_tree wanted t) item ≡ kept_tree wanted (with_item t item)
unfolding with_item with_last with_item_at of_layers
same_item wanted t item all = rw all (by_test (is_in wanted item.field) refl)
  where
    last : ℕ
    last = length (map (kept_layer wanted) t.layers) - 1

    by_test : (test : Bool) → is_in wanted item.field ≡ test → cond (is_in wanted item.field) (of_layers wanted t (layer_gets (map (kept_layer wanted) t.layers) last item)) (of_layers wanted t (map (kept_layer wanted) t.layers)) ≡ of_layers wanted t (map (kept_layer wanted) (layer_gets t.layers (length t.layers - 1) item))
    by_test true is =
        rw (is, length-map t.layers (kept_layer wanted)) (ap (of_layers wanted t) (sym (gets_kept wanted t.layers (length t.layers - 1) item is)))
    by_test false is = rw is (ap (of_layers wanted t) (sym (gets_dropped wanted t.layers (length t.layers - 1) item is)))

still_all : (t : TreeShown) (item : Item) → t.wanted ≡ every_field → (with_item t item).wanted ≡ every_field
unfolding with_item with_last with_item_at
still_all t item all = rw (all_wanted t.wanted all item.field) all

pub item_kept : (wanted : List ℕ) (t u : TreeShown) (item : Item) → IsKept wanted t u → IsKept wanted (with_item t item) (with_item u item)
item_kept wanted t u item k = record {
  same = ap (λ v. with_item v item) k.same ∙ same_item wanted t item (all_wanted t.wanted k.all item.field);
  all = still_all t item k.all;
}

-- one more layer
same_count : (wanted : List ℕ) (proto : ℕ) (layers : List Layer) → layers_of proto (map (kept_layer wanted) layers) ≡ layers_of proto layers
same_count wanted proto layers =
    fold-map (λ (n : ℕ) (layer : Layer). n + cond (layer.proto == proto) 1 0) (kept_layer wanted) 0 layers

same_layer : (wanted : List ℕ) (t : TreeShown) (proto : ℕ) (span : Span) (items : List Item) → ((f : ℕ) → is_in t.wanted f ≡ true) →
    with_layer (kept_tree wanted t) proto span items ≡ kept_tree wanted (with_layer t proto span items)
unfolding with_layer of_layers
same_layer wanted t proto span items all = ap (of_layers wanted t) (rw (
  map-append (kept_layer wanted) t.layers ((record { proto = proto; nth = layers_of proto t.layers + 1; span = span; items = kept t.wanted items }) ∷ []),
  kept_all t.wanted items all,
  same_count wanted proto t.layers,
)
    refl)

pub opened_kept : (wanted : List ℕ) (t u : TreeShown) (proto : ℕ) (span : Span) (items : List Item) → IsKept wanted t u → IsKept wanted (with_layer t proto span items) (with_layer u proto span items)
unfolding with_layer
opened_kept wanted t u proto span items k = record {
  same = ap (λ v. with_layer v proto span items) k.same ∙ same_layer wanted t proto span items (all_wanted t.wanted k.all);
  all = k.all;
}

-- one more buffer
pub buffer_kept : (wanted : List ℕ) (t u : TreeShown) (bytes : List ℕ) → IsKept wanted t u → IsKept wanted (with_buffer t bytes) (with_buffer u bytes)
unfolding with_buffer
buffer_kept wanted t u bytes k = record { same = ap (λ v. with_buffer v bytes) k.same; all = k.all }

pub buffers_kept : (wanted : List ℕ) (t u : TreeShown) → IsKept wanted t u → u.buffers ≡ t.buffers
buffers_kept wanted t u k = ap (λ (v : TreeShown). v.buffers) k.same

pub count_kept : (wanted : List ℕ) (t u : TreeShown) → IsKept wanted t u → length u.layers ≡ length t.layers
count_kept wanted t u k = ap (λ (v : TreeShown). length v.layers) k.same ∙ length-map t.layers (kept_layer wanted)

-- a layer that is read
fault_kept : (wanted : List ℕ) (t u : TreeShown) (span : Span) (fault : Option ℕ) → IsKept wanted t u → IsKept wanted (with_fault t span fault) (with_fault u span fault)
fault_kept wanted t u span None k = k
fault_kept wanted t u span (Some fault) k = opened_kept wanted t u fault (end_of span) [] k

pub layer_kept : (wanted : List ℕ) (t u : TreeShown) (proto : ℕ) (span : Span) (steps : List Step) (mode : Mode) (cut : Bool) → IsKept wanted t u →
    IsKept wanted (layer_read t proto span steps mode cut) (layer_read u proto span steps mode cut)
unfolding layer_read
layer_kept wanted t u proto span steps mode cut k =
    subst (λ (buffers : List (List ℕ)). IsKept wanted (layer_read t proto span steps mode cut) (with_fault (with_layer u proto span (items_read buffers span steps)) span (fault_of mode (cut && reaches_end buffers span) (reach span.len steps)))) (sym (buffers_kept wanted t u k)) (fault_kept wanted _ _ span (fault_of mode (cut && reaches_end t.buffers span) (reach span.len steps)) (opened_kept wanted t u proto span (items_read t.buffers span steps) k))

-- of all fields the whole tree is kept
layers_all : (layers : List Layer) → map (kept_layer every_field) layers ≡ layers
layers_all [] = refl
layers_all (layer ∷ layers) =
    let first : kept_layer every_field layer ≡ layer = ap (λ items. record layer { items = items }) (kept_all every_field layer.items in_every) in
    rw (first, layers_all layers) refl

pub all_kept : (t u : TreeShown) → IsKept every_field t u → u ≡ t
all_kept t u k =
    k.same ∙ ap (λ (layers : List Layer). of_layers' t layers) (layers_all t.layers) ∙ ap (λ (wanted : List ℕ). record t { wanted = wanted }) (sym k.all)
  where
    of_layers' : TreeShown → List Layer → TreeShown
    of_layers' t layers = record { layers = layers; buffers = t.buffers; wanted = every_field }
