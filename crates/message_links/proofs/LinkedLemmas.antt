-- Adding links layer by layer, and what it leaves as it is.
use Rattle.std.proofs.Common.{◌≡◌, ◌==◌, ℕ, zero, suc, ◌<◌, ◌≤◌, Bool, true, false, cond, if◌then◌else◌, List, [], ◌∷◌, ◌++◌, length, map, get_or, Option, Some, None, refl, sym, ◌∙◌, ap, subst, arith}
use Rattle.std.proofs.lemmas.Bool.{eqb-true}
use Rattle.pk_fields.specs.FieldSets.{is_in, every_field}
use Rattle.pk_fields.specs.Ids.{DNS, DNS_RESPONSE_TO, HTTP, HTTP_REQUEST_IN}
use Rattle.pk_fields.proofs.FieldSetLemmas.{in_every}
use Rattle.pk_tree.specs.declared.item.Item.{Item}
use Rattle.pk_tree.specs.declared.layer.Layer.{Layer}
use Rattle.pk_base.specs.declared.value.Value.TheVariants.{Uint}
use Rattle.pk_tree.specs.Trees.{TreeShown, IsKept, kept, kept_layer, layer_gets, made_of, proto_at}
use Rattle.pk_tree.proofs.KeptLemmas.{kept-push}
use Rattle.message_links.specs.declared.linking.Link.{Link}
use Rattle.message_links.specs.Linked.{layer_link, layer_linked, link_at, linked, linked_at, wanted_link, with_link}

-- ---- the first layers, and then the others

abbrev pub upto : (Layer → Layer) → ℕ → List Layer → List Layer
upto f zero layers = layers
upto f (suc n) [] = []
upto f (suc n) (layer ∷ layers) = f layer ∷ upto f n layers

pub upto_length : (f : Layer → Layer) (n : ℕ) (layers : List Layer) → length (upto f n layers) ≡ length layers
upto_length f zero layers = refl
upto_length f (suc n) [] = refl
upto_length f (suc n) (layer ∷ layers) = ap suc (upto_length f n layers)

pub upto_all : (f : Layer → Layer) (n : ℕ) (layers : List Layer) → length layers ≤ n → upto f n layers ≡ map f layers
upto_all f zero [] past = refl
upto_all f (suc n) [] past = refl
upto_all f zero (layer ∷ layers) past = absurd (omega (arith, past))
upto_all f (suc n) (layer ∷ layers) past = ap (λ (rest : List Layer). f layer ∷ rest) (upto_all f n layers (omega (arith, past)))

-- the next one
pub upto_next : (f : Layer → Layer) (n : ℕ) (layers : List Layer) → n < length layers → linked_at f n (upto f n layers) ≡ upto f (suc n) layers
upto_next f n [] within = absurd (omega (arith, within))
upto_next f zero (layer ∷ layers) within = refl
upto_next f (suc n) (layer ∷ layers) within = ap (λ (rest : List Layer). f layer ∷ rest) (upto_next f n layers (omega (arith, within)))

pub linked_same : (f : Layer → Layer) (at : ℕ) (layers : List Layer) (d : Layer) → at < length layers → f (get_or layers at d) ≡ get_or layers at d → linked_at f at layers ≡ layers
linked_same f at [] d within same = absurd (omega (arith, within))
linked_same f zero (layer ∷ layers) d within same = ap (λ (first : Layer). first ∷ layers) same
linked_same f (suc at) (layer ∷ layers) d within same = ap (λ (rest : List Layer). layer ∷ rest) (linked_same f at layers d (omega (arith, within)) same)

pub linked_longer : (f : Layer → Layer) (at : ℕ) (layers : List Layer) (d : Layer) (item : Item) → at < length layers
    → f (get_or layers at d) ≡ record (get_or layers at d) { items = (get_or layers at d).items ++ item ∷ [] } → layer_gets layers at item ≡ linked_at f at layers
linked_longer f at [] d item within is = absurd (omega (arith, within))
linked_longer f zero (layer ∷ layers) d item within is = ap (λ (first : Layer). first ∷ layers) (sym is)
linked_longer f (suc at) (layer ∷ layers) d item within is = ap (λ (rest : List Layer). layer ∷ rest) (linked_longer f at layers d item (omega (arith, within)) is)

-- a layer that is read at a place
pub layer_none : (wanted : List ℕ) (links : List (Option ℕ)) (at : ℕ) (layers : List Layer) (layer : Layer) → at < length layers → layer ≡ get_or layers at layer
    → layer_link wanted links layer ≡ None → linked_at (layer_linked wanted links) at layers ≡ layers
layer_none wanted links at layers layer within is none =
    linked_same (layer_linked wanted links) at layers layer within
    (subst (λ (l : Layer). layer_linked wanted links l ≡ l) is (ap (with_link layer) none))

pub layer_some : (wanted : List ℕ) (links : List (Option ℕ)) (at : ℕ) (layers : List Layer) (layer : Layer) (link : Link) → at < length layers → layer ≡ get_or layers at layer
    → layer_link wanted links layer ≡ Some link → layer_gets layers at (made_of link.field (Uint link.frame)) ≡ linked_at (layer_linked wanted links) at layers
layer_some wanted links at layers layer link within is some =
    linked_longer (layer_linked wanted links) at layers layer (made_of link.field (Uint link.frame)) within
    (subst (λ (l : Layer). layer_linked wanted links l ≡ record l { items = l.items ++ made_of link.field (Uint link.frame) ∷ [] }) is (ap (with_link layer) some))

proto_of : (layers : List Layer) (at : ℕ) (d : Layer) → at < length layers → proto_at layers at ≡ (get_or layers at d).proto
proto_of [] at d within = absurd (omega (arith, within))
proto_of (layer ∷ layers) zero d within = refl
proto_of (layer ∷ layers) (suc at) d within = proto_of layers at d (omega (arith, within))

pub proto_read : (layers : List Layer) (at : ℕ) (layer : Layer) (proto : ℕ) → at < length layers → layer ≡ get_or layers at layer → proto ≡ layer.proto → proto ≡ proto_at layers at
proto_read layers at layer proto within is proto_is = proto_is ∙ ap (λ (l : Layer). l.proto) is ∙ sym (proto_of layers at layer within)

-- ---- no links

pub empty_is : {A : Type 0} (xs : List A) → (length xs == 0) ≡ true → xs ≡ []
empty_is [] none = refl
empty_is (x ∷ xs) none = let bad : length (x ∷ xs) ≡ 0 = eqb-true (length (x ∷ xs)) 0 none in absurd (omega (arith, bad))

pub none_linked : (f : Layer → Layer) (layers : List Layer) → ((layer : Layer) → f layer ≡ layer) → map f layers ≡ layers
none_linked f [] same = refl
none_linked f (layer ∷ layers) same =
    ap (λ (first : Layer). first ∷ map f layers) (same layer) ∙ ap (λ (rest : List Layer). layer ∷ rest) (none_linked f layers same)

either_none : (test : Bool) (one other : Option Link) → one ≡ None → other ≡ None → (if test then one else other) ≡ None
either_none true one other first second = first
either_none false one other first second = second

nothing_unlinked : (wanted : List ℕ) (layer : Layer) → layer_link wanted [] layer ≡ None
nothing_unlinked wanted layer =
    either_none (layer.proto == DNS) _ _ refl (either_none (layer.proto == HTTP) _ None refl refl)

pub no_links : (wanted : List ℕ) (t : TreeShown) → linked wanted [] t ≡ t
unfolding linked
no_links wanted t =
    ap (λ (layers : List Layer). record t { layers = layers })
    (none_linked (layer_linked wanted []) t.layers (λ layer. ap (with_link layer) (nothing_unlinked wanted layer)))

unwanted_none : (wanted : List ℕ) (field : ℕ) (frame : Option ℕ) → is_in wanted field ≡ false → wanted_link wanted field frame ≡ None
unwanted_none wanted field None none = refl
unwanted_none wanted field (Some frame) none = rw none refl

-- none of the wanted fields
pub unasked_links : (wanted : List ℕ) (links : List (Option ℕ)) (t : TreeShown) → is_in wanted DNS_RESPONSE_TO ≡ false → is_in wanted HTTP_REQUEST_IN ≡ false → linked wanted links t ≡ t
unfolding linked
unasked_links wanted links t dns http =
    ap (λ (layers : List Layer). record t { layers = layers })
    (none_linked (layer_linked wanted links) t.layers
    (λ layer. ap (with_link layer)
    (either_none (layer.proto == DNS) _ _ (unwanted_none wanted DNS_RESPONSE_TO (link_at links layer) dns)
    (either_none (layer.proto == HTTP) _ None (unwanted_none wanted HTTP_REQUEST_IN (link_at links layer) http) refl))))

-- ---- links of a tree of some fields

link_kept : (wanted : List ℕ) (field : ℕ) (frame : Option ℕ) (layer : Layer)
    → with_link (kept_layer wanted layer) (wanted_link wanted field frame) ≡ kept_layer wanted (with_link layer (wanted_link every_field field frame))
link_kept wanted field None layer = refl
link_kept wanted field (Some frame) layer = rw (in_every field) (by (is_in wanted field) refl)
  where
    item : Item
    item = made_of field (Uint frame)

    by : (test : Bool) → is_in wanted field ≡ test
        → with_link (kept_layer wanted layer) (if test then Some (record { field = field; frame = frame }) else None) ≡ record layer { items = kept wanted (layer.items ++ item ∷ []) }
    by true is = ap (λ (items : List Item). record layer { items = items }) (sym (kept-push wanted layer.items item ∙ ap (λ (test : Bool). cond test (kept wanted layer.items ++ item ∷ []) (kept wanted layer.items)) is))
    by false is = ap (λ (items : List Item). record layer { items = items }) (sym (kept-push wanted layer.items item ∙ ap (λ (test : Bool). cond test (kept wanted layer.items ++ item ∷ []) (kept wanted layer.items)) is))

either_kept : (wanted : List ℕ) (layer : Layer) (test : Bool) (one whole other rest : Option Link) → with_link (kept_layer wanted layer) one ≡ kept_layer wanted (with_link layer whole)
    → with_link (kept_layer wanted layer) other ≡ kept_layer wanted (with_link layer rest)
    → with_link (kept_layer wanted layer) (if test then one else other) ≡ kept_layer wanted (with_link layer (if test then whole else rest))
either_kept wanted layer true one whole other rest first second = first
either_kept wanted layer false one whole other rest first second = second

layer_kept : (wanted : List ℕ) (links : List (Option ℕ)) (layer : Layer) → layer_linked wanted links (kept_layer wanted layer) ≡ kept_layer wanted (layer_linked every_field links layer)
layer_kept wanted links layer =
    either_kept wanted layer (layer.proto == DNS) _ _ _ _ (link_kept wanted DNS_RESPONSE_TO (link_at links layer) layer)
    (either_kept wanted layer (layer.proto == HTTP) _ _ None None (link_kept wanted HTTP_REQUEST_IN (link_at links layer) layer) refl)

layers_kept : (wanted : List ℕ) (links : List (Option ℕ)) (layers : List Layer)
    → map (layer_linked wanted links) (map (kept_layer wanted) layers) ≡ map (kept_layer wanted) (map (layer_linked every_field links) layers)
layers_kept wanted links [] = refl
layers_kept wanted links (layer ∷ layers) =
    ap (λ (first : Layer). first ∷ map (layer_linked wanted links) (map (kept_layer wanted) layers)) (layer_kept wanted links layer)
    ∙ ap (λ (rest : List Layer). kept_layer wanted (layer_linked every_field links layer) ∷ rest) (layers_kept wanted links layers)

pub links_kept : (wanted : List ℕ) (links : List (Option ℕ)) (t u : TreeShown) → IsKept wanted t u → IsKept wanted (linked every_field links t) (linked wanted links u)
unfolding linked
links_kept wanted links t u k = record {
  same = ap (linked wanted links) k.same ∙ ap (λ (layers : List Layer). record { layers = layers; buffers = t.buffers; wanted = wanted }) (layers_kept wanted links t.layers);
  all = k.all;
}
