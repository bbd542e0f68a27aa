-- What the steps of a layer add, one by one and all together.
use Rattle.std.proofs.Common.{◌≡◌, ℕ, zero, suc, ◌+◌, ◌-◌, ◌<◌, Bool, true, false, ◌&&◌, cond, List, [], ◌∷◌, ◌++◌, length, get_or, drop, refl, sym, ap, ◌∙◌, arith, append_assoc, append-nil}
use Rattle.std.proofs.lemmas.List.{drop_more, length_push}
use Rattle.pk_base.specs.declared.span.Span.{Span}
use Rattle.pk_fields.specs.FieldSets.{is_in}
use Rattle.pk_base.specs.declared.heads.Mode.{Mode}
use Rattle.pk_tree.specs.declared.item.Item.{Item}
use Rattle.pk_tree.specs.declared.layer.Layer.{Layer}
use Rattle.pk_tree.specs.declared.layout.Step.{Step}
use Rattle.pk_tree.specs.declared.layout.Reach.{Reach}
use Rattle.pk_tree.specs.declared.layout.Reach.TheVariants.{All, Short, Failed}
use Rattle.pk_tree.specs.Layouts.{is_all, step_reach, step_items, items_after, items_read, reach, reaches_end, fault_of, with_fault, layer_read, with_items}
use Rattle.pk_tree.specs.Trees.{TreeShown, with_layer, with_item, with_last, with_item_at, layer_gets, layers_of, kept}
use Rattle.pk_tree.proofs.KeptLemmas.{kept-push}

pub with_items-append : (t : TreeShown) (xs ys : List Item) → with_items t (xs ++ ys) ≡ with_items (with_items t xs) ys
unfolding with_items
with_items-append t [] ys = refl
with_items-append t (x ∷ xs) ys = with_items-append (with_item t x) xs ys

-- a step that is read, then the others
items_read-on : (buffers : List (List ℕ)) (span : Span) (step : Step) (steps : List Step) (r : Reach) → is_all r ≡ true → r ≡ step_reach span.len step →
    items_read buffers span (step ∷ steps) ≡ items_after r (step_items buffers span step) ++ items_read buffers span steps
unfolding items_read
items_read-on buffers span step steps All on is = rw (← is) refl
items_read-on buffers span step steps Short on is = absurd (cc)
items_read-on buffers span step steps Failed on is = absurd (cc)

-- a step that isn't read, whatever follows
items_read-off : (buffers : List (List ℕ)) (span : Span) (step : Step) (steps : List Step) (r : Reach) → is_all r ≡ false → r ≡ step_reach span.len step →
    items_read buffers span (step ∷ steps) ≡ items_after r (step_items buffers span step)
unfolding items_read
items_read-off buffers span step steps All off is = absurd (cc)
items_read-off buffers span step steps Short off is = rw (← is) refl
items_read-off buffers span step steps Failed off is = rw (← is) refl

pub reach-on : (end : ℕ) (step : Step) (steps : List Step) (r : Reach) → is_all r ≡ true → r ≡ step_reach end step → reach end (step ∷ steps) ≡ reach end steps
unfolding reach
reach-on end step steps All on is = rw (← is) refl
reach-on end step steps Short on is = absurd (cc)
reach-on end step steps Failed on is = absurd (cc)

pub reach-off : (end : ℕ) (step : Step) (steps : List Step) (r : Reach) → is_all r ≡ false → r ≡ step_reach end step → reach end (step ∷ steps) ≡ r
unfolding reach
reach-off end step steps All off is = absurd (cc)
reach-off end step steps Short off is = rw (← is) refl
reach-off end step steps Failed off is = rw (← is) refl

-- the tree after a step and what is left of the steps
pub tree-on : (first t next : TreeShown) (span : Span) (steps rest : List Step) (step : Step) (r : Reach) → with_items t (items_read first.buffers span (step ∷ rest)) ≡ with_items first (items_read first.buffers span steps) →
    t.buffers ≡ first.buffers → is_all r ≡ true → r ≡ step_reach span.len step → next ≡ with_items t (items_after r (step_items t.buffers span step)) →
    with_items next (items_read first.buffers span rest) ≡ with_items first (items_read first.buffers span steps)
tree-on first t next span steps rest step r goes same on is new =
    let read : items_read first.buffers span (step ∷ rest) ≡ items_after r (step_items first.buffers span step) ++ items_read first.buffers span rest = items_read-on first.buffers span step rest r on is in
    let added : next ≡ with_items t (items_after r (step_items first.buffers span step)) = new ∙ ap (λ buffers. with_items t (items_after r (step_items buffers span step))) same in
    rw added (sym (with_items-append t (items_after r (step_items first.buffers span step)) (items_read first.buffers span rest)) ∙ ap (with_items t) (sym read) ∙ goes)

pub tree-off : (first t next : TreeShown) (span : Span) (steps rest : List Step) (step : Step) (r : Reach) → with_items t (items_read first.buffers span (step ∷ rest)) ≡ with_items first (items_read first.buffers span steps) →
    t.buffers ≡ first.buffers → is_all r ≡ false → r ≡ step_reach span.len step → next ≡ with_items t (items_after r (step_items t.buffers span step)) →
    next ≡ with_items first (items_read first.buffers span steps)
tree-off first t next span steps rest step r goes same off is new =
    new ∙ ap (λ buffers. with_items t (items_after r (step_items buffers span step))) same ∙ ap (with_items t) (sym (items_read-off first.buffers span step rest r off is)) ∙ goes

-- the steps that are left begin with the one at hand
pub steps_left : (steps : List Step) (at : ℕ) (step : Step) → at < length steps → step ≡ get_or steps at step → drop at steps ≡ step ∷ drop (at + 1) steps
steps_left steps at step inside is = rw (← is) at (drop_more steps at step inside)

pub none_read : (buffers : List (List ℕ)) (span : Span) (t : TreeShown) → with_items t (items_read buffers span []) ≡ t
unfolding items_read with_items
none_read buffers span t = refl

pub reach-none : (end : ℕ) → reach end [] ≡ All
unfolding reach
reach-none end = refl

-- items in a new layer
gets_last : (layers : List Layer) (layer : Layer) (item : Item) (at : ℕ) → length layers ≡ at → layer_gets (layers ++ layer ∷ []) at item ≡ layers ++ (record layer { items = layer.items ++ item ∷ [] }) ∷ []
gets_last [] layer item zero here = refl
gets_last [] layer item (suc at) here = absurd (omega arith)
gets_last (first ∷ layers) layer item zero here = absurd (omega arith)
gets_last (first ∷ layers) layer item (suc at) here = ap (λ rest. first ∷ rest) (gets_last layers layer item at (omega arith))

with_item-layer : (t : TreeShown) (proto : ℕ) (span : Span) (items : List Item) (item : Item) → with_item (with_layer t proto span items) item ≡ with_layer t proto span (items ++ item ∷ [])
unfolding with_item with_last with_item_at with_layer
with_item-layer t proto span items item = by_test (is_in t.wanted item.field) refl
  where
    of_items : List Item → Layer
    of_items held = record { proto = proto; nth = layers_of proto t.layers + 1; span = span; items = held }

    longer : List Item → TreeShown
    longer held = record t { layers = t.layers ++ of_items held ∷ [] }

    layer : Layer
    layer = of_items (kept t.wanted items)

    by_test : (test : Bool) → is_in t.wanted item.field ≡ test → cond (is_in t.wanted item.field) (record t { layers = layer_gets (t.layers ++ layer ∷ []) (length (t.layers ++ layer ∷ []) - 1) item }) (longer (kept t.wanted items)) ≡ longer (kept t.wanted (items ++ item ∷ []))
    by_test true is =
        let last : length t.layers ≡ length (t.layers ++ layer ∷ []) - 1 = omega (arith, length_push t.layers layer) in
        let gets = gets_last t.layers layer item (length (t.layers ++ layer ∷ []) - 1) last in
        let items_same : kept t.wanted (items ++ item ∷ []) ≡ kept t.wanted items ++ item ∷ [] = rw is at (kept-push t.wanted items item) in
        rw (is, items_same) (ap (λ (layers : List Layer). record t { layers = layers }) gets)
    by_test false is =
        let items_same : kept t.wanted (items ++ item ∷ []) ≡ kept t.wanted items = rw is at (kept-push t.wanted items item) in
        rw (is, items_same) refl

pub with_items-layer : (t : TreeShown) (proto : ℕ) (span : Span) (items more : List Item) → with_items (with_layer t proto span items) more ≡ with_layer t proto span (items ++ more)
unfolding with_items
with_items-layer t proto span items [] = rw append-nil refl
with_items-layer t proto span items (item ∷ more) =
    rw (with_item-layer t proto span items item, with_items-layer t proto span (items ++ item ∷ []) more, append_assoc items (item ∷ []) more) refl

-- a layer that is opened, read and closed
pub layer_by_parts : (t opened read closed : TreeShown) (proto : ℕ) (span : Span) (steps : List Step) (mode : Mode) (cut : Bool) (r : Reach) → opened ≡ with_layer t proto span [] → opened.buffers ≡ t.buffers →
    read ≡ with_items opened (items_read opened.buffers span steps) → read.buffers ≡ opened.buffers → r ≡ reach span.len steps → closed ≡ with_fault read span (fault_of mode (cut && reaches_end read.buffers span) r) →
    closed ≡ layer_read t proto span steps mode cut
unfolding layer_read
layer_by_parts t opened read closed proto span steps mode cut r o ob i ib w c =
    let layer : read ≡ with_layer t proto span (items_read t.buffers span steps) =
    i ∙ ap (λ buffers. with_items opened (items_read buffers span steps)) ob ∙ ap (λ u. with_items u (items_read t.buffers span steps)) o ∙ with_items-layer t proto span [] (items_read t.buffers span steps) in
    let end : cut && reaches_end read.buffers span ≡ (cut && reaches_end t.buffers span) = ap (λ buffers. cut && reaches_end buffers span) (ib ∙ ob) in
    c ∙ ap (λ u. with_fault u span (fault_of mode (cut && reaches_end read.buffers span) r)) layer ∙ ap (λ torn. with_fault (with_layer t proto span (items_read t.buffers span steps)) span (fault_of mode torn r)) end ∙ ap (λ q. with_fault (with_layer t proto span (items_read t.buffers span steps)) span (fault_of mode (cut && reaches_end t.buffers span) q)) w
