-- Layers that get their links one by one.
use Rattle.std.proofs.Common.{◌≡◌, ◌+◌, ◌<◌, ◌≤◌, ℕ, zero, suc, Bool, true, false, cond, nat_lt, List, [], ◌∷◌, length, drop, count_by, Option, Some, None, refl, sym, ap, ◌∙◌, ◌||◌, add-one, zero-add, get_or, subst, IfSome, arith}
use Rattle.std.proofs.lemmas.Bool.{lt-ltb}
use Rattle.std.proofs.lemmas.List.Sums.{sum_by-cons}
use Rattle.std.proofs.lemmas.Option.{slice_get-get_or}
use Rattle.pk_fields.specs.Fields.{row_of}
use Rattle.std.specs.List.{list_any, slice_get}
use Rattle.pk_tree.specs.declared.item.Item.{Item}
use Rattle.pk_tree.specs.declared.layer.Layer.{Layer}
use Rattle.pk_base.specs.declared.value.Value.TheVariants as values
use Rattle.pk_tree.specs.Trees.{TreeShown, proto_at, layer_gets, made_of, with_item_at}
use Rattle.second_pass.specs.Forward.{link_of, is_part, with_link, with_link_at, linked, forwarded_to}
use Rattle.second_pass.specs.Named.{Noted}

-- the layers where the one at a place gets a link
abbrev layers_with : List Layer → ℕ → Option (ℕ × ℕ) → List Layer
layers_with layers at None = layers
layers_with layers at (Some link) = layer_gets layers at (made_of link.0 (values.Uint link.1))

here : (layer : Layer) (layers : List Layer) (link : Option (ℕ × ℕ)) → layers_with (layer ∷ layers) 0 link ≡ with_link layer link ∷ layers
here layer layers None = refl
here layer layers (Some link) = refl

behind : (layer : Layer) (layers : List Layer) (at : ℕ) (link : Option (ℕ × ℕ)) → layers_with (layer ∷ layers) (suc at) link ≡ layer ∷ layers_with layers at link
behind layer layers at None = refl
behind layer layers at (Some link) = refl

step : (past : List Noted) (frame at : ℕ) (layers : List Layer) (layer : Layer)
    → slice_get (linked past frame at layers) at ≡ Some layer
    → layers_with (linked past frame at layers) at (link_of past frame (list_any is_part (drop (suc at) (linked past frame at layers))) layer)
    ≡ linked past frame (suc at) layers
step past frame zero [] layer is = absurd (cc)
step past frame zero (first ∷ layers) layer is =
    let same : first ≡ layer = cc in
    ap (λ (l : Layer). layers_with (first ∷ layers) 0 (link_of past frame (list_any is_part layers) l)) (sym same)
    ∙ here first layers (link_of past frame (list_any is_part layers) first)
step past frame (suc at) [] layer is = absurd (cc)
step past frame (suc at) (first ∷ layers) layer is =
    let top = with_link first (link_of past frame (list_any is_part layers) first) in
    behind top (linked past frame at layers) at (link_of past frame (list_any is_part (drop (suc at) (linked past frame at layers))) layer)
    ∙ ap (λ (ls : List Layer). top ∷ ls) (step past frame at layers layer is)

-- a tree where one more layer gets its link
pub forwarded_more : (past : List Noted) (frame at : ℕ) (t : TreeShown) (layer : Layer)
    → slice_get (forwarded_to past frame at t).layers at ≡ Some layer
    → with_link_at (forwarded_to past frame at t) at
    (link_of past frame (list_any is_part (drop (at + 1) (forwarded_to past frame at t).layers)) layer)
    ≡ forwarded_to past frame (at + 1) t
unfolding forwarded_to with_item_at
forwarded_more past frame at t layer is =
    by (link_of past frame (list_any is_part (drop (at + 1) (linked past frame at t.layers))) layer)
    ∙ ap (λ (n : ℕ). record t { layers = layers_with (linked past frame at t.layers) at (link_of past frame (list_any is_part (drop n (linked past frame at t.layers))) layer) }) (add-one at)
    ∙ ap (λ (ls : List Layer). record t { layers = ls }) (step past frame at t.layers layer is)
    ∙ ap (λ (n : ℕ). record t { layers = linked past frame n t.layers }) (sym (add-one at))
  where
    by : (link : Option (ℕ × ℕ)) → with_link_at (record t { layers = linked past frame at t.layers }) at link
        ≡ record t { layers = layers_with (linked past frame at t.layers) at link }
    by None = refl
    by (Some link) = refl

-- whether some pass is whether any do
pub some_count : (test : Layer → Bool) (layers : List Layer) → nat_lt 0 (count_by test layers) ≡ list_any test layers
some_count test [] = refl
some_count test (layer ∷ layers) = by (some_count test layers) (test layer) refl
  where
    more : count_by test (layer ∷ layers) ≡ cond (test layer) 1 0 + count_by test layers
    more = sum_by-cons (λ (l : Layer). cond (test l) 1 0) layer layers

    by : nat_lt 0 (count_by test layers) ≡ list_any test layers → (b : Bool) → test layer ≡ b → nat_lt 0 (count_by test (layer ∷ layers)) ≡ list_any test (layer ∷ layers)
    by rest true e =
        let one : count_by test (layer ∷ layers) ≡ 1 + count_by test layers = more ∙ ap (λ (b : Bool). cond b 1 0 + count_by test layers) e in
        lt-ltb 0 (count_by test (layer ∷ layers)) (omega arith) ∙ sym (ap (λ (b : Bool). b || list_any test layers) e)
    by rest false e =
        let none : count_by test (layer ∷ layers) ≡ count_by test layers = more ∙ ap (λ (b : Bool). cond b 1 0 + count_by test layers) e ∙ zero-add (count_by test layers) in
        ap (λ (n : ℕ). nat_lt 0 n) none ∙ rest ∙ sym (ap (λ (b : Bool). b || list_any test layers) e)

-- the layer at a place, and those behind it
pub counted_on : (test : Layer → Bool) (layers : List Layer) (at : ℕ) (layer : Layer) → slice_get layers at ≡ Some layer
    → count_by test (drop at layers) ≡ cond (test layer) 1 0 + count_by test (drop (at + 1) layers)
counted_on test layers at layer is =
    by layers at is ∙ ap (λ (n : ℕ). cond (test layer) 1 0 + count_by test (drop n layers)) (sym (add-one at))
  where
    by : (ls : List Layer) (n : ℕ) → slice_get ls n ≡ Some layer → count_by test (drop n ls) ≡ cond (test layer) 1 0 + count_by test (drop (suc n) ls)
    by [] zero e = absurd (cc)
    by [] (suc n) e = absurd (cc)
    by (first ∷ ls) zero e =
        let same : first ≡ layer = cc in
        sum_by-cons (λ (l : Layer). cond (test l) 1 0) first ls ∙ ap (λ (l : Layer). cond (test l) 1 0 + count_by test ls) same
    by (first ∷ ls) (suc n) e = by ls n e

-- an item more in the layer at a place changes none behind it
gets_behind : (layers : List Layer) (at : ℕ) (item : Item) → drop (suc at) (layer_gets layers at item) ≡ drop (suc at) layers
gets_behind [] at item = refl
gets_behind (layer ∷ layers) zero item = refl
gets_behind (layer ∷ layers) (suc at) item = gets_behind layers at item

pub made_behind : (t : TreeShown) (at : ℕ) (item : Item) → drop (at + 1) (with_item_at t at item).layers ≡ drop (at + 1) t.layers
unfolding with_item_at
made_behind t at item = rw (add-one at) (gets_behind t.layers at item)

-- a tree where one more layer gets its link, by the count of parts left
pub linked_on : (past : List Noted) (frame at : ℕ) (first tree new : TreeShown) (layer : Layer) (parts : ℕ)
    → tree ≡ forwarded_to past frame at first
    → slice_get tree.layers at ≡ Some layer
    → parts ≡ count_by is_part (drop (at + 1) tree.layers)
    → new ≡ with_link_at tree at (link_of past frame (nat_lt 0 parts) layer)
    → new ≡ forwarded_to past frame (at + 1) first
linked_on past frame at first tree new layer parts so_far is left made =
    made
    ∙ ap (λ (n : ℕ). with_link_at tree at (link_of past frame (nat_lt 0 n) layer)) left
    ∙ ap (λ (b : Bool). with_link_at tree at (link_of past frame b layer)) (some_count is_part (drop (at + 1) tree.layers))
    ∙ ap (λ (t : TreeShown). with_link_at t at (link_of past frame (list_any is_part (drop (at + 1) t.layers)) layer)) so_far
    ∙ forwarded_more past frame at first layer (sym (ap (λ (t : TreeShown). slice_get t.layers at) so_far) ∙ is)

-- the layer that is read at a place is the one there, of its protocol
pub layer_there : (layers : List Layer) (at : ℕ) (layer : Layer) → at < length layers → layer ≡ get_or layers at layer → slice_get layers at ≡ Some layer
layer_there layers at layer within is = slice_get-get_or layers at layer within ∙ ap (λ (l : Layer). Some l) (sym is)

pub same_layer : (layers : List Layer) (at : ℕ) (one other : Layer) → slice_get layers at ≡ Some one → slice_get layers at ≡ Some other → one ≡ other
same_layer layers at one other e f = cc

pub proto_there : (layers : List Layer) (at : ℕ) (layer : Layer) → slice_get layers at ≡ Some layer → layer.proto ≡ proto_at layers at
proto_there [] zero layer e = absurd (cc)
proto_there [] (suc at) layer e = absurd (cc)
proto_there (first ∷ layers) zero layer e = let same : first ≡ layer = cc in ap (λ (l : Layer). l.proto) (sym same)
proto_there (first ∷ layers) (suc at) layer e = proto_there layers at layer e

pub belongs_there : (link : Option (ℕ × ℕ)) (one other : ℕ) → one ≡ other → IfSome link (λ l. (row_of l.0).proto ≡ one) → IfSome link (λ l. (row_of l.0).proto ≡ other)
belongs_there link one other same belongs = subst (λ (n : ℕ). IfSome link (λ l. (row_of l.0).proto ≡ n)) same belongs

-- behind the last layer none is counted
pub counted_out : (test : Layer → Bool) (layers : List Layer) (at : ℕ) → length layers ≤ at → count_by test (drop at layers) ≡ 0
counted_out test [] zero past = refl
counted_out test [] (suc at) past = refl
counted_out test (layer ∷ layers) zero past = absurd (omega arith)
counted_out test (layer ∷ layers) (suc at) past = counted_out test layers at (omega arith)
