-- No layer but one of TCP has a stream's number.
use Rattle.std.proofs.Common.{◌≡◌, ◌==◌, ◌<◌, ℕ, zero, suc, Bool, true, false, List, [], ◌∷◌, ◌++◌, length, None, option_and_then, refl, sym, ap, subst, ◌∙◌, true≢false, arith}
use Rattle.std.proofs.lemmas.Bool.{eqb-true}
use Rattle.std.specs.List.{AllByRecursion as Each}
use Rattle.pk_base.specs.declared.value.Value.{Value}
use Rattle.pk_fields.specs.Fields.{row_of}
use Rattle.pk_fields.specs.Ids.{TCP, TCP_STREAM}
use Rattle.pk_fields.specs.Table.{rows}
use Rattle.pk_tree.specs.FieldValues.{item_values}
use Rattle.pk_tree.specs.Trees.{IsTree, ItemFits, LayersFit, TreeShown, proto_at}
use Rattle.pk_tree.specs.declared.item.Item.{Item}
use Rattle.pk_tree.specs.declared.layer.Layer.{Layer}
use Rattle.cap_stats.specs.Places.{number_there}
use Rattle.cap_stats.specs.Told.{first_value, number_of}

-- a layer of another protocol has no stream
no_stream : (buffers : List (List ℕ)) (proto : ℕ) (items : List Item) → Each (ItemFits buffers proto) items → (proto == TCP) ≡ false → item_values TCP_STREAM items ≡ []
unfolding row_of rows
no_stream buffers proto [] fits other = refl
no_stream buffers proto (item ∷ items) fits other = by (no_stream buffers proto items fits.1 other) (item.field == TCP_STREAM) refl
  where
    by : item_values TCP_STREAM items ≡ [] → (test : Bool) → (item.field == TCP_STREAM) ≡ test → item_values TCP_STREAM (item ∷ items) ≡ []
    by rest true same =
        let is : TCP ≡ proto = subst (λ (field : ℕ). (row_of field).proto ≡ proto) (eqb-true item.field TCP_STREAM same) fits.0.belongs in
        absurd (true≢false (ap (λ (p : ℕ). p == TCP) is ∙ other))
    by rest false same = rw same rest

stream_elsewhere : (buffers : List (List ℕ)) (before layers : List Layer) (place : ℕ) → LayersFit buffers before layers → place < length layers → (proto_at layers place == TCP) ≡ false
    → None ≡ number_there layers place TCP_STREAM
stream_elsewhere buffers before [] place fits inside other = absurd (omega (arith, inside))
stream_elsewhere buffers before (layer ∷ layers) zero fits inside other =
    sym (ap (λ (values : List Value). option_and_then number_of (first_value values)) (no_stream buffers layer.proto layer.items fits.0.items other))
stream_elsewhere buffers before (layer ∷ layers) (suc place) fits inside other = stream_elsewhere buffers (before ++ layer ∷ []) layers place fits.1 (omega (arith, inside)) other

pub no_stream_there : (t : TreeShown) (place : ℕ) → IsTree t → place < length t.layers → (proto_at t.layers place == TCP) ≡ false → None ≡ number_there t.layers place TCP_STREAM
no_stream_there t place is inside other = stream_elsewhere t.buffers [] t.layers place is.layers inside other
