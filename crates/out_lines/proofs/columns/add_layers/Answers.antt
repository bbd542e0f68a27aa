use Rattle.std.proofs.Common.{List, [], ◌∙◌, subst}
use Rattle.std.specs.List.{flat_map}
use Rattle.std.proofs.lemmas.List.{take_all}
use Rattle.pk_tree.specs.declared.layer.Layer.{Layer}
use Rattle.pk_tree.specs.FieldValues.{layer_values}
use Rattle.pk_tree.proofs.LayersFit.{fits_at}
use Rattle.out_lines.specs.Places.{HasAdded}
use Rattle.out_lines.proofs.PlaceLemmas.{added_more, flat_map-more}
use Rattle.out_lines.proofs.columns.add_layers.Goals as goal

pub add_layer-requires-clause-proto : goal.add_layer-requires-clause-proto
add_layer-requires-clause-proto c =
    let fit = fits_at c.requires.fit.0 [] c.args.layers.now c.loop-layer.layer-index c.layer-item.result c.requires.fit.1 c.loop-layer-test.true in
    (rw (← c.layer-item.is) at fit).proto

pub loop-layer-preserved : goal.loop-layer-preserved
loop-layer-preserved c = (
  λ buffers. added_more _ _ _ _ _ _ (λ f. layer_values buffers f c.layer-item.result) _ (c.loop-layer.invariant.0 buffers) (c.in_ok-add_layer.ensures.added buffers)
      (λ f. flat_map-more (layer_values buffers f) c.args.layers.now c.loop-layer.layer-index c.layer-item.result c.loop-layer-test.true c.layer-item.is),
  c.add_layer.ensures.count ∙ c.loop-layer.invariant.1,
)

pub returns-clause-added : goal.returns-clause-added
returns-clause-added c = λ buffers.
    subst (λ (layers : List Layer). HasAdded c.args.style.now c.args.places.now c.args.columns.now c.loop-layer.columns (λ f. flat_map (layer_values buffers f) layers))
    (take_all c.loop-layer.layer-index c.args.layers.now c.loop-layer-test.false) (c.loop-layer.invariant.0 buffers)
