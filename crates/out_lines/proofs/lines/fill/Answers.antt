use Rattle.std.proofs.Common.{List, subst}
use Rattle.std.specs.List.{flat_map}
use Rattle.std.proofs.lemmas.Result.{on_ok_weaker}
use Rattle.pk_tree.specs.declared.layer.Layer.{Layer}
use Rattle.pk_tree.specs.FieldValues.{layer_values}
use Rattle.out_lines.specs.Places.{HasAdded}
use Rattle.out_lines.proofs.PlaceLemmas.{all_written}
use Rattle.out_lines.proofs.lines.fill.Goals as goal

pub returns-clause-written : goal.returns-clause-written
returns-clause-written c =
    let t = c.args.tree.now in
    on_ok_weaker c.add_layers.result (λ added. all_written c.args.style.now t c.args.places.now c.clear_columns.new.columns c.add_layers.new.columns c.clear_columns.ensures.empty
    (subst (λ (layers : List Layer). HasAdded c.args.style.now c.args.places.now c.clear_columns.new.columns c.add_layers.new.columns (λ f. flat_map (layer_values t.buffers f) layers)) c.layers.ensures.layers (added t.buffers))) c.add_layers.ensures.added
