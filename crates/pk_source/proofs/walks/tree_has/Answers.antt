use Rattle.std.proofs.Common.{ap, ◌∙◌}
use Rattle.std.specs.List.{flat_map}
use Rattle.pk_source.specs.Found.{is_there}
use Rattle.pk_tree.specs.FieldValues.{chosen_values, values_of}
use Rattle.pk_source.proofs.walks.tree_has.Goals as goal

pub returns : goal.returns
unfolding values_of
returns c =
    let buffers = c.args.tree.now.buffers in
    c.any_has.ensures buffers
    ∙ ap (λ layers. is_there (flat_map (λ layer. chosen_values buffers c.args.field c.args.layers.now layer) layers)) c.layers.ensures.layers
