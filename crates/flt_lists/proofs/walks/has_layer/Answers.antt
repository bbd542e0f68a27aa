use Rattle.std.proofs.Common.{ap, ◌∙◌}
use Rattle.std.specs.List.{list_any}
use Rattle.flt_lists.proofs.WalkLemmas.{proto_there}
use Rattle.flt_lists.specs.Walks.{is_asked}
use Rattle.flt_lists.proofs.walks.has_layer.Goals as goal

pub returns : goal.returns
returns c =
    c.any_is_asked.ensures
    ∙ (ap (λ layers. list_any (λ layer. is_asked c.args.proto c.args.layers.now layer) layers) c.layers.ensures.layers
    ∙ proto_there c.args.tree.now c.args.proto c.args.layers.now c.requires)
