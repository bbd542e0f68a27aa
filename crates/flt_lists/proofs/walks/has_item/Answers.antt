use Rattle.std.proofs.Common.{ap, ◌∙◌}
use Rattle.flt_lists.proofs.WalkLemmas.{item_there}
use Rattle.flt_lists.specs.Questions.{is_so}
use Rattle.flt_lists.specs.Walks.{any_in_layers}
use Rattle.flt_lists.specs.declared.question.Question.TheVariants.{IsThere}
use Rattle.pk_fields.specs.Fields.{row_of}
use Rattle.flt_lists.proofs.walks.has_item.Goals as goal

pub returns : goal.returns
returns c =
    c.any_in_layers.ensures
    ∙ (ap (λ proto. any_in_layers (λ v. is_so IsThere v) c.args.field proto c.args.layers.now c.layers.result.now) c.proto.ensures.row
    ∙ (ap (λ layers. any_in_layers (λ v. is_so IsThere v) c.args.field (row_of c.args.field).proto c.args.layers.now layers) c.layers.ensures.layers
    ∙ item_there c.args.tree.now c.args.field c.args.layers.now c.layers.ensures.fits c.requires))
