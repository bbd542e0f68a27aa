use Rattle.std.proofs.Common.{sym, ◌∙◌}
use Rattle.flt_lists.specs.Questions.{is_so}
use Rattle.flt_lists.specs.Walks.{all_in_layer}
use Rattle.flt_lists.proofs.ListLemmas.{more_passed}
use Rattle.flt_lists.proofs.walks.all_in_layers.Goals as goal

pub loop-layer-preserved : goal.loop-layer-preserved
loop-layer-preserved c =
    more_passed (λ layer. all_in_layer (λ v. is_so c.args.question.now v) c.args.field c.args.proto c.args.layers.now layer) c.args.all.now c.loop-layer.layer-index c.layer-item.result _
    c.loop-layer-test.true c.layer-item.is (sym c.all_in_layer.ensures ∙ c.if-not-all_in_layer.false) c.loop-layer.invariant
