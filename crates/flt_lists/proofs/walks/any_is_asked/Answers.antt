use Rattle.std.proofs.Common.{sym, ◌∙◌}
use Rattle.flt_lists.specs.Walks.{is_asked}
use Rattle.flt_lists.proofs.ListLemmas.{more_failed}
use Rattle.flt_lists.proofs.walks.any_is_asked.Goals as goal

pub loop-layer-preserved : goal.loop-layer-preserved
loop-layer-preserved c =
    more_failed (λ layer. is_asked c.args.proto c.args.layers.now layer) c.args.all.now c.loop-layer.layer-index c.layer-item.result _ c.loop-layer-test.true c.layer-item.is
    (sym c.is_asked.ensures ∙ c.if-is_asked.false) c.loop-layer.invariant
