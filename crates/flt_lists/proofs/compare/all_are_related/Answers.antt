use Rattle.std.proofs.Common.{sym, ◌∙◌}
use Rattle.flt_typed.specs.Relations.{related}
use Rattle.flt_lists.proofs.ListLemmas.{more_passed}
use Rattle.flt_lists.proofs.compare.all_are_related.Goals as goal

pub loop-value-preserved : goal.loop-value-preserved
loop-value-preserved c =
    more_passed (λ w. related c.args.relation c.args.left.now w c.args.prefix) c.args.right.now c.loop-value.value-index c.value-item.result _ c.loop-value-test.true c.value-item.is
    (sym c.related.ensures ∙ c.if-not-related.false) c.loop-value.invariant
