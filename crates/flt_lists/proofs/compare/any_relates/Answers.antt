use Rattle.std.proofs.Common.{sym, ◌∙◌}
use Rattle.std.specs.List.{list_any}
use Rattle.flt_typed.specs.Relations.{related}
use Rattle.flt_lists.proofs.ListLemmas.{more_failed}
use Rattle.flt_lists.proofs.compare.any_relates.Goals as goal

pub loop-value-preserved : goal.loop-value-preserved
loop-value-preserved c =
    more_failed (λ v. list_any (λ w. related c.args.relation v w c.args.prefix) c.args.right.now) c.args.left.now c.loop-value.value-index c.value-item.result _ c.loop-value-test.true c.value-item.is
    (sym c.any_is_related.ensures ∙ c.if-any_is_related.false) c.loop-value.invariant
