use Rattle.std.proofs.Common.{sym, ◌∙◌}
use Rattle.flt_lists.specs.Questions.{is_so}
use Rattle.flt_lists.proofs.ListLemmas.{more_passed}
use Rattle.flt_lists.proofs.quantify.all_are_so.Goals as goal

pub loop-value-preserved : goal.loop-value-preserved
loop-value-preserved c =
    more_passed (λ v. is_so c.args.question.now v) c.args.values.now c.loop-value.value-index c.value-item.result _ c.loop-value-test.true c.value-item.is
    (sym c.is_so.ensures ∙ c.if-not-is_so.false) c.loop-value.invariant
