use Rattle.std.proofs.Common.{ap, sym, ◌∙◌}
use Rattle.flt_lists.specs.Questions.{is_matched}
use Rattle.flt_lists.proofs.ListLemmas.{more_failed}
use Rattle.flt_lists.proofs.quantify.any_matched.Goals as goal

pub loop-value-preserved : goal.loop-value-preserved
loop-value-preserved c =
    let same = c.loop-value.invariant.same in
    record {
      same = c.is_matched.ensures.same ∙ same;
      rest = more_failed (λ v. is_matched c.args.search.now v) c.args.values.now c.loop-value.value-index c.value-item.result _ c.loop-value-test.true c.value-item.is
          (ap (λ s. is_matched s c.value-item.result) (sym same) ∙ sym c.is_matched.ensures.found ∙ c.if-is_matched.false) c.loop-value.invariant.rest;
    }
