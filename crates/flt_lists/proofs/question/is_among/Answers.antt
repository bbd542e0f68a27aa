use Rattle.std.proofs.Common.{sym, ◌∙◌}
use Rattle.flt_lists.specs.Questions.{is_member}
use Rattle.flt_lists.proofs.ListLemmas.{more_failed}
use Rattle.flt_lists.proofs.question.is_among.Goals as goal

pub loop-member-preserved : goal.loop-member-preserved
loop-member-preserved c =
    more_failed (λ m. is_member c.args.value.now m) c.args.members.now c.loop-member.member-index c.member-item.result _ c.loop-member-test.true c.member-item.is
    (sym c.is_member.ensures ∙ c.if-is_member.false) c.loop-member.invariant
