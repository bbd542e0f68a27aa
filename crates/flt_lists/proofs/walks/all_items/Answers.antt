use Rattle.std.proofs.Common.{◌==◌, ◌||◌, not, ap, sym, ◌∙◌}
use Rattle.flt_lists.specs.Questions.{is_so}
use Rattle.flt_lists.specs.Walks.{all_items}
use Rattle.flt_lists.proofs.ListLemmas.{more_passed}
use Rattle.flt_lists.proofs.walks.all_items.Goals as goal
use Rattle.flt_lists.proofs.walks.all_items.Goals.{else-eq-via-then-eq+else-not-is_so, else-eq-via-else-eq}
use Rattle.pk_tree.specs.declared.item.Item.{Item}

pub loop-item-preserved : goal.loop-item-preserved
loop-item-preserved c =
    let x = c.item-item.result in
    let so = is_so c.args.question.now x.value in
    let on = more_passed (λ (item : Item). not (item.field == c.args.field) || is_so c.args.question.now item.value) c.args.items.now c.loop-item.item-index x
    (all_items (λ v. is_so c.args.question.now v) c.args.field c.args.items.now)
    c.loop-item-test.true c.item-item.is in
    elim c.else-eq.branch [
      | else-eq-via-then-eq+else-not-is_so w ↦ on (ap (λ t. not t || so) (sym c.eq.ensures ∙ w.if-eq.true) ∙ (sym w.is_so.ensures ∙ w.if-not-is_so.false)) c.loop-item.invariant
      | else-eq-via-else-eq w ↦ on (ap (λ t. not t || so) (sym c.eq.ensures ∙ w.if-eq.false)) c.loop-item.invariant
    ]
