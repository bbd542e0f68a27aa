use Rattle.std.proofs.Common.{sym, ◌∙◌}
use Rattle.flt_lists.specs.Questions.{is_so}
use Rattle.flt_lists.proofs.ReadLemmas.{all_ended, all_found, all_further, fewer}
use Rattle.pk_tree.specs.FieldValues.{values_of}
use Rattle.flt_lists.proofs.sources.all_read.Goals as goal

pub returns-then-not-truth : goal.returns-then-not-truth
returns-then-not-truth c =
    all_found (λ v. is_so c.args.question.now v) (values_of c.args.outline.now c.args.field c.args.layers.now) c.values.number c.in-Some.truth _
    (sym c.in_ok-truth.ensures ∙ c.in-Some.is) c.if-not-truth.true c.values.invariant

pub values-smaller : goal.values-smaller
values-smaller c =
    fewer (λ v. is_so c.args.question.now v) (values_of c.args.outline.now c.args.field c.args.layers.now) c.values.number c.in_ok-number.number c.in-Some.truth
    (sym c.in_ok-truth.ensures ∙ c.in-Some.is) c.in_ok-number.ensures

pub values-preserved : goal.values-preserved
values-preserved c =
    all_further (λ v. is_so c.args.question.now v) (values_of c.args.outline.now c.args.field c.args.layers.now) c.values.number c.in_ok-number.number c.in-Some.truth _
    (sym c.in_ok-truth.ensures ∙ c.in-Some.is) c.if-not-truth.false c.in_ok-number.ensures c.values.invariant

pub returns : goal.returns
returns c =
    all_ended (λ v. is_so c.args.question.now v) (values_of c.args.outline.now c.args.field c.args.layers.now) c.values.number _
    (sym c.in_ok-truth.ensures ∙ c.in_default.is) c.values.invariant
