use Rattle.std.proofs.Common.{ap, sym, ◌∙◌}
use Rattle.flt_typed.specs.Kinds.{kind_of_value, same_class}
use Rattle.flt_lists.proofs.ListLemmas.{more_passed}
use Rattle.flt_lists.proofs.compare.are_of_class.Goals as goal

pub loop-value-preserved : goal.loop-value-preserved
loop-value-preserved c =
    more_passed (λ v. same_class c.args.kind (kind_of_value v)) c.args.values.now c.loop-value.value-index c.value-item.result _ c.loop-value-test.true c.value-item.is
    (ap (same_class c.args.kind) (sym c.kind_of_value.ensures) ∙ sym c.same_class.ensures ∙ c.if-not-same_class.false) c.loop-value.invariant
