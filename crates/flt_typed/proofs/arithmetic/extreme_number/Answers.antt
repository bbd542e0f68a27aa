use Rattle.std.proofs.Common.{ap, sym, ◌∙◌}
use Rattle.flt_typed.specs.Arithmetic.{nearer_of, number_in}
use Rattle.flt_typed.proofs.ExtremeLemmas.{last_number, next_number}
use Rattle.flt_typed.proofs.arithmetic.extreme_number.Goals as goal

pub loop-value-preserved : goal.loop-value-preserved
loop-value-preserved c =
    c.loop-value.invariant
    ∙ next_number c.args.extreme c.loop-value.number c.nearer_of-number.result c.args.values.now c.value-item.result c.loop-value.value-index c.loop-value-test.true
    (c.nearer_of-number.ensures ∙ ap (nearer_of c.args.extreme c.loop-value.number) (c.number_in.ensures ∙ ap number_in c.value-item.is))

pub returns : goal.returns
returns c =
    sym (c.loop-value.invariant ∙ last_number c.args.extreme c.loop-value.number c.args.values.now c.loop-value.value-index c.loop-value-test.false)
