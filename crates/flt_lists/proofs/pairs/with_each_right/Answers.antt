use Rattle.std.proofs.Common.{◌++◌, option_to_list, ap, ◌∙◌}
use Rattle.flt_lists.proofs.ListLemmas.{more_filtered}
use Rattle.flt_typed.specs.Arithmetic.{calculated}
use Rattle.flt_lists.proofs.pairs.with_each_right.Goals as goal

pub loop-value-preserved : goal.loop-value-preserved
loop-value-preserved c =
    more_filtered (λ value. calculated c.args.operation c.args.left.now value) c.args.right.now c.loop-value.value-index c.value-item.result c.loop-value.answers.items c.add.new.values.items _ c.loop-value-test.true c.value-item.is
    (c.in_ok-add.ensures ∙ ap (λ o. c.loop-value.answers.items ++ option_to_list o) c.calculate.ensures) c.loop-value.invariant
