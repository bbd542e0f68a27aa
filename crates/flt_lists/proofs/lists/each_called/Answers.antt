use Rattle.std.proofs.Common.{◌++◌, option_to_list, ap, ◌∙◌}
use Rattle.flt_lists.proofs.ListLemmas.{more_filtered}
use Rattle.flt_typed.specs.Calls.{called}
use Rattle.flt_lists.proofs.lists.each_called.Goals as goal

pub loop-value-preserved : goal.loop-value-preserved
loop-value-preserved c =
    more_filtered (λ value. called c.args.function value) c.args.values.now c.loop-value.value-index c.value-item.result c.loop-value.answers.items c.add.new.values.items _ c.loop-value-test.true c.value-item.is
    (c.in_ok-add.ensures ∙ ap (λ o. c.loop-value.answers.items ++ option_to_list o) c.in_ok-answer.ensures) c.loop-value.invariant
