use Rattle.std.proofs.Common.{◌++◌, option_to_list, ap, ◌∙◌}
use Rattle.flt_lists.proofs.ListLemmas.{more_filtered}
use Rattle.flt_typed.specs.Calls.{masked}
use Rattle.flt_lists.proofs.lists.masked_values.Goals as goal

pub loop-value-preserved : goal.loop-value-preserved
loop-value-preserved c =
    more_filtered (λ value. masked c.args.mask value) c.args.values.now c.loop-value.value-index c.value-item.result c.loop-value.answers.items c.add.new.values.items _ c.loop-value-test.true c.value-item.is
    (c.in_ok-add.ensures ∙ ap (λ o. c.loop-value.answers.items ++ option_to_list o) c.masked.ensures) c.loop-value.invariant
