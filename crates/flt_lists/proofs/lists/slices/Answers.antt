use Rattle.std.proofs.Common.{◌++◌, option_to_list, ap, ◌∙◌}
use Rattle.flt_lists.proofs.ListLemmas.{more_filtered}
use Rattle.flt_typed.specs.Slices.{sliced}
use Rattle.flt_lists.proofs.lists.slices.Goals as goal

pub loop-value-preserved : goal.loop-value-preserved
loop-value-preserved c =
    more_filtered (λ value. sliced value c.args.ranges.now) c.args.values.now c.loop-value.value-index c.value-item.result c.loop-value.slices.items c.add.new.values.items _ c.loop-value-test.true c.value-item.is
    (c.in_ok-add.ensures ∙ ap (λ o. c.loop-value.slices.items ++ option_to_list o) c.in_ok-bytes.ensures) c.loop-value.invariant
