use Rattle.flt_lists.specs.Keys.{key_shown}
use Rattle.flt_lists.proofs.ListLemmas.{more_ended}
use Rattle.flt_lists.proofs.ends.end_of.Goals as goal

pub loop-value-preserved : goal.loop-value-preserved
loop-value-preserved c =
    more_ended c.args.extreme c.args.prefix c.args.values.now c.loop-value.value-index c.value-item.result (key_shown c.loop-value.end) (key_shown c.key_of.result) _ _
    c.loop-value-test.true c.value-item.is c.key_of.ensures c.further-end.ensures c.loop-value.invariant
