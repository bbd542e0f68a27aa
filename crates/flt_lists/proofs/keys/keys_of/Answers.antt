use Rattle.flt_lists.proofs.ListLemmas.{more_keys}
use Rattle.flt_lists.proofs.keys.keys_of.Goals as goal

pub loop-value-preserved : goal.loop-value-preserved
loop-value-preserved c =
    more_keys c.args.prefix c.args.values.now c.loop-value.value-index c.value-item.result c.loop-value.keys.items c.push.new.self.items c.key_of.result _
    c.loop-value-test.true c.value-item.is c.key_of.ensures c.in_ok-push.ensures.items c.loop-value.invariant
