use Rattle.shark_words.proofs.FoundLemmas.{last_rule, next_rule}
use Rattle.shark_words.proofs.asked.rules_of.Goals as goal

pub loop-used-preserved : goal.loop-used-preserved
loop-used-preserved c =
    next_rule c.args.uses.now c.loop-used.used-index c.used-item.result c.rule_in.result c.loop-used.rules.items c.push_found.new.all.items
    c.loop-used-test.true c.used-item.is c.rule_in.ensures c.in_ok-push_found.ensures c.loop-used.invariant

pub returns : goal.returns
returns c = last_rule c.args.uses.now c.loop-used.used-index c.loop-used.rules.items c.loop-used-test.false c.loop-used.invariant
