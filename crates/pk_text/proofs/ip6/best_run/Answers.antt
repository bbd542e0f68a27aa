use Rattle.std.proofs.Common.{arith, rules}
use Rattle.pk_text.proofs.Ip6RunLemmas.{zeros_in_slice, best_none, best_more, best_done}
use Rattle.pk_text.proofs.ip6.best_run.Goals as goal

pub loop-start-init : goal.loop-start-init
loop-start-init c = best_none c.args.groups.now

pub loop-start-preserved : goal.loop-start-preserved
loop-start-preserved c =
    best_more c.args.groups.now c.loop-start.start c.zeros_in_front-count.result c.loop-start.best c.longer-best.result (omega arith) c.loop-start.invariant (zeros_in_slice c.args.groups.now c.loop-start.start _ c.zeros_in_front-count.ensures) (search rules)

pub returns : goal.returns
returns c = best_done c.args.groups.now _ _ _ (omega arith) c.loop-start.invariant
