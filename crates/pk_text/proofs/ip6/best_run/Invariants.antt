use Rattle.pk_text.proofs.Ip6RunLemmas.{IsBestBefore}
use Rattle.pk_text.proofs.ip6.best_run.Given as goal

abbrev pub invariant-loop-start : goal.invariant-loop-start
invariant-loop-start l = IsBestBefore l.groups l.start l.best.start l.best.count
