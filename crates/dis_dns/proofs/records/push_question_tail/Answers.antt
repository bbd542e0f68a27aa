use Rattle.dis_dns.proofs.CollectedLemmas.{took_then, took_on}
use Rattle.dis_dns.proofs.records.push_question_tail.Goals as goal

pub returns-clause-adds : goal.returns-clause-adds
returns-clause-adds c =
    took_on _ _ _ _ (took_then _ _ _ _ _ c.push.ensures c.push_class.ensures)
