use Rattle.dis_dns.proofs.CollectedLemmas.{took_last}
use Rattle.dis_dns.proofs.records.push_last.Goals as goal

pub returns-clause-takes : goal.returns-clause-takes
returns-clause-takes c =
    took_last _ _ _ c.push.ensures
