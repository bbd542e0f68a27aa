use Rattle.dis_dns.proofs.CollectedLemmas.{took_then}
use Rattle.dis_dns.proofs.records.push_class.Goals as goal

pub returns-in-Full : goal.returns-in-Full
returns-in-Full c =
    rw c.in-Full.is c.push.ensures

pub returns-in-Split : goal.returns-in-Split
returns-in-Split c =
    rw c.in-Split.is (took_then _ _ _ _ _ c.push-in-Split.ensures c.push-in-Split-2.ensures)
