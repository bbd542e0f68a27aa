use Rattle.dis_dns.proofs.CollectedLemmas.{took_then}
use Rattle.dis_dns.proofs.records.push_row.Goals as goal

pub returns : goal.returns
returns c =
    took_then _ _ _ _ _ c.push.ensures c.push-2.ensures
