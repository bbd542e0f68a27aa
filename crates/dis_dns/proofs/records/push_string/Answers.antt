use Rattle.dis_dns.proofs.CollectedLemmas.{took_then, took_on}
use Rattle.dis_dns.proofs.records.push_string.Goals as goal

pub returns : goal.returns
returns c =
    took_on _ _ _ _ (took_then _ _ _ _ _ c.push.ensures c.push-2.ensures)
