use Rattle.dis_dns.proofs.CollectedLemmas.{took_then}
use Rattle.dis_dns.proofs.records.push_record_head.Goals as goal

pub returns : goal.returns
returns c =
    took_then _ _ _ _ _ c.push.ensures (took_then _ _ _ _ _ c.push_class.ensures c.push_rows.ensures)
