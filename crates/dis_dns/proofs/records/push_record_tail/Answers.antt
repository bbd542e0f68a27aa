use Rattle.dis_dns.specs.Records.{record_tail}
use Rattle.dis_dns.proofs.CollectedLemmas.{took_then, took_on}
use Rattle.dis_dns.proofs.records.push_record_tail.Goals as goal

pub returns-clause-adds : goal.returns-clause-adds
unfolding record_tail
returns-clause-adds c =
    rw (← c.word_at-kind.ensures.word, ← c.word_at-len.ensures.word) (took_on _ _ _ _ (took_then _ _ _ _ _ c.push_record_head.ensures c.push_data.ensures))
