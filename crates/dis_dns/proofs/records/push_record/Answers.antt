use Rattle.dis_dns.specs.Records.{resource, record_tail}
use Rattle.dis_dns.proofs.CollectedLemmas.{entry_then, entry_ends}
use Rattle.dis_dns.proofs.records.push_record.Goals as goal

pub returns-in-Some-clause-adds : goal.returns-in-Some-clause-adds
unfolding resource
returns-in-Some-clause-adds c =
    entry_then _ _ _ _ (record_tail c.args.message.now.fields c.args.message.now.base c.args.message.now.bytes.now) _ _ c.in-Some.ensures.adds c.push_record_tail.ensures.adds

pub returns-in-None-clause-adds : goal.returns-in-None-clause-adds
unfolding resource
returns-in-None-clause-adds c =
    entry_ends _ _ _ (record_tail c.args.message.now.fields c.args.message.now.base c.args.message.now.bytes.now) c.in-None.ensures.adds
