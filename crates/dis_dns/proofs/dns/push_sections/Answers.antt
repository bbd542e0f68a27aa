use Rattle.pk_tree.specs.Entries.{repeated}
use Rattle.dis_dns.specs.Dns.{record_count, sections}
use Rattle.dis_dns.specs.Records.{resource}
use Rattle.dis_dns.proofs.CollectedLemmas.{entry_ends, steps_of, steps_then}
use Rattle.dis_dns.proofs.dns.push_sections.Goals as goal

pub returns-in-Some : goal.returns-in-Some
unfolding sections
returns-in-Some c =
    rw (← c.word_at-questions.ensures.word, ← c.record_count.ensures)
    (steps_then _ _ _ _ (repeated c.record_count.result (resource c.args.message.now.fields c.args.message.now.base c.args.message.now.bytes.now)) _ c.in-Some.ensures.adds c.push_records.ensures)

pub returns-in-None : goal.returns-in-None
unfolding sections
returns-in-None c =
    rw (← c.word_at-questions.ensures.word)
    (steps_of _ _ _ _ (entry_ends _ _ _ (repeated (record_count c.args.message.now.bytes.now) (resource c.args.message.now.fields c.args.message.now.base c.args.message.now.bytes.now)) c.in-None.ensures.adds))
