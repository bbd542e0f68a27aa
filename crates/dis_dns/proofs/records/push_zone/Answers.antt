use Rattle.pk_tree.specs.Entries.{then_on}
use Rattle.dis_dns.specs.Records.{name_entry, zone_data, zone_numbers}
use Rattle.dis_dns.proofs.CollectedLemmas.{entry_ends, entry_then, steps_of, steps_then}
use Rattle.dis_dns.proofs.records.push_zone.Goals as goal

pub returns-in_default-push_name : goal.returns-in_default-push_name
unfolding zone_data
returns-in_default-push_name c =
    rw (← c.min-limit.ensures)
    (steps_of _ _ _ _ (entry_then _ _ _ _ (λ at. then_on (name_entry c.args.message.now.base c.args.message.now.bytes.now c.args.message.now.fields.record_data.zone.mailbox c.min-limit.result at) (zone_numbers c.args.message.now.fields.record_data.zone c.args.message.now.base c.args.end)) _ _ c.in-Some.ensures.adds
    (entry_ends _ _ _ (zone_numbers c.args.message.now.fields.record_data.zone c.args.message.now.base c.args.end) (rw c.in_default-push_name.is at c.push_name-2.ensures.adds))))

pub returns : goal.returns
unfolding zone_data
returns c =
    rw (← c.min-limit.ensures)
    (steps_then _ _ _ _ (λ at. then_on (name_entry c.args.message.now.base c.args.message.now.bytes.now c.args.message.now.fields.record_data.zone.mailbox c.min-limit.result at) (zone_numbers c.args.message.now.fields.record_data.zone c.args.message.now.base c.args.end)) _ c.in-Some.ensures.adds
    (steps_then _ _ _ _ (zone_numbers c.args.message.now.fields.record_data.zone c.args.message.now.base c.args.end) _ c.in-Some-push_name.ensures.adds c.push_zone_numbers.ensures))
