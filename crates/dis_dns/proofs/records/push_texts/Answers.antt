use Rattle.std.proofs.Common.{◌+◌}
use Rattle.pk_tree.specs.Entries.{repeated}
use Rattle.dis_dns.proofs.CollectedLemmas.{loop_took, loop_ends, loop_all, steps_of}
use Rattle.dis_dns.specs.Records.{text_string}
use Rattle.dis_dns.proofs.records.push_texts.Goals as goal

pub loop-string-preserved : goal.loop-string-preserved
loop-string-preserved c =
    loop_took (text_string c.args.message.now.base c.args.message.now.bytes.now c.args.message.now.fields.record_data.text (c.args.at + c.args.len)) c.args.len c.loop-string._string c.loop-string.place c.in-Some.next c.loop-string.steps c.push_text.new.steps _ c.loop-string.invariant c.loop-string-test.true c.in-Some.ensures

pub returns-in-None : goal.returns-in-None
returns-in-None c =
    steps_of _ _ _ _ (loop_ends (text_string c.args.message.now.base c.args.message.now.bytes.now c.args.message.now.fields.record_data.text (c.args.at + c.args.len)) c.args.len c.loop-string._string c.loop-string.place c.args.steps.now c.loop-string.steps c.push_text.new.steps
    (repeated c.args.len (text_string c.args.message.now.base c.args.message.now.bytes.now c.args.message.now.fields.record_data.text (c.args.at + c.args.len)) c.args.at) c.loop-string.invariant c.loop-string-test.true c.in-None.ensures)

pub returns : goal.returns
returns c =
    steps_of _ _ _ _ (loop_all (text_string c.args.message.now.base c.args.message.now.bytes.now c.args.message.now.fields.record_data.text (c.args.at + c.args.len)) c.args.len c.loop-string._string c.loop-string.place c.args.steps.now c.loop-string.steps
    (repeated c.args.len (text_string c.args.message.now.base c.args.message.now.bytes.now c.args.message.now.fields.record_data.text (c.args.at + c.args.len)) c.args.at) c.loop-string.invariant c.loop-string-test.false)
