use Rattle.pk_tree.specs.Entries.{repeated}
use Rattle.dis_dns.proofs.CollectedLemmas.{loop_took, loop_ends, loop_all, steps_of}
use Rattle.dis_dns.specs.Records.{resource}
use Rattle.dis_dns.proofs.dns.push_records.Goals as goal

pub loop-record-preserved : goal.loop-record-preserved
loop-record-preserved c = record {
  goes = loop_took (resource c.args.message.now.fields c.args.message.now.base c.args.message.now.bytes.now) c.args.count c.loop-record._record c.loop-record.place c.in-Some.next c.loop-record.steps c.push_record.new.steps _ c.loop-record.invariant.goes c.loop-record-test.true c.in-Some.ensures.adds;
  bound = c.in-Some.ensures.bound;
}

pub returns-in-None : goal.returns-in-None
returns-in-None c =
    steps_of _ _ _ _ (loop_ends (resource c.args.message.now.fields c.args.message.now.base c.args.message.now.bytes.now) c.args.count c.loop-record._record c.loop-record.place c.args.steps.now c.loop-record.steps c.push_record.new.steps
    (repeated c.args.count (resource c.args.message.now.fields c.args.message.now.base c.args.message.now.bytes.now) c.args.at) c.loop-record.invariant.goes c.loop-record-test.true c.in-None.ensures.adds)

pub returns : goal.returns
returns c =
    steps_of _ _ _ _ (loop_all (resource c.args.message.now.fields c.args.message.now.base c.args.message.now.bytes.now) c.args.count c.loop-record._record c.loop-record.place c.args.steps.now c.loop-record.steps
    (repeated c.args.count (resource c.args.message.now.fields c.args.message.now.base c.args.message.now.bytes.now) c.args.at) c.loop-record.invariant.goes c.loop-record-test.false)
