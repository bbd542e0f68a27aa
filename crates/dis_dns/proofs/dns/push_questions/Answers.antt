use Rattle.pk_tree.specs.Entries.{repeated}
use Rattle.dis_dns.proofs.CollectedLemmas.{loop_took, loop_ends, loop_all}
use Rattle.dis_dns.specs.Records.{question}
use Rattle.dis_dns.proofs.dns.push_questions.Goals as goal

pub loop-question-preserved : goal.loop-question-preserved
loop-question-preserved c = record {
  goes = loop_took (question c.args.message.now.fields.question c.args.message.now.base c.args.message.now.bytes.now) c.args.count c.loop-question._question c.loop-question.place c.in-Some.next c.loop-question.steps c.push_question.new.steps _ c.loop-question.invariant.goes c.loop-question-test.true c.in-Some.ensures.adds;
  bound = c.in-Some.ensures.bound;
}

pub returns-in-None-clause-adds : goal.returns-in-None-clause-adds
returns-in-None-clause-adds c =
    loop_ends (question c.args.message.now.fields.question c.args.message.now.base c.args.message.now.bytes.now) c.args.count c.loop-question._question c.loop-question.place c.args.steps.now c.loop-question.steps c.push_question.new.steps
    (repeated c.args.count (question c.args.message.now.fields.question c.args.message.now.base c.args.message.now.bytes.now) c.args.at) c.loop-question.invariant.goes c.loop-question-test.true c.in-None.ensures.adds

pub returns-clause-adds : goal.returns-clause-adds
returns-clause-adds c =
    loop_all (question c.args.message.now.fields.question c.args.message.now.base c.args.message.now.bytes.now) c.args.count c.loop-question._question c.loop-question.place c.args.steps.now c.loop-question.steps
    (repeated c.args.count (question c.args.message.now.fields.question c.args.message.now.base c.args.message.now.bytes.now) c.args.at) c.loop-question.invariant.goes c.loop-question-test.false
