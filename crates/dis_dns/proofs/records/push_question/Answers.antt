use Rattle.dis_dns.specs.Records.{question, question_tail}
use Rattle.dis_dns.proofs.CollectedLemmas.{entry_then, entry_ends}
use Rattle.dis_dns.proofs.records.push_question.Goals as goal

pub returns-in-Some-clause-adds : goal.returns-in-Some-clause-adds
unfolding question
returns-in-Some-clause-adds c =
    entry_then _ _ _ _ (question_tail c.args.message.now.fields.question c.args.message.now.base) _ _ c.in-Some.ensures.adds c.push_question_tail.ensures.adds

pub returns-in-None-clause-adds : goal.returns-in-None-clause-adds
unfolding question
returns-in-None-clause-adds c =
    entry_ends _ _ _ (question_tail c.args.message.now.fields.question c.args.message.now.base) c.in-None.ensures.adds
