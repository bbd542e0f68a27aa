use Rattle.std.proofs.Common.{Some, subst}
use Rattle.shark_words.specs.Words.{texts}
use Rattle.shark_run.specs.Headline.{Headline, IsAnswer}
use Rattle.shark_run.proofs.sure.sure_run.Goals as goal

pub returns-clause-answer : goal.returns-clause-answer
unfolding Headline
returns-clause-answer c =
    subst (λ state. IsAnswer (texts c.args.words.now) (λ _. Some state.bytes) c.run.result (Some c.args.out.now.taken) (Some c.run.new.out.taken))
    c.new-capture.ensures c.run.ensures.headline.0
