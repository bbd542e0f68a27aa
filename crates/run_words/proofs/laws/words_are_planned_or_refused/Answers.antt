use Rattle.run_words.proofs.EitherLemmas.{plan_or_reason}
use Rattle.run_words.proofs.laws.words_are_planned_or_refused.Goals as goal

pub returns : goal.returns
returns c = plan_or_reason
