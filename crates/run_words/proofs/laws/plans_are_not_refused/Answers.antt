use Rattle.run_words.proofs.ReasonLemmas.{never_refused}
use Rattle.run_words.proofs.laws.plans_are_not_refused.Goals as goal

pub returns : goal.returns
returns c = never_refused
