use Rattle.run_words.proofs.ReasonLemmas.{one_reason}
use Rattle.run_words.proofs.laws.reasons_are_unique.Goals as goal

pub returns : goal.returns
returns c = one_reason
