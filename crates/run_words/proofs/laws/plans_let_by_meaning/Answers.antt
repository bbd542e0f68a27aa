use Rattle.run_words.proofs.TruthLemmas.{lets_by_meaning}
use Rattle.run_words.proofs.laws.plans_let_by_meaning.Goals as goal

pub returns : goal.returns
returns c = lets_by_meaning
