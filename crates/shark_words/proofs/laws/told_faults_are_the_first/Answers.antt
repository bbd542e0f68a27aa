use Rattle.shark_words.proofs.FirstLemmas.{faults_first}
use Rattle.shark_words.proofs.laws.told_faults_are_the_first.Goals as goal

pub returns : goal.returns
returns c = faults_first
