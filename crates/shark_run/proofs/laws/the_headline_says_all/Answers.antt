use Rattle.shark_run.proofs.HeadlineLemmas.{headline_says_all}
use Rattle.shark_run.proofs.laws.the_headline_says_all.Goals as goal

pub returns : goal.returns
returns c = headline_says_all
