use Rattle.flt_mean.proofs.KeptMeaning.{meaning_kept}
use Rattle.flt_mean.proofs.laws.kept_trees_keep_the_meaning.Goals as goal

pub returns : goal.returns
returns c = meaning_kept
