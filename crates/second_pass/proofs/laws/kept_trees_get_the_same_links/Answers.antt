use Rattle.second_pass.proofs.KeptLinks.{links_same}
use Rattle.second_pass.proofs.laws.kept_trees_get_the_same_links.Goals as goal

pub returns : goal.returns
returns c = links_same
