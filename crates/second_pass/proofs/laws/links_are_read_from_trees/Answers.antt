use Rattle.second_pass.proofs.ReadLemmas.{directions_read, layers_noted, values_read}
use Rattle.second_pass.proofs.laws.links_are_read_from_trees.Goals as goal

pub returns-clause-layers : goal.returns-clause-layers
returns-clause-layers c = layers_noted

pub returns-clause-values : goal.returns-clause-values
returns-clause-values c = values_read

pub returns-clause-directions : goal.returns-clause-directions
returns-clause-directions c = directions_read
