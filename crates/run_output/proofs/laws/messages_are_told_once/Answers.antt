use Rattle.run_output.proofs.JsonLemmas.{told_once}
use Rattle.run_output.proofs.laws.messages_are_told_once.Goals as goal

pub returns : goal.returns
returns c = told_once c.messages_once.ensures c.messages_stand_in_trees.ensures
