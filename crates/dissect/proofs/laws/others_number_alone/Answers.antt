use Rattle.dissect.proofs.ButNumbers.{brings_the_same, trees_but_numbers}
use Rattle.dissect.proofs.TakenOut.{others_taken_out}
use Rattle.dissect.proofs.laws.others_number_alone.Goals as goal

pub returns-clause-trees : goal.returns-clause-trees
returns-clause-trees c = trees_but_numbers

pub returns-clause-brings : goal.returns-clause-brings
returns-clause-brings c = brings_the_same

pub returns-clause-taken_out : goal.returns-clause-taken_out
returns-clause-taken_out c = others_taken_out
