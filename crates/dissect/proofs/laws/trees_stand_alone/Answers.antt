use Rattle.dissect.proofs.Isolating.{trees_stand_alone}
use Rattle.dissect.proofs.laws.trees_stand_alone.Goals as goal

pub returns : goal.returns
returns c = trees_stand_alone
