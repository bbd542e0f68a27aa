use Rattle.dissect.proofs.FramesJoined.{joined}
use Rattle.dissect.proofs.laws.messages_stand_in_trees.Goals as goal

pub returns : goal.returns
returns c = joined
