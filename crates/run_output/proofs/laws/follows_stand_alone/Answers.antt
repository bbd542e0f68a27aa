use Rattle.run_output.proofs.FollowLemmas.{follows_alone}
use Rattle.run_output.proofs.laws.follows_stand_alone.Goals as goal

pub returns : goal.returns
returns c = follows_alone
