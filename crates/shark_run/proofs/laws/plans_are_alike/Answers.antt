use Rattle.shark_run.proofs.LawLemmas.{plans_alike}
use Rattle.shark_run.proofs.laws.plans_are_alike.Goals as goal

pub returns : goal.returns
returns c = plans_alike
