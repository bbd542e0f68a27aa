use Rattle.flt_vm.proofs.VerdictLemmas.{verdicts_alike}
use Rattle.flt_vm.proofs.laws.trees_with_the_same_values_are_alike.Goals as goal

pub returns : goal.returns
returns c = verdicts_alike
