use Rattle.flt_vm.proofs.VerdictLemmas.{computed_run, runs_computed}
use Rattle.flt_vm.proofs.laws.verdicts_are_those_of_runs.Goals as goal

pub returns-clause-computed : goal.returns-clause-computed
returns-clause-computed c = runs_computed

pub returns-clause-runs : goal.returns-clause-runs
returns-clause-runs c = computed_run
