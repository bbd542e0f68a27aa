use Rattle.flt_vm.proofs.FedLemmas.{fed_run, fitting_answer, run_or_lack, runs_fed}
use Rattle.flt_vm.proofs.laws.fitting_programs_have_runs.Goals as goal

pub returns-clause-either : goal.returns-clause-either
returns-clause-either c = run_or_lack

pub returns-clause-fed : goal.returns-clause-fed
returns-clause-fed c = fed_run

pub returns-clause-only : goal.returns-clause-only
returns-clause-only c = runs_fed

pub returns-clause-answers : goal.returns-clause-answers
returns-clause-answers c = fitting_answer
