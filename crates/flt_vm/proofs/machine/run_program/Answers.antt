use Rattle.std.proofs.Common.{◌≤◌, length, subst}
use Rattle.std.proofs.lemmas.Result.{IfOk-weaker}
use Rattle.flt_vm.proofs.RunLemmas.{answered, can_run}
use Rattle.flt_vm.proofs.VerdictLemmas.{ok_both, run_computed}
use Rattle.flt_vm.specs.Programs.{Ready}
use Rattle.flt_vm.proofs.machine.run_program.Goals as goal

pub run-requires : goal.run-requires
run-requires c = can_run c.args.program.now c.args.filter.now c.args.tree.now c.in_ok-machine.machine c.in_ok-machine.ensures c.requires c.layers-layers.ensures.fits

pub returns-clause-run : goal.returns-clause-run
returns-clause-run c =
    IfOk-weaker c.run.result _ _
    (λ v is. answered c.args.program.now c.args.filter.now c.args.tree.now c.in_ok-machine.machine v.steps v.holds c.in_ok-machine.ensures c.requires c.layers-layers.ensures.fits is)
    c.run.ensures.verdict

pub returns-clause-exact : goal.returns-clause-exact
returns-clause-exact c =
    ok_both c.run.result _ _ _
    (λ v run few. run_computed c.args.program.now c.args.filter.now c.args.tree.now v run (subst (λ (m : Ready). v.steps ≤ length m.code.items) c.in_ok-machine.ensures few))
    (returns-clause-run c) c.run.ensures.few
