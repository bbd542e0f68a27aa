use Rattle.flt_vm.proofs.RunLemmas.{some_at}
use Rattle.flt_vm.proofs.VerdictLemmas.{machine_computed}
use Rattle.flt_vm.proofs.machine.Machine.run_source.Goals as goal

pub returns-clause-exact : goal.returns-clause-exact
returns-clause-exact c = λ filter by fits.
    machine_computed c.args.self.now filter c.args.source.now c.in-Some.verdict c.lender-lender.ensures.fits by fits
    (some_at _ c.in-Some.verdict _ c.in-Some.is c.in_ok-verdict.ensures.verdict) (some_at _ c.in-Some.verdict _ c.in-Some.is c.in_ok-verdict.ensures.few)
