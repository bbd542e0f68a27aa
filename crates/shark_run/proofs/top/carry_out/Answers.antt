use Rattle.std.proofs.Common.{refl}
use Rattle.shark_run.proofs.CalmLemmas.{next_generated, unfit_any}
use Rattle.shark_run.proofs.top.carry_out.Goals as goal

pub returns-in-Generated-clause-calm : goal.returns-in-Generated-clause-calm
returns-in-Generated-clause-calm g c = record { missed = λ other. refl; reads = λ other. refl; writes = c.carry_out_generated.ensures.calm }

pub returns-in-Generated-clause-unfit : goal.returns-in-Generated-clause-unfit
returns-in-Generated-clause-unfit g c =
    unfit_any c.carry_out_generated.result _ (next_generated c.args.plan.now (g.C.Capture.file c.args.capture.now) (g.C.Capture.left c.args.capture.now) _ c.in-Generated.is)
