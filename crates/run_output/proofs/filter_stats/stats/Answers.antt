use Rattle.run_frames.specs.Job.{job_in}
use Rattle.run_output.proofs.StatsLemmas.{stats_told}
use Rattle.run_output.proofs.filter_stats.stats.Goals as goal

pub returns-in-Ok : goal.returns-in-Ok
returns-in-Ok c = λ passes past noted.
    stats_told (job_in c.args.plan.now passes) past c.in-Some.compiled c.args.notes.now c.in-Ok.text.items c.if-plan.true c.in-Some.is noted c.in-Ok.ensures
