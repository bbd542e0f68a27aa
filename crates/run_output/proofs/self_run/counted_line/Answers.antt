use Rattle.std.proofs.Common.{sym, ◌∙◌}
use Rattle.std.specs.Prelude.{string_bytes}
use Rattle.run_frames.specs.Job.{job_in}
use Rattle.run_output.proofs.ClosingLemmas.{line_of_counts}
use Rattle.run_output.proofs.self_run.counted_line.Goals as goal

pub returns-in-Ok : goal.returns-in-Ok
returns-in-Ok c = λ passes past stands counted.
    line_of_counts (job_in c.args.plan.now passes) (string_bytes c.in-Ok.line) c.args.notes.now.totals past (sym c.is_generated.ensures ∙ c.if-is_generated.true) counted.totals
    (c.in-Ok.ensures (job_in c.args.plan.now passes) past stands)
