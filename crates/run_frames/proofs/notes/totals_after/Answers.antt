use Rattle.std.proofs.Common.{suc}
use Rattle.run_frames.proofs.TotalsLemmas.{few_steps}
use Rattle.run_frames.proofs.notes.totals_after.Goals as goal

pub returns-then-is_generated-clause-few : goal.returns-then-is_generated-clause-few
returns-then-is_generated-clause-few c = λ most few.
    few_steps (suc most) c.steps_after-steps.result c.with.result (c.with.ensures.few most few) (c.steps_after-steps.ensures.few most few.steps)
