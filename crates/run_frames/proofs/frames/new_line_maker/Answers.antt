use Rattle.std.proofs.Common.{◌∙◌, ap}
use Rattle.capture_write.specs.Kept.{nothing_kept}
use Rattle.capture_write.specs.declared.format.Format.{Format}
use Rattle.run_frames.specs.Accessors.{written_of}
use Rattle.run_frames.specs.Job.{job_in}
use Rattle.run_frames.proofs.NoteLemmas.{keeps_nothing}
use Rattle.run_frames.proofs.frames.new_line_maker.Goals as goal

pub returns-in-Ok-clause-keeps : goal.returns-in-Ok-clause-keeps
returns-in-Ok-clause-keeps c = λ passes.
    keeps_nothing (written_of c.args.plan.now) (job_in c.args.plan.now passes) c.new-notes.result c.new-capture.result (c.new-notes.ensures.notes passes)
    (c.new-capture.ensures.nothing ∙ ap (λ (format : Format). nothing_kept format) c.unwrap_or.ensures) c.new-capture.ensures.stands
