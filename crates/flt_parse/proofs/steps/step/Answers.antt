use Rattle.flt_parse.proofs.Moves.{within}
use Rattle.flt_parse.proofs.steps.step.Goals as goal

pub returns-in-Within : goal.returns-in-Within
returns-in-Within c = rw (c.in-InOperand.is, c.in-Within.is) (within _ _ c.in-Within.part _ _ _ _ _ _ _ (c.on_if.ensures _ c.part_step.ensures))
