use Rattle.run_frames.proofs.CalmLemmas.{calm_fault}
use Rattle.run_frames.proofs.frames.write_taken.Goals as goal

pub returns-in-Err-clause-calm : goal.returns-in-Err-clause-calm
returns-in-Err-clause-calm g c = calm_fault c.in-Err.fault c.run_fault.result _ _ c.run_fault.ensures.fails c.in-Err.ensures.calm
