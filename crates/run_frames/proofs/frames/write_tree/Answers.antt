use Rattle.run_frames.proofs.CalmLemmas.{calm_write}
use Rattle.run_frames.proofs.frames.write_tree.Goals as goal

pub returns-in-Ok-clause-calm : goal.returns-in-Ok-clause-calm
returns-in-Ok-clause-calm g c = calm_write c.write_whole.result _ _ _ _ c.write_whole.ensures.no_fault c.write_whole.ensures.counts
