use Rattle.run_frames.proofs.CalmLemmas.{calm_write}
use Rattle.run_output.proofs.self_run.write_counts.Goals as goal

pub returns-clause-calm : goal.returns-clause-calm
returns-clause-calm g c = calm_write c.write_whole-written.result _ _ _ _ c.write_whole-written.ensures.no_fault c.write_whole-written.ensures.counts
