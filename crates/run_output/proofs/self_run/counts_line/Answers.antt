use Rattle.std.proofs.Common.{append_assoc}
use Rattle.run_output.proofs.self_run.counts_line.Goals as goal

pub returns : goal.returns
returns c = simp append_assoc at c.in_ok-format.ensures.ok
