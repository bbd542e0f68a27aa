use Rattle.tcp_streams.proofs.KeptLemmas.{step_kept}
use Rattle.tcp_streams.proofs.laws.kept_goes_on.Goals as goal

pub returns : goal.returns
returns c = step_kept
