use Rattle.tcp_streams.proofs.PassedGaps.{all_passed}
use Rattle.tcp_streams.proofs.laws.gaps_passed.Goals as goal

pub returns : goal.returns
returns c = all_passed
