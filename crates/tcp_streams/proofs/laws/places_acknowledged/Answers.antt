use Rattle.tcp_streams.proofs.AckLemmas.{all_raised}
use Rattle.tcp_streams.proofs.laws.places_acknowledged.Goals as goal

pub returns : goal.returns
returns c = all_raised
