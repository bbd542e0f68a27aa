use Rattle.tcp_messages.proofs.Placing.{stands_where}
use Rattle.tcp_messages.proofs.laws.places_law.Goals as goal

pub returns : goal.returns
returns c = stands_where
