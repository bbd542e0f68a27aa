use Rattle.stream_messages.proofs.SideLemmas.{laws_of_sides}
use Rattle.stream_messages.proofs.laws.side_laws.Goals as goal

pub returns : goal.returns
returns c = laws_of_sides
