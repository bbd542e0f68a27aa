use Rattle.stream_messages.proofs.StretchLemmas.{laws_of_new}
use Rattle.stream_messages.proofs.laws.new_laws.Goals as goal

pub returns : goal.returns
returns c = laws_of_new
