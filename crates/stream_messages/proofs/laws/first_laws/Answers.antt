use Rattle.stream_messages.proofs.FirstLemmas.{laws_of_firsts}
use Rattle.stream_messages.proofs.laws.first_laws.Goals as goal

pub returns : goal.returns
returns c = laws_of_firsts
