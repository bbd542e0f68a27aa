use Rattle.stream_messages.proofs.BeginLemmas.{begins}
use Rattle.stream_messages.proofs.message.begin_law.Goals as goal

pub returns : goal.returns
returns c = begins
