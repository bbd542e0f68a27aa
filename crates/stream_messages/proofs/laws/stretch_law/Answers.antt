use Rattle.stream_messages.proofs.StretchLemmas.{stretches_longer}
use Rattle.stream_messages.proofs.laws.stretch_law.Goals as goal

pub returns : goal.returns
returns c = stretches_longer
