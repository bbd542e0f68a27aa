use Rattle.stream_messages.proofs.MessageLemmas.{prefixes}
use Rattle.stream_messages.proofs.laws.prefix_law.Goals as goal

pub returns : goal.returns
returns c = prefixes
