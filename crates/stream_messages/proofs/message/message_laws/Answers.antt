use Rattle.stream_messages.proofs.HttpMessageLemmas.{laws_of_messages}
use Rattle.stream_messages.proofs.message.message_laws.Goals as goal

pub returns : goal.returns
returns c = laws_of_messages
