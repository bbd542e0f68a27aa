use Rattle.dissect.proofs.KeepingLemmas.{no_message_links}
use Rattle.dissect.proofs.keeping.taken_for_values.Goals as goal

pub returns-else-asks_messages-clause-links : goal.returns-else-asks_messages-clause-links
returns-else-asks_messages-clause-links c = λ _. no_message_links c.args.wanted.now (c.asks_messages.ensures c.if-asks_messages.false)
