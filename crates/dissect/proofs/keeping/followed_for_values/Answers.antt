use Rattle.dissect.proofs.KeepingLemmas.{no_links}
use Rattle.dissect.proofs.keeping.followed_for_values.Goals as goal

pub returns-else-asks_streams-clause-links : goal.returns-else-asks_streams-clause-links
returns-else-asks_streams-clause-links c = λ _. no_links c.args.wanted.now (c.asks_streams.ensures c.if-asks_streams.false)
