use Rattle.message_links.proofs.NumberedLemmas.{numbered_none}
use Rattle.message_links.proofs.conversations.Conversations.new.Goals as goal

pub invariant_of-result : goal.invariant_of-result
invariant_of-result c = numbered_none c.new.result.items c.new-2.result c.new.ensures.items c.new-2.ensures
