use Rattle.dis_dns.proofs.CollectedLemmas.{spent_entry}
use Rattle.dis_dns.proofs.records.push_none.Goals as goal

pub returns-clause-takes : goal.returns-clause-takes
returns-clause-takes c entry answer = spent_entry _ _ _ _ c.give_up.ensures
