use Rattle.flt_code.proofs.OwnerLemmas.{owners_grow}
use Rattle.flt_code.proofs.owners.own.Goals as goal

pub returns-clause-grows : goal.returns-clause-grows
returns-clause-grows c = owners_grow c.args.owners.now.items c.push.new.self.items _ c.in_ok-push.ensures.items
