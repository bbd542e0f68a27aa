use Rattle.dis_dns.proofs.CollectedLemmas.{steps_of}
use Rattle.dis_dns.proofs.records.push_name_within.Goals as goal

pub returns : goal.returns
returns c =
    rw (← c.min-limit.ensures) (steps_of _ _ _ _ c.push_name.ensures.adds)
