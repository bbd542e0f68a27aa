use Rattle.dis_dns.specs.Dns.{message_steps}
use Rattle.dis_dns.proofs.CollectedLemmas.{spent_took, took_then}
use Rattle.dis_dns.proofs.dns.push_message.Goals as goal

pub returns-in_default : goal.returns-in_default
returns-in_default c = spent_took _ _ _ c.give_up.ensures

pub returns : goal.returns
unfolding message_steps
returns c = took_then _ _ _ _ _ c.push_header.ensures c.push_sections.ensures
