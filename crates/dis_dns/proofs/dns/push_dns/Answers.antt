use Rattle.dis_dns.specs.Dns.{dns_layout}
use Rattle.dis_dns.proofs.CollectedLemmas.{took_then}
use Rattle.dis_dns.proofs.dns.push_dns.Goals as goal

pub returns-then-prefixed : goal.returns-then-prefixed
unfolding dns_layout
returns-then-prefixed c =
    rw (c.if-prefixed.true, ← c.behind_prefix.ensures, ← c.dns_fields.ensures) (took_then _ _ _ _ _ c.push.ensures c.push_message.ensures)
