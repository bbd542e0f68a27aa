use Rattle.dis_dns.specs.Records.{mail_data}
use Rattle.dis_dns.proofs.CollectedLemmas.{took_then}
use Rattle.dis_dns.proofs.records.push_mail.Goals as goal

pub returns : goal.returns
unfolding mail_data
returns c =
    took_then _ _ _ _ _ c.push_row.ensures c.push_name_within.ensures
