use Rattle.std.proofs.Common.{◌∙◌, ap}
use Rattle.dis_dns.specs.Records.{shown_name}
use Rattle.dis_dns.proofs.CollectedLemmas.{took_on}
use Rattle.dis_dns.proofs.records.push_found.Goals as goal

pub returns-in-Ok-clause-adds : goal.returns-in-Ok-clause-adds
returns-in-Ok-clause-adds c whole same =
    took_on _ _ _ _ (c.push_name.ensures (shown_name whole) (λ shown. c.in-Ok.ensures.text (c.shows.ensures ∙ shown) ∙ ap shown_name (same shown)))

pub returns-in-Err-clause-adds : goal.returns-in-Err-clause-adds
returns-in-Err-clause-adds c whole same = c.push_none.ensures.takes _ _
