use Rattle.std.proofs.Common.{◌≡◌, ◌+◌, arith}
use Rattle.dis_dns.specs.Records.{service_data}
use Rattle.dis_dns.proofs.CollectedLemmas.{took_then}
use Rattle.dis_dns.proofs.records.push_service.Goals as goal

pub returns : goal.returns
unfolding service_data
returns c =
    let first : c.args.at + 0 ≡ c.args.at = omega arith in
    rw first at (took_then _ _ _ _ _ c.push_data_rows.ensures c.push_name_within.ensures)
