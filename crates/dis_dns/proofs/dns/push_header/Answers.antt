use Rattle.std.proofs.Common.{◌≡◌, ◌+◌, arith}
use Rattle.dis_dns.specs.Dns.{header_rows}
use Rattle.dis_dns.proofs.dns.push_header.Goals as goal

pub returns : goal.returns
unfolding header_rows
returns c =
    let first : c.args.message.now.base + 0 ≡ c.args.message.now.base = omega arith in
    rw first at c.push_rows.ensures
