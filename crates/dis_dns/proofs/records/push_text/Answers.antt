use Rattle.std.proofs.Common.{◌≡◌, true, arith}
use Rattle.std.specs.Prelude.{nat_le}
use Rattle.std.proofs.lemmas.Bool.Decides.{nat_tests}
use Rattle.dis_dns.specs.Records.{text_string}
use Rattle.dis_dns.proofs.CollectedLemmas.{took_last, took_none}
use Rattle.dis_dns.proofs.records.push_text.Goals as goal

pub returns-then-end-at : goal.returns-then-end-at
unfolding text_string
returns-then-end-at c =
    let past : nat_le c.args.end c.args.at ≡ true = grind (arith, nat_tests, c.if-end-at.true) in
    rw past (took_last _ _ _ (took_none _))
