use Rattle.std.proofs.Common.{length, ap, ◌∙◌, arith}
use Rattle.ip_join.proofs.ShortLemmas.{length-bytes_at}
use Rattle.ip_join.proofs.WaitingLemmas.{whole_brought}
use Rattle.ip_join.proofs.parts.Parts.datagram.Goals as goal

pub returns-in_ok-frames_of-in-Some-clause-short : goal.returns-in_ok-frames_of-in-Some-clause-short
returns-in_ok-frames_of-in-Some-clause-short c =
    omega (arith, ap length c.in_ok-copy-in-Some.ensures ∙ length-bytes_at _ _ _, c.in-Some.ensures.short)

pub returns-in_ok-frames_of-in-Some-clause-brought : goal.returns-in_ok-frames_of-in-Some-clause-brought
returns-in_ok-frames_of-in-Some-clause-brought c =
    omega (arith, ap length c.in_ok-copy-in-Some.ensures ∙ length-bytes_at _ _ _, whole_brought c.args.self.now c.in-Some.end c.in-Some.ensures.held)
