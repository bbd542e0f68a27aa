use Rattle.std.proofs.Common.{arith}
use Rattle.dis_dns.proofs.ChainLemmas.{ends_here, ends_on}
use Rattle.dis_dns.proofs.chains.chain_end.Goals.{then-bytes-place-lt2-via-then-bytes-place-lt2, then-bytes-place-lt2-via-else-bytes-place-lt2+then-from-lt-POINTER}
use Rattle.dis_dns.proofs.chains.chain_end.Goals as goal

pub returns-then-bytes-place-lt2 : goal.returns-then-bytes-place-lt2
returns-then-bytes-place-lt2 c = elim c.then-bytes-place-lt2.branch [
  | then-bytes-place-lt2-via-then-bytes-place-lt2 w ↦
      ends_here c.args.bytes.now c.args.place (λ bare. absurd (omega (arith, bare.room, w.if-bytes-place-lt2.true)))
  | then-bytes-place-lt2-via-else-bytes-place-lt2+then-from-lt-POINTER w ↦
      ends_here c.args.bytes.now c.args.place (λ bare. absurd (omega (arith, bare.high, w.from.ensures, w.if-from-lt-POINTER.true)))
]

pub returns-then-target-place : goal.returns-then-target-place
returns-then-target-place c =
    ends_on c.args.bytes.now c.args.place c.target_at-target.result _ c.target_at-target.ensures.target
    (omega (arith, c.if-bytes-place-lt2.false)) (omega (arith, c.from.ensures, c.if-from-lt-POINTER.false)) c.if-target-place.true
    (c.requires.each c.target_at-target.result c.if-target-place.true)

pub returns-else-target-place : goal.returns-else-target-place
returns-else-target-place c =
    ends_here c.args.bytes.now c.args.place (λ bare. absurd (omega (arith, bare.before, c.target_at-target.ensures.target, c.if-target-place.false)))
