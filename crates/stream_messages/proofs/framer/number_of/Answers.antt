use Rattle.std.proofs.Common.{arith}
use Rattle.stream_messages.proofs.FramerLemmas.{number_next}
use Rattle.stream_messages.proofs.framer.number_of.Goals as goal

pub loop-byte-preserved : goal.loop-byte-preserved
loop-byte-preserved c =
    let next = number_next c.args.bytes.now c.loop-byte.byte-index 0 c.loop-byte-test.true in
    omega (arith, next, c.loop-byte.invariant, c.saturating_mul.ensures, c.from.ensures, c.saturating_add-number.ensures)
