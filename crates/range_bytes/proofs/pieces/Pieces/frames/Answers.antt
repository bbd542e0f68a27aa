use Rattle.std.proofs.Common.{arith}
use Rattle.range_bytes.proofs.Reading.{frames_more}
use Rattle.range_bytes.proofs.pieces.Pieces.frames.Goals as goal

pub loop-next-preserved : goal.loop-next-preserved
loop-next-preserved c = (
  omega (arith, c.loop-next.invariant.0, c.piece_at-piece.ensures.high),
  rw c.in_ok-push.ensures.items (frames_more c.args.self.now c.loop-next.next c.args.to c.piece_at-piece.result.now c.loop-next.frames.items _ c.piece_at-piece.ensures c.loop-next-test.true c.loop-next.invariant.1),
)
