use Rattle.std.proofs.Common.{arith}
use Rattle.range_bytes.proofs.Reading.{bytes_more}
use Rattle.range_bytes.proofs.pieces.Pieces.gathered.Goals as goal

pub loop-at-preserved : goal.loop-at-preserved
loop-at-preserved c = (
  omega (arith, c.loop-at.invariant.0, c.piece_at-piece.ensures.high, c.min-end.ensures, c.loop-at-test.true),
  omega (arith, c.min-end.ensures),
  bytes_more c.args.self.now c.args.from c.loop-at.at c.min-end.result c.piece_at-piece.result.now c.loop-at.bytes.items c.slice.result.now _ c.piece_at-piece.ensures
      c.loop-at.invariant.0 (omega (arith, c.piece_at-piece.ensures.high, c.min-end.ensures, c.loop-at-test.true)) (omega (arith, c.min-end.ensures))
      c.loop-at.invariant.2 c.slice.ensures c.in_ok-extend_from_slice.ensures.items,
)
