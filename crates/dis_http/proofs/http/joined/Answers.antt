use Rattle.std.proofs.Common.{arith, refl, ap, ◌∙◌, take}
use Rattle.dis_http.proofs.HttpLemmas.{joined_next}
use Rattle.dis_http.proofs.http.joined.Goals as goal

pub loop-piece-preserved : goal.loop-piece-preserved
loop-piece-preserved c =
    joined_next c.args.bytes.now c.args.pieces.now c.loop-piece.piece-index _ _ c.loop-piece.content.items c.extend_from_slice.new.self.items c.front.result.now (omega arith) refl
    c.loop-piece.invariant (c.front.ensures ∙ ap (take _) c.tail.ensures) c.in_ok-extend_from_slice.ensures.items
