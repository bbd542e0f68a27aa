use Rattle.std.proofs.Common.{◌∙◌, arith}
use Rattle.std.proofs.lemmas.Result.{IfOk-weaker}
use Rattle.range_bytes.proofs.Reading.{cover_bytes}
use Rattle.range_bytes.proofs.pieces.Pieces.copy.Goals as goal

pub returns-then-to-piece : goal.returns-then-to-piece
returns-then-to-piece c =
    IfOk-weaker c.octets.result _ _ (λ octets is. is ∙ cover_bytes c.args.self.now c.args.from c.args.to c.piece_at-piece.result.now c.piece_at-piece.ensures (omega (arith, c.if-from-to.true)) c.if-to-piece.true) c.octets.ensures
