use Rattle.std.proofs.Common.{◌++◌, ◌∷◌, [], List, sym, ap, ◌∙◌, subst}
use Rattle.range_bytes.specs.declared.piece.Piece.{Piece}
use Rattle.range_bytes.proofs.Gaps.{AreGapsUpTo, gaps_none, gaps_past, gaps_more, gaps_all}
use Rattle.range_bytes.proofs.waiting.Waiting.gaps.Goals as goal

pub loop-at-init : goal.loop-at-init
loop-at-init c =
    subst (λ (gaps : List Piece). AreGapsUpTo c.args.self.now c.args.new.now c.args.new.now.start gaps) (sym c.new-gaps.ensures.items) (gaps_none c.args.self.now c.args.new.now c.requires.some)

pub loop-at-preserved-in-Some : goal.loop-at-preserved-in-Some
loop-at-preserved-in-Some c = gaps_past c.args.self.now c.args.new.now c.in-Some.piece.now c.loop-at.at c.loop-at.gaps.items c.loop-at.invariant c.in-Some.ensures.some

pub loop-at-preserved : goal.loop-at-preserved
loop-at-preserved c =
    subst (λ (gaps : List Piece). AreGapsUpTo c.args.self.now c.args.new.now c.gap_end-to.result gaps)
    (sym (c.in_ok-push-in-None.ensures.items ∙ ap (λ (piece : Piece). c.loop-at.gaps.items ++ piece ∷ []) c.in_ok-part-in-None.ensures))
    (gaps_more c.args.self.now c.args.new.now c.loop-at.at c.gap_end-to.result c.loop-at.gaps.items c.requires.sized c.loop-at.invariant c.gap_end-to.ensures.low c.gap_end-to.ensures.high c.gap_end-to.ensures.gap)

pub returns : goal.returns
returns c = gaps_all c.args.self.now c.args.new.now c.loop-at.at c.loop-at.gaps.items c.requires.sized c.loop-at.invariant c.loop-at-test.false
