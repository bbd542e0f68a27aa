use Rattle.std.proofs.Common.{◌≡◌, List, [], ℕ, sym, ap, ◌∙◌, subst, arith, max}
use Rattle.std.specs.Map.{values_of}
use Rattle.range_bytes.specs.declared.piece.Piece.{Piece}
use Rattle.range_bytes.specs.Held.{Held, put_run}
use Rattle.range_bytes.specs.Pieces.{held_of, AreGaps, with_pieces}
use Rattle.range_bytes.proofs.Gaps.{gaps_put, kept_put}
use Rattle.range_bytes.proofs.TakenOut.{late_kept}
use Rattle.range_bytes.proofs.waiting.Waiting.put.Goals as goal

pub invariant_of-self-2 : goal.invariant_of-self-2
invariant_of-self-2 c =
    let es = c.self.inside.pieces.entries in
    let new = c.args.new.now in
    let gaps = subst (λ (held : Held). AreGaps held new c.in_ok-gaps.gaps.items) (sym c.self.view_is) c.in_ok-gaps.ensures in
    let after = kept_put [] es c.self.inside.end new c.in_ok-gaps.gaps.items (late_kept es c.self.inside.end c.self.invariant.0 c.self.invariant.1) gaps in
    let top : max c.self.inside.end new.end ≡ c.max-self-inside.result = omega (arith, c.max-self-inside.ensures) in
    rw (c.in_ok-put_all.ensures.ok, c.deref.ensures.value, sym top) (after.late_keyed, after.late_apart)

pub returns-clause-ok : goal.returns-clause-ok
returns-clause-ok c =
    let es = c.self.inside.pieces.entries in
    let new = c.args.new.now in
    let gaps = subst (λ (held : Held). AreGaps held new c.in_ok-gaps.gaps.items) (sym c.self.view_is) c.in_ok-gaps.ensures in
    ap (λ (fs : List (ℕ × Piece)). held_of (values_of fs)) (c.in_ok-put_all.ensures.ok ∙ ap (λ (pieces : List Piece). with_pieces es pieces) c.deref.ensures.value)
    ∙ gaps_put [] es c.self.inside.end new c.in_ok-gaps.gaps.items (late_kept es c.self.inside.end c.self.invariant.0 c.self.invariant.1) gaps
    ∙ ap (λ (held : Held). put_run held new.start new.bytes new.frame) c.self.view_is
