use Rattle.std.proofs.Common.{◌≡◌, ℕ, suc, ◌-◌, ◌<◌, ◌≤◌, List, ◌∷◌, map, length, drop, get_or, sym, ap, ◌∙◌, arith, drop-cons}
use Rattle.regex_hir.specs.declared.hir.Hir.{Hir}
use Rattle.flt_typed.specs.Positions.{positions}
use Rattle.flt_typed.proofs.positions.+positions.Goals as goal

one_more : (subs : List Hir) (i : ℕ) (h : Hir) → 0 < i → i ≤ length subs → h ≡ get_or subs (i - 1) h →
    map positions (drop (i - 1) subs) ≡ positions h ∷ map positions (drop i subs)
one_more subs i h p q e =
    let back : suc (i - 1) ≡ i = omega arith in
    ap (map positions) (drop-cons subs (i - 1) h (omega arith) ∙ ap (λ x. x ∷ drop (suc (i - 1)) subs) (sym e) ∙ ap (λ n. h ∷ drop n subs) back)

pub all_positions-loop-i-preserved : goal.all_positions-loop-i-preserved
all_positions-loop-i-preserved t c =
    let more = one_more c.args.subs.now c.loop-i.i _ c.loop-i-test.true c.loop-i.auto.i c.index-subs-i.is in
    rw (more, ← c.positions.ensures, ← c.loop-i.invariant) (omega (arith, c.saturating_add-total.ensures))
