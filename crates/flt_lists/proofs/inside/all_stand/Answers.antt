use Rattle.std.proofs.Common.{arith, refl, sym, ◌∙◌}
use Rattle.std.proofs.lemmas.Bool.{and_parts, ltb-true}
use Rattle.std.proofs.lemmas.Bool.Decides.{Decides-eqb}
use Rattle.std.proofs.lemmas.Slice.Eq.{slice_eq-Decides}
use Rattle.flt_lists.proofs.InsideLemmas.{all_stood, more_stand, not_all_stand, stood_before}
use Rattle.flt_lists.proofs.inside.all_stand.Goals as goal
use Rattle.flt_lists.proofs.inside.all_stand.Goals.{then-at-gt0, else-at-gt0, else-not-comes_again-via-then-not-comes_again+else-not-stands_in_all, else-not-comes_again-via-else-not-comes_again}

pub returns-then-not-stands_in_all : goal.returns-then-not-stands_in_all
returns-then-not-stands_in_all c = λ texts needles.
    not_all_stand c.args.values.now texts c.args.needles.now c.loop-at.at _ needles c.loop-at-test.true (sym c.stands_in_all.ensures ∙ c.if-not-stands_in_all.true)

pub loop-at-preserved : goal.loop-at-preserved
loop-at-preserved c = elim c.else-not-comes_again.branch [
  | else-not-comes_again-via-then-not-comes_again+else-not-stands_in_all w ↦
      more_stand c.args.values.now c.args.needles.now c.loop-at.at _ c.loop-at-test.true c.loop-at.invariant (sym w.stands_in_all.ensures ∙ w.if-not-stands_in_all.false)
  | else-not-comes_again-via-else-not-comes_again w ↦ elim c.if-at-gt0.branch [
    | then-at-gt0 v ↦
        more_stand c.args.values.now c.args.needles.now c.loop-at.at _ c.loop-at-test.true c.loop-at.invariant (
        stood_before c.args.values.now c.args.needles.now c.loop-at.at _ _ v.if-at-gt0.true c.loop-at-test.true c.loop-at.invariant
        ((slice_eq-Decides Decides-eqb _ _ _ refl).0 (and_parts _ _ (and_parts _ _ (sym v.eq-comes_again.ensures ∙ (sym v.comes_again-is ∙ w.if-not-comes_again.false))).1).0)
        )
    | else-at-gt0 v ↦ absurd (omega (arith, v.if-at-gt0.false, ltb-true 0 c.loop-at.at (sym v.comes_again-is ∙ w.if-not-comes_again.false)))
  ]
]

pub returns : goal.returns
returns c = λ texts needles. all_stood c.args.values.now texts c.args.needles.now c.loop-at.at needles (omega (arith, c.loop-at-test.false)) c.loop-at.invariant
