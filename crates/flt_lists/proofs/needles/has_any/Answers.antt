use Rattle.std.proofs.Common.{arith, ap, sym, ◌∙◌}
use Rattle.std.proofs.lemmas.List.{at_drop_all}
use Rattle.std.specs.Prelude.{nat_eq}
use Rattle.std.specs.List.{list_any, starts_with}
use Rattle.flt_lists.proofs.NeedleLemmas.{ended, found_here, one_further}
use Rattle.flt_lists.proofs.needles.has_any.Goals as goal

pub returns-then-begins_with_any : goal.returns-then-begins_with_any
returns-then-begins_with_any c = λ texts needles all.
    found_here c.args.text.now c.loop-at.at texts _
    (ap (λ rest. list_any (λ t. starts_with nat_eq rest t) texts) (sym c.behind.ensures) ∙ (sym (c.begins_with_any.ensures texts needles all) ∙ c.if-begins_with_any.true))
    (c.loop-at.invariant texts needles all)

pub loop-at-preserved : goal.loop-at-preserved
loop-at-preserved c = λ texts needles all.
    one_further c.args.text.now c.loop-at.at 0 texts _ c.loop-at-test.true
    (ap (λ rest. list_any (λ t. starts_with nat_eq rest t) texts) (sym c.behind.ensures) ∙ (sym (c.begins_with_any.ensures texts needles all) ∙ c.if-begins_with_any.false))
    (c.loop-at.invariant texts needles all)

pub returns : goal.returns
returns c = λ texts needles all.
    c.begins_with_any-2.ensures texts needles all
    ∙ ended c.args.text.now c.loop-at.at texts _ (at_drop_all (λ xs. xs) c.args.text.now c.loop-at.at (omega (arith, c.loop-at-test.false))) (c.loop-at.invariant texts needles all)
