use Rattle.std.proofs.Common.{sym, ◌∙◌}
use Rattle.std.specs.List.{list_any}
use Rattle.flt_lists.specs.Needles.{has_text}
use Rattle.flt_lists.proofs.InsideLemmas.{found_among}
use Rattle.flt_lists.proofs.ListLemmas.{more_failed}
use Rattle.flt_lists.proofs.inside.any_has_needle.Goals as goal

pub returns-then-has_needle : goal.returns-then-has_needle
returns-then-has_needle c = λ texts needles all.
    found_among (λ v. list_any (λ t. has_text v t) texts) c.args.values.now c.loop-value.value-index c.value-item.result c.loop-value-test.true c.value-item.is
    (sym (c.has_needle.ensures texts needles all) ∙ c.if-has_needle.true)

pub loop-value-preserved : goal.loop-value-preserved
loop-value-preserved c = λ texts needles all.
    more_failed (λ v. list_any (λ t. has_text v t) texts) c.args.values.now c.loop-value.value-index c.value-item.result _ c.loop-value-test.true c.value-item.is
    (sym (c.has_needle.ensures texts needles all) ∙ c.if-has_needle.false) (c.loop-value.invariant texts needles all)
