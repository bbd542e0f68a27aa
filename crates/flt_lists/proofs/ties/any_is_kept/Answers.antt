use Rattle.std.proofs.Common.{ap, sym, ◌∙◌}
use Rattle.std.specs.List.{list_any}
use Rattle.std.specs.Ordering.{is_eq}
use Rattle.flt_lists.specs.Keys.{key_cmp, key_of, key_shown}
use Rattle.flt_lists.proofs.ListLemmas.{more_failed}
use Rattle.flt_lists.proofs.ties.any_is_kept.Goals as goal

pub loop-value-preserved : goal.loop-value-preserved
loop-value-preserved c =
    more_failed (λ v. list_any (λ k. is_eq (key_cmp (key_of c.args.prefix v) (key_shown k))) c.args.keys.now) c.args.values.now c.loop-value.value-index c.value-item.result _
    c.loop-value-test.true c.value-item.is
    (ap (λ s. list_any (λ k. is_eq (key_cmp s (key_shown k))) c.args.keys.now) (sym c.key_of.ensures) ∙ sym c.is_kept.ensures ∙ c.if-is_kept.false) c.loop-value.invariant
