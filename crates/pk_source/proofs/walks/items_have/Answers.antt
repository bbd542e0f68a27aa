use Rattle.std.proofs.Common.{sym, ◌∙◌}
use Rattle.pk_source.proofs.ThereLemmas.{other_item, own_item}
use Rattle.pk_source.proofs.walks.items_have.Goals as goal

pub loop-item-preserved : goal.loop-item-preserved
loop-item-preserved c =
    other_item c.args.field c.args.items.now c.loop-item.item-index c.item-item.result _ c.loop-item-test.true c.item-item.is (sym c.eq.ensures ∙ c.if-eq.false) c.loop-item.invariant

pub returns-then-eq : goal.returns-then-eq
returns-then-eq c =
    own_item c.args.field c.args.items.now c.loop-item.item-index c.item-item.result _ c.loop-item-test.true c.item-item.is (sym c.eq.ensures ∙ c.if-eq.true) c.loop-item.invariant
