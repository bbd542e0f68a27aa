use Rattle.std.proofs.Common.{◌∙◌}
use Rattle.pk_tree.specs.declared.layer.Layer.{Layer}
use Rattle.pk_tree.specs.FieldValues.{item_values}
use Rattle.out_lines.proofs.SummaryLemmas.{first_here, first_on}
use Rattle.out_lines.proofs.summary.first_value.Goals as goal

pub returns-in-Some : goal.returns-in-Some
returns-in-Some c =
    rw c.loop-layer.invariant (first_here (λ (layer : Layer). item_values c.args.field layer.items) c.args.layers.now c.layer-item.result c.loop-layer.layer-index c.in-Some.value.now c.loop-layer-test.true c.layer-item.is (rw c.slice.ensures at c.in-Some.ensures))

pub loop-layer-preserved : goal.loop-layer-preserved
loop-layer-preserved c =
    c.loop-layer.invariant ∙ first_on (λ (layer : Layer). item_values c.args.field layer.items) c.args.layers.now c.layer-item.result c.loop-layer.layer-index c.loop-layer-test.true c.layer-item.is (rw c.slice.ensures at c.in_default.ensures)
