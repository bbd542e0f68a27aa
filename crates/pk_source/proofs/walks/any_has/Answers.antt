use Rattle.std.proofs.Common.{◌≡◌, [], drop, sym, ◌∙◌}
use Rattle.std.proofs.lemmas.List.{drop_all}
use Rattle.pk_source.proofs.ThereLemmas.{more_absent, more_there}
use Rattle.pk_tree.specs.FieldValues.{chosen_values}
use Rattle.pk_source.proofs.walks.any_has.Goals as goal

pub loop-layer-preserved : goal.loop-layer-preserved
loop-layer-preserved c =
    λ buffers. more_absent (λ layer. chosen_values buffers c.args.field c.args.layers.now layer) c.args.all.now c.loop-layer.layer-index c.layer-item.result _ c.loop-layer-test.true c.layer-item.is
    (sym (c.chosen_has.ensures buffers) ∙ c.if-chosen_has.false) (c.loop-layer.invariant buffers)

pub returns-then-chosen_has : goal.returns-then-chosen_has
returns-then-chosen_has c =
    λ buffers. more_there (λ layer. chosen_values buffers c.args.field c.args.layers.now layer) c.args.all.now c.loop-layer.layer-index c.layer-item.result _ c.loop-layer-test.true c.layer-item.is
    (sym (c.chosen_has.ensures buffers) ∙ c.if-chosen_has.true) (c.loop-layer.invariant buffers)

pub returns : goal.returns
returns c = λ buffers.
    let rest : drop c.loop-layer.layer-index c.args.all.now ≡ [] = drop_all c.loop-layer.layer-index c.args.all.now c.loop-layer-test.false in
    let so_far = c.loop-layer.invariant buffers in
    rw rest at so_far
