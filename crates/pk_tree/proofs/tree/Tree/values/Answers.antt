use Rattle.std.proofs.Common.{◌≡◌, ◌<◌, length, [], drop, arith, append-nil}
use Rattle.std.proofs.lemmas.List.{drop_all}
use Rattle.pk_tree.specs.FieldValues.{values_of}
use Rattle.pk_tree.proofs.FieldLemmas.{layers_kind}
use Rattle.pk_tree.proofs.LayersFit.{fits_at}
use Rattle.pk_tree.proofs.tree.Tree.values.Goals as goal

pub push_chosen-requires : goal.push_chosen-requires
push_chosen-requires c =
    let inside : c.loop-layer.layer-index < length c.deref-layer-items.result.now = omega arith in
    let fit = fits_at c.self.inside.buffers [] c.deref-layer-items.result.now c.loop-layer.layer-index c.layer-item.result (rw c.deref-layer-items.ensures.value c.self.invariant.layers) inside in
    (_, rw (← c.layer-item.is) at fit)

pub returns-clause-kind : goal.returns-clause-kind
returns-clause-kind c =
    let rest : drop c.loop-layer.layer-index c.deref-layer-items.result.now ≡ [] = drop_all c.loop-layer.layer-index c.deref-layer-items.result.now c.loop-layer-test.false in
    let all = rw (rest, append-nil c.loop-layer.values.items, c.deref-layer-items.ensures.value) at c.loop-layer.invariant in
    rw all (layers_kind c.self.inside.buffers c.args.field c.args.layers.now [] c.self.inside.layers.items c.self.invariant.layers)

pub returns-clause-values : goal.returns-clause-values
unfolding values_of
returns-clause-values c =
    let rest : drop c.loop-layer.layer-index c.deref-layer-items.result.now ≡ [] = drop_all c.loop-layer.layer-index c.deref-layer-items.result.now c.loop-layer-test.false in
    rw (← c.self.view_is) (rw (rest, append-nil c.loop-layer.values.items, c.deref-layer-items.ensures.value) at c.loop-layer.invariant)
