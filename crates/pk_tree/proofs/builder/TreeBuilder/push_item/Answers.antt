use Rattle.std.proofs.Common.{refl}
use Rattle.pk_tree.specs.Trees.{with_last, with_item_at}
use Rattle.pk_tree.proofs.LayersFit.{added_fits, length-layer_gets, proto_at-layer_gets}
use Rattle.pk_tree.proofs.builder.TreeBuilder.push_item.Goals as goal

pub invariant_of-self-2 : goal.invariant_of-self-2
invariant_of-self-2 c =
    let fits = rw (← c.self.view_is) at c.requires.fits in
    rw c.in_ok-push_last.ensures.ok (added_fits c.self.inside.wanted c.self.inside.layers.items c.self.inside.buffers _ c.args.item c.self.invariant fits)

pub returns-clause-ok : goal.returns-clause-ok
unfolding with_last with_item_at
returns-clause-ok c = rw (c.in_ok-push_last.ensures.ok, ← c.self.view_is) refl

pub returns-clause-count : goal.returns-clause-count
returns-clause-count c =
    rw (c.in_ok-push_last.ensures.ok, ← c.self.view_is) (length-layer_gets c.self.inside.layers.items _ c.args.item)

pub returns-clause-last : goal.returns-clause-last
returns-clause-last c =
    rw (c.in_ok-push_last.ensures.ok, ← c.self.view_is, length-layer_gets c.self.inside.layers.items _ c.args.item) (proto_at-layer_gets c.self.inside.layers.items _ _ c.args.item)
