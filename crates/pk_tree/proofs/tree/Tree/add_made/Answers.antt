use Rattle.std.proofs.Common.{refl}
use Rattle.pk_tree.specs.Trees.{with_item_at, made_of}
use Rattle.pk_tree.proofs.LayersFit.{added_fits, length-layer_gets, proto_at-layer_gets}
use Rattle.pk_tree.proofs.tree.Tree.add_made.Goals as goal

pub invariant_of-self-2 : goal.invariant_of-self-2
invariant_of-self-2 c =
    let belongs = rw (← c.self.view_is) at c.requires.belongs in
    rw c.in_ok-push_at.ensures.ok (added_fits c.self.inside.wanted c.self.inside.layers.items c.self.inside.buffers c.args.layer (made_of c.args.field c.args.value) c.self.invariant (record { belongs = belongs; kind = c.requires.kind; place = tt }))

pub returns-clause-ok : goal.returns-clause-ok
unfolding with_item_at
returns-clause-ok c = rw (c.in_ok-push_at.ensures.ok, ← c.self.view_is) refl

pub returns-clause-count : goal.returns-clause-count
returns-clause-count c =
    rw (c.in_ok-push_at.ensures.ok, ← c.self.view_is) (length-layer_gets c.self.inside.layers.items c.args.layer _)

pub returns-clause-protos : goal.returns-clause-protos
returns-clause-protos c =
    rw (c.in_ok-push_at.ensures.ok, ← c.self.view_is) (λ at. proto_at-layer_gets c.self.inside.layers.items c.args.layer at _)
