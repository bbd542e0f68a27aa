use Rattle.std.proofs.Common.{refl}
use Rattle.pk_tree.specs.Trees.{with_layer, kept}
use Rattle.pk_tree.proofs.LayersFit.{opened_fits, last_proto-push}
use Rattle.pk_tree.proofs.builder.TreeBuilder.open_with_room.Goals as goal

pub invariant_of-self-2 : goal.invariant_of-self-2
invariant_of-self-2 c =
    let inside = rw (← c.self.view_is) at c.requires.inside in
    let room = rw (← c.self.view_is) at c.requires.room in
    let nth = rw c.deref.ensures.value at c.next_number.ensures in
    rw (c.in_ok-push.ensures.items, c.in_ok-empty_list.ensures) (opened_fits c.self.inside.wanted c.self.inside.layers.items c.self.inside.buffers _ c.self.invariant c.requires.proto inside nth tt room)

pub returns-clause-ok : goal.returns-clause-ok
unfolding with_layer kept
returns-clause-ok c =
    rw (c.in_ok-push.ensures.items, c.in_ok-empty_list.ensures, ← c.self.view_is, c.next_number.ensures, c.deref.ensures.value) refl

pub returns-clause-last : goal.returns-clause-last
returns-clause-last c = rw c.in_ok-push.ensures.items (last_proto-push c.self.inside.layers.items _)
