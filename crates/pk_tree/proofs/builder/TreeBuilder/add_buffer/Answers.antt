use Rattle.std.proofs.Common.{refl}
use Rattle.pk_tree.specs.Trees.{with_buffer}
use Rattle.pk_tree.proofs.LayersFit.{widened_fits}
use Rattle.pk_tree.proofs.builder.TreeBuilder.add_buffer.Goals as goal

pub invariant_of-self-2 : goal.invariant_of-self-2
invariant_of-self-2 c =
    rw c.in_ok-number.ensures.ok (widened_fits c.self.inside.wanted c.self.inside.layers.items c.self.inside.buffers c.args.b c.self.invariant)

pub returns-clause-ok : goal.returns-clause-ok
unfolding with_buffer
returns-clause-ok c = rw (c.in_ok-number.ensures.ok, ← c.self.view_is) refl
