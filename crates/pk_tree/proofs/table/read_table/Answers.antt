use Rattle.std.proofs.Common.{◌++◌}
use Rattle.pk_tree.specs.Tables.{steps_of}
use Rattle.pk_tree.proofs.LayoutLemmas.{layer_by_parts}
use Rattle.pk_tree.proofs.table.read_table.Goals as goal

pub returns-clause-layer : goal.returns-clause-layer
returns-clause-layer c =
    layer_by_parts c.args.tree.now c.open_with_room.new.self c.read_both.new.tree c.close_layer.new.tree c.args.proto c.args.span (steps_of c.args.holds.now c.args.sizes.now c.args.slots.now ++ c.args.more.now) c.args.mode c.args.cut c.in_ok-reach.reach c.in_ok-open_with_room.ensures.ok c.in_ok-open_with_room.ensures.buffers c.in_ok-reach.ensures.tree c.in_ok-reach.ensures.buffers c.in_ok-reach.ensures.why c.in_ok-close_layer.ensures.tree
