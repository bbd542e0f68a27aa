use Rattle.std.proofs.Common.{◌≡◌, ◌<◌, length}
use Rattle.pk_tree.specs.Trees.{last_proto}
use Rattle.tree_rows.proofs.made.add_items.Given as goal

-- the layer to which the items belong is still the last one
abbrev pub invariant-loop-item : goal.invariant-loop-item
invariant-loop-item l =
    (l.builder.buffers ≡ l.initial.builder.buffers)
    × (0 < length l.builder.layers)
    × (last_proto l.builder.layers ≡ l.layer)
