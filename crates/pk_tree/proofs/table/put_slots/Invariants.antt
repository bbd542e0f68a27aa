use Rattle.std.proofs.Common.{◌≡◌, length, drop}
use Rattle.pk_tree.specs.declared.layout.Reach.TheVariants.{All}
use Rattle.pk_tree.specs.Layouts.{items_read, reach, StepsFit, with_items}
use Rattle.pk_tree.specs.Tables.{steps_of}
use Rattle.pk_tree.specs.Trees.{last_proto}
use Rattle.pk_tree.proofs.table.put_slots.Given as goal

-- what is left of the slots leads where all of them do
abbrev pub invariant-loop-slot : goal.invariant-loop-slot
invariant-loop-slot l = record {
  tree_goes : with_items l.tree (items_read l.initial.tree.buffers l.span (steps_of l.holds l.sizes (drop l.slot-index l.slots))) ≡ with_items l.initial.tree (items_read l.initial.tree.buffers l.span (steps_of l.holds l.sizes l.slots));
  rest_known : reach l.span.len (steps_of l.holds l.sizes (drop l.slot-index l.slots)) ≡ All;
  same_buffers : l.tree.buffers ≡ l.initial.tree.buffers;
  same_count : length l.tree.layers ≡ length l.initial.tree.layers;
  same_last : last_proto l.tree.layers ≡ last_proto l.initial.tree.layers;
  rest_fits : StepsFit (last_proto l.initial.tree.layers) (steps_of l.holds l.sizes (drop l.slot-index l.slots));
}
