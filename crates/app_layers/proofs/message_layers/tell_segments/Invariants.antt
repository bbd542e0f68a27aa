use Rattle.std.proofs.Common.{◌≡◌, length, drop}
use Rattle.pk_tree.specs.Trees.{last_proto}
use Rattle.app_layers.specs.MessageLayers.{with_segments}
use Rattle.app_layers.proofs.message_layers.tell_segments.Given as goal

-- what is left of the frames leads where all of them do
abbrev pub invariant-loop-frame : goal.invariant-loop-frame
invariant-loop-frame l = record {
  told : with_segments l.tree (drop l.frame-index l.frames) ≡ with_segments l.initial.tree l.frames;
  same_buffers : l.tree.buffers ≡ l.initial.tree.buffers;
  same_count : length l.tree.layers ≡ length l.initial.tree.layers;
  same_last : last_proto l.tree.layers ≡ last_proto l.initial.tree.layers;
}
