use Rattle.std.proofs.Common.{◌≡◌, length, drop}
use Rattle.pk_tree.specs.Trees.{last_proto}
use Rattle.app_layers.specs.Fragments.{frames_told}
use Rattle.app_layers.proofs.fragments.tell_frames.Given as goal

-- what is left of the frames leads where all of them do
abbrev pub invariant-loop-frame : goal.invariant-loop-frame
invariant-loop-frame l = record {
  told : frames_told l.tree l.six (drop l.frame-index l.frames) ≡ frames_told l.initial.tree l.six l.frames;
  same_buffers : l.tree.buffers ≡ l.initial.tree.buffers;
  same_count : length l.tree.layers ≡ length l.initial.tree.layers;
  same_last : last_proto l.tree.layers ≡ last_proto l.initial.tree.layers;
}
