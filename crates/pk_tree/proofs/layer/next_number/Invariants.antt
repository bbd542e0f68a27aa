use Rattle.std.proofs.Common.{◌≡◌, ◌≤◌, length, take}
use Rattle.pk_tree.specs.Trees.{layers_of}
use Rattle.pk_tree.proofs.layer.next_number.Given as goal

abbrev pub invariant-loop-at : goal.invariant-loop-at
invariant-loop-at l = record {
  inside : l.at ≤ length l.layers;
  none_behind : layers_of l.proto (take l.at l.layers) ≡ layers_of l.proto l.layers;
}

abbrev pub decreases-loop-at : goal.decreases-loop-at
decreases-loop-at l = l.at
