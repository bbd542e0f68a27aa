use Rattle.std.proofs.Common.{length}
use Rattle.pk_tree.proofs.spare.Spare.empty.Given as goal

-- one layer fewer each time
abbrev pub decreases-loop-layer : goal.decreases-loop-layer
decreases-loop-layer l = length l.self.layers.items
