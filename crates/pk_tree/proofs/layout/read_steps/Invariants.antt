use Rattle.std.proofs.Common.{◌≡◌, length, drop}
use Rattle.std.specs.List.{AllByRecursion as Each}
use Rattle.pk_tree.specs.Layouts.{items_read, reach, StepFits, with_items}
use Rattle.pk_tree.specs.Trees.{last_proto}
use Rattle.pk_tree.proofs.layout.read_steps.Given as goal

-- what is left of the steps leads where all of them do
abbrev pub invariant-loop-step : goal.invariant-loop-step
invariant-loop-step l = record {
  tree_goes : with_items l.tree (items_read l.initial.tree.buffers l.span (drop l.step-index l.steps)) ≡ with_items l.initial.tree (items_read l.initial.tree.buffers l.span l.steps);
  reach_goes : reach l.span.len (drop l.step-index l.steps) ≡ reach l.span.len l.steps;
  same_buffers : l.tree.buffers ≡ l.initial.tree.buffers;
  same_count : length l.tree.layers ≡ length l.initial.tree.layers;
  same_last : last_proto l.tree.layers ≡ last_proto l.initial.tree.layers;
  rest_fits : Each (StepFits (last_proto l.initial.tree.layers)) (drop l.step-index l.steps);
}
