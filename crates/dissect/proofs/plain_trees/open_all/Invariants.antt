use Rattle.std.proofs.Common.{◌≡◌, ◌+◌, ◌≤◌, length, drop}
use Rattle.std.specs.List.{AllByRecursion as Each}
use Rattle.dissect.specs.Feeding.{grown_by}
use Rattle.dissect.specs.Ways.{IsReadBy}
use Rattle.dissect.proofs.plain_trees.open_all.Given as goal

-- what is left of the headers leads where all of them do
abbrev pub invariant-loop-header : goal.invariant-loop-header
invariant-loop-header l = record {
  grows : grown_by l.tree (drop l.header-index l.headers) ≡ grown_by l.initial.tree l.headers;
  rest : Each (IsReadBy l.initial.tree.buffers) (drop l.header-index l.headers);
  same_buffers : l.tree.buffers ≡ l.initial.tree.buffers;
  count : length l.tree.layers ≡ length l.initial.tree.layers + l.header-index;
  within : l.header-index ≤ length l.headers;
}
