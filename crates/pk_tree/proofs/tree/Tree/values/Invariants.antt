use Rattle.std.proofs.Common.{◌≡◌, ◌++◌, drop}
use Rattle.std.specs.List.{flat_map}
use Rattle.pk_tree.specs.FieldValues.{chosen_values}
use Rattle.pk_tree.proofs.tree.Tree.values.Given as goal

abbrev pub invariant-loop-layer : goal.invariant-loop-layer
invariant-loop-layer l =
    l.values.items ++ flat_map (λ layer. chosen_values l.self-inside.buffers l.field l.layers layer) (drop l.layer-index l.layer-items) ≡ flat_map (λ layer. chosen_values l.self-inside.buffers l.field l.layers layer) l.layer-items
