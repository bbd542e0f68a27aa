use Rattle.std.proofs.Common.{◌≡◌, drop}
use Rattle.std.specs.List.{flat_map}
use Rattle.pk_tree.specs.declared.layer.Layer.{Layer}
use Rattle.pk_tree.specs.FieldValues.{item_values}
use Rattle.out_lines.specs.Summary.{first_value}
use Rattle.out_lines.proofs.summary.first_value.Given as goal

abbrev pub invariant-loop-layer : goal.invariant-loop-layer
invariant-loop-layer l =
    first_value (flat_map (λ (layer : Layer). item_values l.field layer.items) l.layers)
    ≡ first_value (flat_map (λ (layer : Layer). item_values l.field layer.items) (drop l.layer-index l.layers))
