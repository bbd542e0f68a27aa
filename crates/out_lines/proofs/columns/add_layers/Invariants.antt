use Rattle.std.proofs.Common.{◌≡◌, ℕ, List, length, take}
use Rattle.std.specs.List.{flat_map}
use Rattle.pk_tree.specs.FieldValues.{layer_values}
use Rattle.out_lines.specs.Places.{HasAdded}
use Rattle.out_lines.proofs.columns.add_layers.Given as goal

abbrev pub invariant-loop-layer : goal.invariant-loop-layer
invariant-loop-layer l =
    ((buffers : List (List ℕ)) → HasAdded l.style l.places l.initial.columns l.columns (λ f. flat_map (layer_values buffers f) (take l.layer-index l.layers)))
    × (length l.columns ≡ length l.initial.columns)
