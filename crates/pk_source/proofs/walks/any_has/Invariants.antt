use Rattle.std.proofs.Common.{◌≡◌, ℕ, List, drop}
use Rattle.std.specs.List.{flat_map}
use Rattle.pk_source.specs.Found.{is_there}
use Rattle.pk_tree.specs.FieldValues.{chosen_values}
use Rattle.pk_source.proofs.walks.any_has.Given as goal

abbrev pub invariant-loop-layer : goal.invariant-loop-layer
invariant-loop-layer l =
    (buffers : List (List ℕ)) → is_there (flat_map (λ layer. chosen_values buffers l.field l.layers layer) (drop l.layer-index l.all)) ≡ is_there (flat_map (λ layer. chosen_values buffers l.field l.layers layer) l.all)
