use Rattle.std.proofs.Common.{◌≡◌, ◌++◌, ◌-◌, drop, length}
use Rattle.pk_tree.specs.FieldValues.{values_of}
use Rattle.pk_source.proofs.outline.push_all.Given as goal

abbrev pub invariant-values : goal.invariant-values
invariant-values l =
    l.values.items ++ drop (length l.values.items) (values_of l.outline l.field l.layers) ≡ values_of l.outline l.field l.layers

abbrev pub decreases-values : goal.decreases-values
decreases-values l = length (values_of l.outline l.field l.layers) - length l.values.items
