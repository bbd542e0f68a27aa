use Rattle.std.proofs.Common.{◌≡◌, ◌++◌, drop}
use Rattle.pk_tree.specs.FieldValues.{item_values}
use Rattle.pk_tree.proofs.tree.push_items.Given as goal

abbrev pub invariant-loop-item : goal.invariant-loop-item
invariant-loop-item l =
    l.values.items ++ item_values l.field (drop l.item-index l.items) ≡ l.initial.values.items ++ item_values l.field l.items
