use Rattle.std.proofs.Common.{◌≡◌, drop}
use Rattle.pk_source.specs.Found.{is_there}
use Rattle.pk_tree.specs.FieldValues.{item_values}
use Rattle.pk_source.proofs.walks.items_have.Given as goal

abbrev pub invariant-loop-item : goal.invariant-loop-item
invariant-loop-item l = is_there (item_values l.field (drop l.item-index l.items)) ≡ is_there (item_values l.field l.items)
