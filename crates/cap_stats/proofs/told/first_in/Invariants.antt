use Rattle.std.proofs.Common.{◌≡◌, drop}
use Rattle.pk_tree.specs.FieldValues.{item_values}
use Rattle.cap_stats.specs.Told.{first_value}
use Rattle.cap_stats.proofs.told.first_in.Given as goal

abbrev pub invariant-loop-item : goal.invariant-loop-item
invariant-loop-item l =
    first_value (item_values l.field l.items)
    ≡ first_value (item_values l.field (drop l.item-index l.items))
