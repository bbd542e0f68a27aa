use Rattle.std.proofs.Common.{◌≡◌, drop}
use Rattle.pk_tree.specs.FieldValues.{item_values}
use Rattle.second_pass.specs.Named.{first_value}
use Rattle.second_pass.proofs.reading.first_in.Given as goal

abbrev pub invariant-loop-item : goal.invariant-loop-item
invariant-loop-item l =
    first_value (item_values l.field l.items)
    ≡ first_value (item_values l.field (drop l.item-index l.items))
