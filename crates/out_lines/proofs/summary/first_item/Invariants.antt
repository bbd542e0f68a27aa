use Rattle.std.proofs.Common.{◌≡◌, drop}
use Rattle.pk_tree.specs.FieldValues.{item_values}
use Rattle.out_lines.specs.Summary.{first_value}
use Rattle.out_lines.proofs.summary.first_item.Given as goal

abbrev pub invariant-loop-item : goal.invariant-loop-item
invariant-loop-item l = first_value (item_values l.field l.items) ≡ first_value (item_values l.field (drop l.item-index l.items))
