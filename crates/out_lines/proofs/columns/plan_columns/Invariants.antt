use Rattle.std.proofs.Common.{length, take}
use Rattle.out_lines.specs.Places.{ArePlanned}
use Rattle.out_lines.proofs.columns.plan_columns.Given as goal

abbrev pub invariant-loop-field : goal.invariant-loop-field
invariant-loop-field l = ArePlanned (take l.field-index l.fields) (length l.columns.items) l.places.items
