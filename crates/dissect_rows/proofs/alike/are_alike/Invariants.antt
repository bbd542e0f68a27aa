use Rattle.std.proofs.Common.{◌≡◌, ◌<◌, ℕ, true}
use Rattle.pk_base.specs.declared.chosen.Layers.TheVariants.{All}
use Rattle.pk_fields.specs.Fields.{row_of}
use Rattle.pk_tree.specs.FieldValues.{values_of}
use Rattle.dissect_rows.specs.Alike.{is_header}
use Rattle.dissect_rows.proofs.alike.are_alike.Given as goal

-- the fields so far have the same values
abbrev pub invariant-loop-number : goal.invariant-loop-number
invariant-loop-number l =
    (field : ℕ) → field < l.number → is_header (row_of field).proto ≡ true → values_of l.one field All ≡ values_of l.other field All
