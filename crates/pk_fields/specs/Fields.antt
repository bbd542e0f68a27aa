-- The fields by number and by name.
use Rattle.std.specs.Prelude.{ℕ, ◌<◌, List, [], Option}
use Rattle.std.specs.List.{slice_index_or, position}
use Rattle.std.specs.Str.{bytes_eq}
use Rattle.pk_fields.specs.declared.value_kind.ValueKind.TheVariants.{Proto}
use Rattle.pk_fields.specs.Rows.{FieldRow, whole}
use Rattle.pk_fields.specs.Table.{rows}
use Rattle.pk_fields.specs.Ids.{field_count}

-- the numbers of fields and protocols
abbrev pub IsField : ℕ → Type 0
IsField f = f < field_count

-- the row of a field; other numbers have a row without a name
unfoldable pub row_of : ℕ → FieldRow
row_of f = slice_index_or rows f (whole [] Proto 0)

-- the field or protocol of a name: the place of the first row that has it
unfoldable pub field_named : List ℕ → Option ℕ
field_named name = position (λ (row : FieldRow). bytes_eq row.name name) rows
