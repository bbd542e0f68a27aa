-- The first value of a field, told by the bytes that its row reads.
use Rattle.std.specs.Prelude.{◌≡◌, ℕ, length, Option, Some, None, IsTrue, false}
use Rattle.pk_base.specs.declared.value.Value.{Value}
use Rattle.pk_base.specs.declared.value.Value.TheVariants as values
use Rattle.pk_fields.specs.Fields.{row_of}
use Rattle.pk_source.specs.declared.first.First.{First}
use Rattle.pk_source.specs.declared.first.First.TheVariants as firsts
use Rattle.pk_tree.specs.Values.{HasSize, is_proto, is_read, value_of}

-- the value, if there is one; of a protocol, all the bytes
abbrev pub first_value : ℕ → First → Option Value
first_value field firsts.Nothing = None
first_value field (firsts.Bytes bytes) = Some (value_of field bytes.now)
first_value field (firsts.Number number) = Some (values.Uint number)
first_value field (firsts.Moment time) = Some (values.Time time)

-- the field's row reads the bytes, unless they are a protocol's
abbrev pub IsReadBy : ℕ → First → Type 0
IsReadBy field firsts.Nothing = Unit {0}
IsReadBy field (firsts.Bytes bytes) =
    is_proto (row_of field).kind ≡ false
    → HasSize (row_of field).bits (length bytes.now) × IsTrue (is_read (row_of field))
IsReadBy field (firsts.Number number) = Unit {0}
IsReadBy field (firsts.Moment time) = Unit {0}
