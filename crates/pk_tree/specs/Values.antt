-- What a field's values are, and what its row reads from bytes.
use Rattle.std.specs.Prelude.{◌≡◌, ◌==◌, ℕ, ◌*◌, ◌^◌, ◌<◌, Bool as Truth, true, false, ◌&&◌, not, List, Option, Some, None}
use Rattle.std.specs.Option.{option_map_or}
use Rattle.pk_base.specs.Bits.{number_of_bits}
use Rattle.pk_fields.specs.declared.value_kind.ValueKind.{ValueKind}
use Rattle.pk_fields.specs.declared.value_kind.ValueKind.TheVariants as kinds
use Rattle.pk_fields.specs.declared.value_kind.BitPlace.{BitPlace}
use Rattle.pk_fields.specs.Rows.{FieldRow, is_marked, size_of_place, size_of_row}
use Rattle.pk_fields.specs.Fields.{row_of}
use Rattle.pk_base.specs.declared.value.Value.{Value}
use Rattle.pk_base.specs.declared.value.Value.TheVariants as values

-- a value of a kind; a number is below two to its width
abbrev pub IsOfKind : ValueKind → Value → Type 0
IsOfKind (kinds.Uint width) (values.Uint number) = number < 2 ^ width
IsOfKind kinds.Bool (values.Bool truth) = Unit {0}
IsOfKind kinds.Bytes (values.Bytes bytes) = Unit {0}
IsOfKind kinds.Text (values.Text bytes) = Unit {0}
IsOfKind kinds.Ether (values.Ether address) = Unit {0}
IsOfKind kinds.Ip4 (values.Ip4 address) = Unit {0}
IsOfKind kinds.Ip6 (values.Ip6 address) = Unit {0}
IsOfKind kinds.Time (values.Time time) = Unit {0}
IsOfKind kinds.Proto (values.Proto bytes) = Unit {0}
IsOfKind kind value = ⊥

-- a protocol, and no field of one
abbrev pub IsProtocol : ℕ → Type 0
IsProtocol proto = (row_of proto).kind ≡ kinds.Proto

abbrev pub is_proto : ValueKind → Truth
is_proto kinds.Proto = true
is_proto kind = false

-- a row that reads its value from bytes: it is neither worked out nor made, and no protocol
abbrev pub is_read : FieldRow → Truth
is_read row = not (is_marked row.mark) && not (is_proto row.kind)

-- the kinds whose values are bytes of any number
abbrev pub is_whole : ValueKind → Truth
is_whole kinds.Bytes = true
is_whole kinds.Text = true
is_whole kind = false

-- the bytes of a field's item; 0 where its row has no size of its own
abbrev pub size_of : ℕ → ℕ
size_of field = size_of_row (row_of field)

-- bytes that a row reads its value from; a row without bits reads any
abbrev pub HasSize : Option BitPlace → ℕ → Type 0
HasSize None len = Unit {0}
HasSize (Some place) len = len ≡ size_of_place place

-- the number that the bits spell, taken by the factor
abbrev pub scaled : List ℕ → BitPlace → ℕ
scaled bytes place = place.scale * number_of_bits bytes place.first place.width

-- the value of a kind that bytes hold, with the number that their bits spell
abbrev pub value_with : ValueKind → List ℕ → ℕ → Value
value_with (kinds.Uint width) bytes number = values.Uint number
value_with kinds.Bool bytes number = values.Bool (number == 1)
value_with kinds.Bytes bytes number = values.Bytes bytes
value_with kinds.Text bytes number = values.Text bytes
value_with kinds.Ether bytes number = values.Ether bytes
value_with kinds.Ip4 bytes number = values.Ip4 number
value_with kinds.Ip6 bytes number = values.Ip6 number
value_with kinds.Time bytes number = values.Bytes bytes
value_with kinds.Proto bytes number = values.Proto bytes

-- what a field's row reads from bytes
unfoldable pub value_of : ℕ → List ℕ → Value
value_of field bytes =
    value_with (row_of field).kind bytes
    (option_map_or (λ place. scaled bytes place) (row_of field).bits 0)
