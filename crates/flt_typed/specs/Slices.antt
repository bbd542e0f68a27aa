-- The slices of bytes (wireshark-filter(4), The Slice Operator).
use Rattle.std.specs.Prelude.{ℕ, ◌+◌, ◌-◌, ◌&&◌, if◌then◌else◌, nat_lt, nat_le, List, [], ◌∷◌, ◌++◌, length, slice_range, Option, Some, None, option_and_then}
use Rattle.std.specs.Int.{w32, w128, to_be_bytes}
use Rattle.std.specs.Option.{option_map}
use Rattle.flt_syntax.specs.declared.ast.Place.{Place}
use Rattle.flt_syntax.specs.declared.ast.RangePart.{RangePart}
use Rattle.flt_syntax.specs.declared.ast.RangePart.TheVariants as parts
use Rattle.flt_typed.specs.Relations.{octets_of}
use Rattle.pk_base.specs.declared.value.Value.{Value}
use Rattle.pk_base.specs.declared.value.Value.TheVariants as values

-- where a place is in so many bytes: counted from the front, or from the end, where 1 is the last byte; `-0` is place 0
abbrev pub place_in : ℕ → Place → Option ℕ
place_in size place =
    if place.from_end && nat_lt 0 place.offset
    then (if nat_le place.offset size then Some (size - place.offset) else None)
    else Some place.offset

-- bytes from a place up to and without another; none where there are none, or one that isn't there
abbrev pub within : ℕ → ℕ → ℕ → Option (ℕ × ℕ)
within size from to = if nat_lt from to && nat_le to size then Some (from, to) else None

-- the bytes that a range takes of so many, from the first up to and without the second
unfoldable pub span_of : ℕ → RangePart → Option (ℕ × ℕ)
span_of size (parts.One at) = option_and_then (λ i. within size i (i + 1)) (place_in size at)
span_of size (parts.Counted at count) =
    option_and_then (λ i. within size i (i + count)) (place_in size at)
span_of size (parts.Between first last) =
    option_and_then (λ i. option_and_then (λ j. within size i (j + 1)) (place_in size last))
    (place_in size first)
span_of size (parts.Front count) = within size 0 count
span_of size (parts.ToEnd at) = option_and_then (λ i. within size i size) (place_in size at)

-- the bytes that ranges take, in the order of the ranges; none where one of them takes none
abbrev pub part_of : List ℕ → RangePart → Option (List ℕ)
part_of bytes range =
    option_map (λ span. slice_range bytes span.0 span.1) (span_of (length bytes) range)

unfoldable pub taken_by : List ℕ → List RangePart → Option (List ℕ)
taken_by bytes [] = Some []
taken_by bytes (range ∷ ranges) =
    option_and_then (λ part.
    option_map (λ rest. part ++ rest) (taken_by bytes ranges)) (part_of bytes range)

-- the bytes of a value that can be sliced; an address has its highest first
abbrev pub bytes_of_value : Value → Option (List ℕ)
bytes_of_value (values.Ip4 address) = Some (to_be_bytes w32 address)
bytes_of_value (values.Ip6 address) = Some (to_be_bytes w128 address)
bytes_of_value value = octets_of value

-- a slice of a value, which is bytes
abbrev pub sliced : Value → List RangePart → Option Value
sliced value ranges = option_map values.Bytes
    (option_and_then (λ bytes. taken_by bytes ranges) (bytes_of_value value))
