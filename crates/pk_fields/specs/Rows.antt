-- A row of the table of fields, and what each must be like.
use Rattle.std.specs.Prelude.{◌≡◌, ℕ, ◌+◌, ◌*◌, ◌/◌, ◌^◌, ◌≤◌, ◌<◌, Bool as Truth, true, false, ◌||◌, List, Option, Some, None}
use Rattle.std.specs.Option.{option_map_or}
use Rattle.pk_fields.specs.declared.value_kind.ValueKind.{ValueKind}
use Rattle.pk_fields.specs.declared.value_kind.ValueKind.TheVariants.{Uint, Bool, Bytes, Text, Ether, Ip4, Ip6, Time, Proto}
use Rattle.pk_fields.specs.declared.value_kind.BitPlace.{BitPlace}
use Rattle.pk_fields.specs.declared.row.Row.{Row}
use Rattle.pk_fields.specs.declared.row.Origin.{Origin}
use Rattle.pk_fields.specs.declared.row.Origin.TheVariants as origins

-- whether an item's value is read from its bytes, worked out by a rule from its bytes, or made without any
pub data Mark : Type 0 where
  Plain : Mark
  Derived : Mark
  Made : Mark

-- a field's name, the kind of its values, its protocol's number, and the bits of its item's bytes that a number is read from
pub record FieldRow : Type 0 where
  pub name : List ℕ
  pub kind : ValueKind
  pub proto : ℕ
  pub bits : Option BitPlace
  pub mark : Mark

-- a field that is read from bits: the first, how many, and the factor that their number is taken by
abbrev pub placed : List ℕ → ValueKind → ℕ → ℕ → ℕ → ℕ → FieldRow
placed name kind proto first width scale =
    record {
      name = name;
      kind = kind;
      proto = proto;
      bits = Some (record { first = first; width = width; scale = scale });
      mark = Plain;
    }

-- a field whose value is all its item's bytes, or a protocol, whose value is the bytes of its layer
abbrev pub whole : List ℕ → ValueKind → ℕ → FieldRow
whole name kind proto =
    record { name = name; kind = kind; proto = proto; bits = None; mark = Plain }

abbrev pub derived : List ℕ → ValueKind → ℕ → FieldRow
derived name kind proto =
    record { name = name; kind = kind; proto = proto; bits = None; mark = Derived }

abbrev pub made : List ℕ → ValueKind → ℕ → FieldRow
made name kind proto = record { name = name; kind = kind; proto = proto; bits = None; mark = Made }

-- a number has 1 to 64 bits
abbrev pub IsKind : ValueKind → Type 0
IsKind (Uint width) = (1 ≤ width) × (width ≤ 64)
IsKind kind = Unit {0}

-- bits that begin in the item's first byte, and whose number, taken by the factor, is a value of the kind
abbrev pub IsSound : ValueKind → BitPlace → Type 0
IsSound (Uint width) place =
    (place.first < 8) × (1 ≤ place.width) × (place.width ≤ 64) × (1 ≤ place.scale)
    × (place.scale * 2 ^ place.width ≤ 2 ^ width) × (2 ^ width ≤ 2 ^ 64)
IsSound Bool place = (place.first < 8) × (place.width ≡ 1) × (place.scale ≡ 1)
IsSound Ether place = (place.first ≡ 0) × (place.width ≡ 48) × (place.scale ≡ 1)
IsSound Ip4 place = (place.first ≡ 0) × (place.width ≡ 32) × (place.scale ≡ 1)
IsSound Ip6 place = (place.first ≡ 0) × (place.width ≡ 128) × (place.scale ≡ 1)
IsSound kind place = ⊥

-- the kinds that have no width of their own
abbrev pub is_unsized : ValueKind → Truth
is_unsized Bytes = true
is_unsized Text = true
is_unsized Time = true
is_unsized Proto = true
is_unsized kind = false

abbrev pub is_marked : Mark → Truth
is_marked Plain = false
is_marked Derived = true
is_marked Made = true

-- no bits are read for a value of no width, and for one that is worked out or made
abbrev pub has_no_bits : FieldRow → Truth
has_no_bits row = is_unsized row.kind || is_marked row.mark

-- the whole bytes from the first one, in which the bits begin, to the last that has one
abbrev pub size_of_place : BitPlace → ℕ
size_of_place place = (place.first + place.width + 7) / 8

-- the bytes of a row's item; 0 where the row has no size of its own
abbrev pub size_of_row : FieldRow → ℕ
size_of_row row = option_map_or size_of_place row.bits 0

abbrev pub bits_of : Origin → Option BitPlace
bits_of (origins.Bits place) = Some place
bits_of origins.Whole = None
bits_of origins.Derived = None
bits_of origins.Made = None

abbrev pub mark_of : Origin → Mark
mark_of (origins.Bits place) = Plain
mark_of origins.Whole = Plain
mark_of origins.Derived = Derived
mark_of origins.Made = Made

-- what a row of the program's table says
abbrev pub row_shown : Row → FieldRow
row_shown row =
    record {
      name = row.name.now;
      kind = row.kind;
      proto = row.proto;
      bits = bits_of row.origin;
      mark = mark_of row.origin;
    }
