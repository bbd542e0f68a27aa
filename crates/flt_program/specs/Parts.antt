-- Parts of programs that are written alike in a listing are the same: fields with their layers, ranges, strings, and literals of one
-- kind.
use Rattle.std.specs.Prelude.{◌≡◌, ◌<◌, ◌^◌, ℕ, List, length, Option, None, Some}
use Rattle.std.specs.List.{AllByRecursion}
use Rattle.flt_program.specs.Literals.{constant_shown, field_shown, layers_shown, ranges_shown, string_shown}
use Rattle.flt_syntax.specs.declared.ast.Place.{Place}
use Rattle.flt_syntax.specs.declared.ast.RangePart.{RangePart}
use Rattle.flt_syntax.specs.declared.ast.RangePart.TheVariants as parts
use Rattle.flt_typed.specs.Kinds.{kind_of_value}
use Rattle.flt_typed.specs.declared.constant.Constant.{Constant}
use Rattle.pk_base.specs.declared.chosen.LayerRange.{LayerRange}
use Rattle.pk_base.specs.declared.chosen.Layers.{Layers}
use Rattle.pk_base.specs.declared.chosen.Layers.TheVariants.{All, These}
use Rattle.pk_base.specs.declared.value.Value.{Value}
use Rattle.pk_base.specs.declared.value.Value.TheVariants as values
use Rattle.pk_fields.specs.Fields.{IsField}
use Rattle.pk_text.specs.Time.{whole_seconds}

abbrev pub IsByte : ℕ → Type 0
IsByte b = b < 256

abbrev pub AreBytes : List ℕ → Type 0
AreBytes bytes = AllByRecursion IsByte bytes

-- a value is one of its kind
abbrev pub IsOfKind : Value → Type 0
IsOfKind (values.Uint number) = number < 2 ^ 64
IsOfKind (values.Bool truth) = Unit {0}
IsOfKind (values.Bytes bytes) = AreBytes bytes
IsOfKind (values.Text bytes) = AreBytes bytes
IsOfKind (values.Ether address) = (length address ≡ 6) × AreBytes address
IsOfKind (values.Ip4 address) = address < 2 ^ 32
IsOfKind (values.Ip6 address) = address < 2 ^ 128
IsOfKind (values.Time time) = whole_seconds time < 10 ^ 18
IsOfKind (values.Proto bytes) = AreBytes bytes

-- a field with its layers tells the field, and its layers are written alike
abbrev pub FieldsAreTold : Type 0
FieldsAreTold = (f g : ℕ) (layers others : Layers) → IsField f → IsField g
    → field_shown f layers ≡ field_shown g others
    → (f ≡ g) × (layers_shown layers ≡ layers_shown others)

-- the numbers of a slice's range, and of a range of layers, fit 64 bits
abbrev pub IsPlaceShort : Place → Type 0
IsPlaceShort place = place.offset < 2 ^ 64

abbrev pub IsRangeShort : RangePart → Type 0
IsRangeShort (parts.One at) = IsPlaceShort at
IsRangeShort (parts.Counted at count) = IsPlaceShort at × (count < 2 ^ 64)
IsRangeShort (parts.Between first last) = IsPlaceShort first × IsPlaceShort last
IsRangeShort (parts.Front count) = count < 2 ^ 64
IsRangeShort (parts.ToEnd at) = IsPlaceShort at

abbrev pub IsLastShort : Option ℕ → Type 0
IsLastShort None = Unit {0}
IsLastShort (Some last) = last < 2 ^ 64

pub record IsLayerRangeShort (range : LayerRange) : Type 0 where
  pub first : range.first < 2 ^ 64
  pub last : IsLastShort range.last

abbrev pub AreLayersShort : Layers → Type 0
AreLayersShort All = Unit {0}
AreLayersShort (These ranges) = AllByRecursion IsLayerRangeShort ranges

-- ranges of a slice that are written alike are the same
abbrev pub RangesAreTold : Type 0
RangesAreTold = (ranges others : List RangePart) → AllByRecursion IsRangeShort ranges → AllByRecursion IsRangeShort others
    → ranges_shown ranges ≡ ranges_shown others → ranges ≡ others

-- so are the layers that are chosen
abbrev pub LayersAreTold : Type 0
LayersAreTold = (layers others : Layers) → AreLayersShort layers → AreLayersShort others
    → layers_shown layers ≡ layers_shown others → layers ≡ others

-- a string tells its bytes
abbrev pub StringsAreTold : Type 0
StringsAreTold =
    (xs ys : List ℕ) → AreBytes xs → AreBytes ys → string_shown xs ≡ string_shown ys → xs ≡ ys

-- a literal tells its value among those of its kind, with the same prefix length or none, as a string or not
abbrev pub LiteralsAreTold : Type 0
LiteralsAreTold = (c d : Constant) → IsOfKind c.value → IsOfKind d.value
    → kind_of_value c.value ≡ kind_of_value d.value → c.quoted ≡ d.quoted → c.prefix ≡ d.prefix
    → constant_shown c ≡ constant_shown d → c.value ≡ d.value

-- and its prefix length, which fits 64 bits
abbrev pub IsPrefixShort : Option ℕ → Type 0
IsPrefixShort None = Unit {0}
IsPrefixShort (Some prefix) = prefix < 2 ^ 64

abbrev pub PrefixesAreTold : Type 0
PrefixesAreTold = (c d : Constant) → IsOfKind c.value → IsOfKind d.value
    → kind_of_value c.value ≡ kind_of_value d.value → c.quoted ≡ d.quoted
    → IsPrefixShort c.prefix → IsPrefixShort d.prefix
    → constant_shown c ≡ constant_shown d → c.prefix ≡ d.prefix
