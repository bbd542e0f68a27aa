-- The texts of fields, ranges and literals in a listing.
use Rattle.std.specs.Prelude.{◌==◌, ℕ, Bool as Truth, if◌then◌else◌, List, [], ◌∷◌, ◌++◌, codes, decimal, Option, Some, None}
use Rattle.std.specs.List.{flat_map, join_by}
use Rattle.flt_syntax.specs.declared.ast.Place.{Place}
use Rattle.flt_syntax.specs.declared.ast.RangePart.{RangePart}
use Rattle.flt_syntax.specs.declared.ast.RangePart.TheVariants as parts
use Rattle.flt_typed.specs.declared.typed.Member.{Member}
use Rattle.flt_typed.specs.declared.typed.Member.TheVariants as members
use Rattle.flt_typed.specs.declared.constant.Constant.{Constant}
use Rattle.pk_fields.specs.Fields.{row_of}
use Rattle.pk_text.specs.Digits.{hex_shown}
use Rattle.pk_text.specs.Escape.{escape_byte}
use Rattle.pk_text.specs.Ether.{ether_shown}
use Rattle.pk_text.specs.Ip4.{ip4_shown}
use Rattle.pk_text.specs.Ip6.{ip6_shown}
use Rattle.pk_text.specs.Time.{time_shown}
use Rattle.pk_base.specs.declared.chosen.LayerRange.{LayerRange}
use Rattle.pk_base.specs.declared.chosen.Layers.{Layers}
use Rattle.pk_base.specs.declared.chosen.Layers.TheVariants.{All, These}
use Rattle.pk_base.specs.declared.value.Value.{Value}
use Rattle.pk_base.specs.declared.value.Value.TheVariants as values

-- a field's name, and the layers that are chosen; a range of one layer is its number
abbrev pub last_shown : Option ℕ → List ℕ
last_shown None = []
last_shown (Some last) = codes "-" ++ decimal last

abbrev pub layer_range_shown : LayerRange → List ℕ
layer_range_shown range = decimal range.first ++ last_shown range.last

abbrev pub layers_shown : Layers → List ℕ
layers_shown All = []
layers_shown (These ranges) =
    codes "#[" ++ (join_by layer_range_shown (codes ",") ranges ++ codes "]")

abbrev pub field_shown : ℕ → Layers → List ℕ
field_shown field layers = (row_of field).name ++ layers_shown layers

-- the ranges of a slice; a place that counts from the end has a minus
abbrev pub place_shown : Place → List ℕ
place_shown place = (if place.from_end then codes "-" else []) ++ decimal place.offset

abbrev pub range_shown : RangePart → List ℕ
range_shown (parts.One at) = place_shown at
range_shown (parts.Counted at count) = place_shown at ++ (codes ":" ++ decimal count)
range_shown (parts.Between first last) = place_shown first ++ (codes "-" ++ place_shown last)
range_shown (parts.Front count) = codes ":" ++ decimal count
range_shown (parts.ToEnd at) = place_shown at ++ codes ":"

abbrev pub ranges_shown : List RangePart → List ℕ
ranges_shown ranges = codes "[" ++ (join_by range_shown (codes ",") ranges ++ codes "]")

-- bytes as a string: in double quotes, where a quotation mark, 34, has a backslash, 92, before it
abbrev pub quoted_byte : ℕ → List ℕ
quoted_byte byte = if byte == 34 then 92 ∷ 34 ∷ [] else escape_byte byte

unfoldable pub string_shown : List ℕ → List ℕ
string_shown bytes = 34 ∷ (flat_map quoted_byte bytes ++ 34 ∷ [])

-- bytes as they are written: as a string, or in hexadecimal
abbrev pub bytes_shown : Truth → List ℕ → List ℕ
bytes_shown quoted bytes = if quoted then string_shown bytes else hex_shown bytes

-- a literal's value, as a value of its kind
unfoldable pub value_shown : Truth → Value → List ℕ
value_shown quoted (values.Uint number) = decimal number
value_shown quoted (values.Bool truth) = if truth then codes "1" else codes "0"
value_shown quoted (values.Bytes bytes) = bytes_shown quoted bytes
value_shown quoted (values.Text bytes) = string_shown bytes
value_shown quoted (values.Ether address) = ether_shown address
value_shown quoted (values.Ip4 address) = ip4_shown address
value_shown quoted (values.Ip6 address) = ip6_shown address
value_shown quoted (values.Time time) = time_shown time
value_shown quoted (values.Proto bytes) = bytes_shown quoted bytes

-- a prefix length, where there is one
abbrev pub prefix_shown : Option ℕ → List ℕ
prefix_shown None = []
prefix_shown (Some prefix) = codes "/" ++ decimal prefix

abbrev pub constant_shown : Constant → List ℕ
constant_shown c = value_shown c.quoted c.value ++ prefix_shown c.prefix

-- the members of a set
abbrev pub member_shown : Member → List ℕ
member_shown (members.One c) = constant_shown c
member_shown (members.Between low high) =
    constant_shown low ++ (codes ".." ++ constant_shown high)

abbrev pub members_shown : List Member → List ℕ
members_shown ms = codes "{" ++ (join_by member_shown (codes ", ") ms ++ codes "}")
