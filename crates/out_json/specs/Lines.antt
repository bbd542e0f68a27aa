-- A dissected frame as a JSON value (RFC 8259), and the line that is its text. The keys of each object stand in the
-- order of their bytes.
use Rattle.std.specs.Prelude.{ℕ, Bool as Truth, true, false, List, [], ◌∷◌, ◌++◌, codes, map}
use Rattle.pk_base.specs.declared.span.Span.{Span}
use Rattle.pk_fields.specs.Fields.{row_of}
use Rattle.pk_base.specs.declared.value.Value.{Value}
use Rattle.pk_base.specs.declared.value.Value.TheVariants as values
use Rattle.pk_tree.specs.declared.item.Place.{Place}
use Rattle.pk_tree.specs.declared.item.Place.TheVariants as places
use Rattle.pk_tree.specs.declared.item.Item.{Item}
use Rattle.pk_tree.specs.declared.layer.Layer.{Layer}
use Rattle.pk_tree.specs.Trees.{TreeShown}
use Rattle.pk_text.specs.Digits.{hex_shown}
use Rattle.out_lines.specs.ValueText.{shown_value}
use Rattle.serde_json.specs.Data.{Data, boolean, number, string, array, object, unsigned, no_members, member}
use Rattle.serde_json.specs.View.{items_of}
use Rattle.serde_json.specs.Written.{compact_text}

-- a number
abbrev pub count : ℕ → Data
count n = number (unsigned n)

-- the text of a string (RFC 8259, section 7): of what a value's text can have, the quote and the backslash alone are
-- escaped, by a backslash before them
unfoldable pub string_text : List ℕ → List ℕ
string_text text = compact_text (string text)

-- the name of a field or a protocol
abbrev pub name_json : ℕ → Data
name_json field = string (row_of field).name

-- a field's value: a number, a truth value, or the text of any other
unfoldable pub value_json : ℕ → Value → Data
value_json field (values.Uint n) = count n
value_json field (values.Bool truth) = boolean truth
value_json field (values.Bytes bytes) = string (shown_value field (values.Bytes bytes))
value_json field (values.Text bytes) = string (shown_value field (values.Text bytes))
value_json field (values.Ether address) = string (shown_value field (values.Ether address))
value_json field (values.Ip4 address) = string (shown_value field (values.Ip4 address))
value_json field (values.Ip6 address) = string (shown_value field (values.Ip6 address))
value_json field (values.Time time) = string (shown_value field (values.Time time))
value_json field (values.Proto bytes) = string (shown_value field (values.Proto bytes))

-- an item with a place, and one without
unfoldable pub placed_json : Item → Span → Data
placed_json item span =
    object
    (member (codes "buf") (count span.buffer)
    (member (codes "name") (name_json item.field)
    (member (codes "pos") (count span.start)
    (member (codes "size") (count span.len)
    (member (codes "value") (value_json item.field item.value) no_members)))))

unfoldable pub made_json : Item → Data
made_json item =
    object
    (member (codes "name") (name_json item.field)
    (member (codes "value") (value_json item.field item.value) no_members))

abbrev pub item_at : Item → Place → Data
item_at item (places.Read span) = placed_json item span
item_at item (places.Derived span) = placed_json item span
item_at item places.Made = made_json item

unfoldable pub item_json : Item → Data
item_json item = item_at item item.place

unfoldable pub layer_json : Layer → Data
layer_json layer =
    object
    (member (codes "buf") (count layer.span.buffer)
    (member (codes "items") (array (items_of (map item_json layer.items)))
    (member (codes "nth") (count layer.nth)
    (member (codes "pos") (count layer.span.start)
    (member (codes "proto") (name_json layer.proto)
    (member (codes "size") (count layer.span.len) no_members))))))

-- a buffer in hexadecimal
unfoldable pub buffer_json : List ℕ → Data
buffer_json bytes = string (hex_shown bytes)

unfoldable pub tree_json : TreeShown → Data
tree_json t =
    object
    (member (codes "buffers") (array (items_of (map buffer_json t.buffers)))
    (member (codes "layers") (array (items_of (map layer_json t.layers))) no_members))

-- the line: the value's text without spaces, and a line feed, 10
unfoldable pub json_line_of : TreeShown → List ℕ
json_line_of t = compact_text (tree_json t) ++ 10 ∷ []

-- whether no text of such a value has a quote or a backslash
abbrev pub is_bare : Value → Truth
is_bare (values.Uint n) = true
is_bare (values.Bool truth) = true
is_bare (values.Bytes bytes) = true
is_bare (values.Text bytes) = false
is_bare (values.Ether address) = true
is_bare (values.Ip4 address) = true
is_bare (values.Ip6 address) = true
is_bare (values.Time time) = true
is_bare (values.Proto bytes) = true
