-- The line that sums up a frame: NUMBER TIME SOURCE -> TARGET PROTO LENGTH.
use Rattle.std.specs.Prelude.{ℕ, ◌==◌, Bool, not, ◌||◌, List, [], ◌∷◌, ◌++◌, reverse, codes, Option, Some, None, if◌then◌else◌}
use Rattle.std.specs.List.{find, slice_get}
use Rattle.std.specs.Option.{option_map, option_or, unwrap_or}
use Rattle.pk_fields.specs.Fields.{row_of}
use Rattle.pk_fields.specs.Ids.{FRAME_NUMBER, FRAME_TIME_RELATIVE, FRAME_LEN, ETH_SRC, ETH_DST, IP, IP_SRC, IP_DST, IPV6, IPV6_SRC, IPV6_DST, DATA, WS_SHORT, WS_MALFORMED}
use Rattle.pk_base.specs.declared.value.Value.{Value}
use Rattle.pk_tree.specs.declared.layer.Layer.{Layer}
use Rattle.pk_base.specs.declared.chosen.Layers.TheVariants.{All as AllLayers}
use Rattle.pk_tree.specs.FieldValues.{values_of, item_values}
use Rattle.pk_tree.specs.Trees.{TreeShown}
use Rattle.out_lines.specs.ValueText.{shown_value}

-- the first of some values
abbrev pub first_value : List Value → Option Value
first_value values = slice_get values 0

-- its text
abbrev pub first_shown : ℕ → List Value → Option (List ℕ)
first_shown field values = option_map (shown_value field) (first_value values)

-- the text of a field's first value in a tree
unfoldable pub first_in_tree : TreeShown → ℕ → Option (List ℕ)
first_in_tree t field = first_shown field (values_of t field AllLayers)

-- a text, or `-` where there is none
abbrev pub or_dash : Option (List ℕ) → List ℕ
or_dash text = unwrap_or text (codes "-")

-- the protocols of IP headers
abbrev pub is_ip_proto : ℕ → Bool
is_ip_proto proto = proto == IP || proto == IPV6

-- the first IP header
abbrev pub is_ip : Layer → Bool
is_ip layer = layer.proto == IP || layer.proto == IPV6

abbrev pub first_ip : TreeShown → Option Layer
first_ip t = find is_ip t.layers

-- an address of an IP header, in the field of its version
abbrev pub ip_address : ℕ → ℕ → Option Layer → Option (List ℕ)
ip_address four six None = None
ip_address four six (Some layer) =
    let field =
    if layer.proto == IP then four else six in first_shown field (item_values field layer.items)

-- the field of an IP header's version
abbrev pub version_field : ℕ → ℕ → ℕ → ℕ
version_field four six proto = if proto == IP then four else six

-- an address of the first IP header, where it has one, else the first of the link
unfoldable pub address_in : TreeShown → ℕ → ℕ → ℕ → List ℕ
address_in t four six link =
    or_dash (option_or (ip_address four six (first_ip t)) (first_in_tree t link))

-- data and faults are no protocols to tell
abbrev pub is_told : Layer → Bool
is_told layer =
    not (layer.proto == DATA || (layer.proto == WS_SHORT || layer.proto == WS_MALFORMED))

abbrev pub is_told_proto : ℕ → Bool
is_told_proto proto = not (proto == DATA || (proto == WS_SHORT || proto == WS_MALFORMED))

abbrev pub last_told : List Layer → Option Layer
last_told layers = find is_told (reverse layers)

-- the name of the last protocol
unfoldable pub protocol_of : TreeShown → List ℕ
protocol_of t =
    or_dash (option_map (λ (layer : Layer). (row_of layer.proto).name) (last_told t.layers))

-- the same by the protocols alone
abbrev pub last_name : List ℕ → List ℕ
last_name protos =
    or_dash (option_map (λ proto. (row_of proto).name) (find is_told_proto (reverse protos)))

-- NUMBER TIME SOURCE -> TARGET PROTO LENGTH, with a line feed, 10
abbrev pub times_of : TreeShown → List ℕ
times_of t =
    or_dash (first_in_tree t FRAME_NUMBER)
    ++ (codes " " ++ (or_dash (first_in_tree t FRAME_TIME_RELATIVE) ++ codes " "))

abbrev pub addresses_of : TreeShown → List ℕ
addresses_of t =
    address_in t IP_SRC IPV6_SRC ETH_SRC
    ++ (codes " -> " ++ (address_in t IP_DST IPV6_DST ETH_DST ++ codes " "))

unfoldable pub summary_of : TreeShown → List ℕ
summary_of t =
    times_of t ++ (addresses_of t
    ++ (protocol_of t ++ (codes " " ++ (or_dash (first_in_tree t FRAME_LEN) ++ 10 ∷ []))))
