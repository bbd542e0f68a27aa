-- What trees of later frames name: frames that brought parts of them, and messages that they answer.
use Rattle.std.specs.Prelude.{ℕ, ◌==◌, ◌&&◌, nat_lt, Bool, false, if◌then◌else◌, List, [], ◌∷◌, Option, Some, None, option_and_then}
use Rattle.std.specs.List.{list_any, slice_get}
use Rattle.std.specs.Option.{option_map, option_or, unwrap_or}
use Rattle.pk_fields.specs.Ids.{DNS, DNS_ID, DNS_FLAGS_RESPONSE, DNS_RESPONSE_TO}
use Rattle.pk_tree.specs.declared.item.Item.{Item}
use Rattle.pk_tree.specs.declared.layer.Layer.{Layer}
use Rattle.pk_base.specs.declared.value.Value.{Value}
use Rattle.pk_base.specs.declared.value.Value.TheVariants as values
use Rattle.pk_tree.specs.FieldValues.{item_values}
use Rattle.pk_tree.specs.Trees.{TreeShown}

-- a frame whose tree was noted; noted frames are listed with the newest first
pub record Noted : Type 0 where
  pub frame : ℕ
  pub layers : List Layer

abbrev pub noted_as : ℕ → TreeShown → Noted
noted_as frame t = record { frame = frame; layers = t.layers }

-- the oldest noted frame with a property
abbrev pub oldest : (Noted → Bool) → List Noted → Option ℕ
oldest test [] = None
oldest test (noted ∷ past) = option_or (oldest test past) (if test noted then Some noted.frame else None)

abbrev pub is_number : ℕ → Value → Bool
is_number number (values.Uint n) = n == number
is_number number value = false

-- an item of a field that has a number
abbrev pub has_number : ℕ → ℕ → Item → Bool
has_number field number item = item.field == field && is_number number item.value

abbrev pub names_in : ℕ → ℕ → List Layer → Bool
names_in field number layers =
    list_any (λ (layer : Layer). list_any (has_number field number) layer.items) layers

-- a later frame that names one in a field
abbrev pub names : ℕ → ℕ → Noted → Bool
names field frame noted = nat_lt frame noted.frame && names_in field frame noted.layers

-- the first of a field's values in a layer, as a number, a truth or an address
abbrev pub first_value : List Value → Option Value
first_value values = slice_get values 0

abbrev pub number_of : Value → Option ℕ
number_of (values.Uint number) = Some number
number_of value = None

abbrev pub truth_of : Value → Option Bool
truth_of (values.Bool truth) = Some truth
truth_of value = None

abbrev pub address4_of : Value → Option ℕ
address4_of (values.Ip4 address) = Some address
address4_of value = None

abbrev pub address6_of : Value → Option ℕ
address6_of (values.Ip6 address) = Some address
address6_of value = None

abbrev pub number_in : ℕ → Layer → Option ℕ
number_in field layer = option_and_then number_of (first_value (item_values field layer.items))

abbrev pub truth_in : ℕ → Layer → Option Bool
truth_in field layer = option_and_then truth_of (first_value (item_values field layer.items))

abbrev pub address4_in : ℕ → Layer → Option ℕ
address4_in field layer =
    option_and_then address4_of (first_value (item_values field layer.items))

abbrev pub address6_in : ℕ → Layer → Option ℕ
address6_in field layer =
    option_and_then address6_of (first_value (item_values field layer.items))

abbrev pub is_response : Layer → Bool
is_response layer = layer.proto == DNS && unwrap_or (truth_in DNS_FLAGS_RESPONSE layer) false

abbrev pub same_query : ℕ × ℕ → ℕ × ℕ → Bool
same_query one other = one.0 == other.0 && one.1 == other.1

abbrev pub is_query : ℕ × ℕ → Option (ℕ × ℕ) → Bool
is_query query None = false
is_query query (Some answered) = same_query answered query

-- the query that a layer's response is to, by its frame and id
abbrev pub answered_by : Layer → Option (ℕ × ℕ)
answered_by layer =
    if is_response layer
    then option_and_then (λ frame. option_map (λ id. (frame, id)) (number_in DNS_ID layer))
    (number_in DNS_RESPONSE_TO layer)
    else None

-- a response to the query of an id in a frame
abbrev pub answers : ℕ × ℕ → Layer → Bool
answers query layer = is_query query (answered_by layer)

-- a later frame with such a response
abbrev pub has_answer : ℕ × ℕ → Noted → Bool
has_answer query noted = nat_lt query.0 noted.frame && list_any (answers query) noted.layers
