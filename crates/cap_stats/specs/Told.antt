-- What the tables read in the tree of a frame.
use Rattle.std.specs.Prelude.{ℕ, zero, suc, length, ◌==◌, ◌||◌, ◌&&◌, min, max, Bool, if◌then◌else◌, List, [], ◌∷◌, take, reverse, map, codes, position, Option, Some, None, is_some, option_and_then}
use Rattle.std.specs.List.{find, slice_get, join_by}
use Rattle.std.specs.Option.{option_map, unwrap_or}
use Rattle.pk_fields.specs.Fields.{row_of}
use Rattle.pk_fields.specs.Ids.{FRAME_LEN, IP, IP_SRC, IP_DST, IPV6, IPV6_SRC, IPV6_DST, TCP_STREAM, TCP_SRCPORT, TCP_DSTPORT}
use Rattle.pk_base.specs.declared.value.Value.{Value}
use Rattle.pk_base.specs.declared.value.Value.TheVariants as values
use Rattle.pk_tree.specs.declared.layer.Layer.{Layer}
use Rattle.pk_base.specs.declared.heads.Address.{Address}
use Rattle.pk_base.specs.declared.heads.Address.TheVariants.{Four, Six}
use Rattle.pk_tree.specs.FieldValues.{item_values}
use Rattle.cap_stats.specs.declared.party.Party.{Party}
use Rattle.cap_stats.specs.declared.party.Flight.{Flight}

infixl 10 ◌>>=◌
abbrev pub ◌>>=◌ : {A B : Type 0} → Option A → (A → Option B) → Option B
o >>= f = option_and_then f o

-- the first of some values
abbrev pub first_value : List Value → Option Value
first_value values = slice_get values 0

-- a field's first value in a layer, as a number or an address
abbrev pub first_in : ℕ → Layer → Option Value
first_in field layer = first_value (item_values field layer.items)

abbrev pub number_of : Value → Option ℕ
number_of (values.Uint number) = Some number
number_of value = None

abbrev pub four_of : Value → Option ℕ
four_of (values.Ip4 address) = Some address
four_of value = None

abbrev pub six_of : Value → Option ℕ
six_of (values.Ip6 address) = Some address
six_of value = None

abbrev pub number_in : ℕ → Layer → Option ℕ
number_in field layer = option_and_then number_of (first_in field layer)

abbrev pub four_in : ℕ → Layer → Option ℕ
four_in field layer = option_and_then four_of (first_in field layer)

abbrev pub six_in : ℕ → Layer → Option ℕ
six_in field layer = option_and_then six_of (first_in field layer)

-- an address of an IP header, in the field of its version
abbrev pub address_in : ℕ → ℕ → Layer → Option Address
address_in four six layer =
    if layer.proto == IP then option_map Four (four_in four layer)
    else option_map Six (six_in six layer)

-- a frame's length on the wire: that of its first layer, the frame's own
unfoldable pub length_of : List Layer → ℕ
length_of layers =
    unwrap_or (option_and_then (number_in FRAME_LEN) (slice_get layers 0)) 0

abbrev pub is_ip : Layer → Bool
is_ip layer = layer.proto == IP || layer.proto == IPV6

abbrev pub has_stream : Layer → Bool
has_stream layer = is_some (number_in TCP_STREAM layer)

-- an end with a port
abbrev pub party_at : Address → ℕ → Party
party_at address port = record { address = address; port = Some port }

-- what the header of a stream's segment, behind an IP header, tells: the stream, and the frame's way
abbrev pub segment_of : List Layer → Layer → Layer → Option (ℕ × Flight)
segment_of layers header layer = do
  stream ← number_in TCP_STREAM layer
  source ← address_in IP_SRC IPV6_SRC header
  target ← address_in IP_DST IPV6_DST header
  from ← number_in TCP_SRCPORT layer
  to ← number_in TCP_DSTPORT layer
  Some (
    stream,
    record {
      from = party_at source from;
      to = party_at target to;
      bytes = length_of layers;
    },
  )

-- the segment at a place; its addresses are those of the last IP header before it
abbrev pub segment_at : List Layer → ℕ → Option (ℕ × Flight)
segment_at layers at = do
  layer ← slice_get layers at
  header ← find is_ip (reverse (take at layers))
  segment_of layers header layer

-- the segment that a tree shows: the first header with a stream's number
unfoldable pub stream_in : List Layer → Option (ℕ × Flight)
stream_in layers = do
  at ← position has_stream layers
  segment_at layers at

abbrev pub has_addresses : Layer → Bool
has_addresses layer =
    layer.proto == IP && (is_some (four_in IP_SRC layer) && is_some (four_in IP_DST layer))

-- two addresses, whichever of them sends
abbrev pub pair_of : ℕ → ℕ → ℕ × ℕ
pair_of source target = (min source target, max source target)

abbrev pub host : ℕ → Party
host address = record { address = Four address; port = None }

-- what an IPv4 header tells: the two addresses, and the frame's way
abbrev pub packet_of : List Layer → Layer → Option ((ℕ × ℕ) × Flight)
packet_of layers layer = do
  source ← four_in IP_SRC layer
  target ← four_in IP_DST layer
  Some (
    pair_of source target,
    record { from = host source; to = host target; bytes = length_of layers },
  )

-- the packet that a tree shows: its first IPv4 header that has both addresses
unfoldable pub packet_in : List Layer → Option ((ℕ × ℕ) × Flight)
packet_in layers = do
  layer ← find has_addresses layers
  packet_of layers layer

-- the protocols of a tree's first 32 layers
unfoldable pub protocols_in : List Layer → List ℕ
protocols_in layers = map (λ (layer : Layer). layer.proto) (take 32 layers)

-- protocols' names, joined by `:`
unfoldable pub path_of : List ℕ → List ℕ
path_of protocols = join_by (λ proto. (row_of proto).name) (codes ":") protocols

-- the paths of the first one, two, .. so many of some protocols, the longest first, each with a frame's length
abbrev pub paths_to : ℕ → List ℕ → ℕ → List (List ℕ × ℕ)
paths_to bytes protocols zero = []
paths_to bytes protocols (suc count) =
    (path_of (take (suc count) protocols), bytes) ∷ paths_to bytes protocols count

-- the paths that a tree shows: one for each nonempty front of its protocols
unfoldable pub paths_in : List Layer → List (List ℕ × ℕ)
paths_in layers =
    let protocols = protocols_in layers in
    paths_to (length_of layers) protocols (length protocols)
