-- Requests and responses of HTTP in the trees of frames, and the requests that these responses answer. Lists of messages have
-- the newest first.
use Rattle.std.specs.Prelude.{ℕ, ◌==◌, ◌&&◌, ◌||◌, ◌+◌, nat_le, nat_lt, not, Bool, true, false, if◌then◌else◌, List, [], ◌∷◌, take, reverse, position, Option, Some, None, is_some, option_and_then}
use Rattle.std.specs.List.{find, slice_get}
use Rattle.std.specs.Option.{option_map, unwrap_or}
use Rattle.pk_fields.specs.Ids.{HTTP, HTTP_REQUEST, HTTP_REQUEST_IN, HTTP_RESPONSE, HTTP_RESPONSE_CODE, IP, IP_SRC, IPV6, IPV6_SRC, TCP_SRCPORT, TCP_STREAM}
use Rattle.pk_tree.specs.declared.layer.Layer.{Layer}
use Rattle.second_pass.specs.declared.messages.Direction.{Direction}
use Rattle.second_pass.specs.declared.messages.Kind.{Kind}
use Rattle.second_pass.specs.declared.messages.Kind.TheVariants.{Request, Response}
use Rattle.second_pass.specs.declared.messages.Message.{Message}
use Rattle.second_pass.specs.Named.{Noted, address4_in, address6_in, number_in, truth_in}

infixl 10 ◌>>=◌
abbrev pub ◌>>=◌ : {A B : Type 0} → Option A → (A → Option B) → Option B
o >>= f = option_and_then f o

abbrev pub is_true : ℕ → Layer → Bool
is_true field layer = unwrap_or (truth_in field layer) false

abbrev pub in_100s : Option ℕ → Bool
in_100s None = false
in_100s (Some code) = nat_le 100 code && nat_lt code 200

-- an interim response ends no answer (RFC 9110, 15.2)
abbrev pub is_interim : Layer → Bool
is_interim layer = in_100s (number_in HTTP_RESPONSE_CODE layer)

-- what a layer of HTTP is: a request, or a final response, with the frame that its backward link names
abbrev pub kind_of : Layer → Option Kind
kind_of layer =
    if not (layer.proto == HTTP) then None
    else if is_true HTTP_REQUEST layer then Some Request
    else if not (is_true HTTP_RESPONSE layer) || is_interim layer then None
    else Some (Response (number_in HTTP_REQUEST_IN layer))

abbrev pub message_of : ℕ → Direction → Layer → Option Message
message_of frame at layer = do
  kind ← kind_of layer
  Some (record { frame = frame; nth = layer.nth; at = at; kind = kind })

abbrev pub is_ip : Layer → Bool
is_ip layer = layer.proto == IP || layer.proto == IPV6

abbrev pub has_stream : Layer → Bool
has_stream layer = is_some (number_in TCP_STREAM layer)

-- the source of an IP header, with its version
abbrev pub address_in : Layer → Option (ℕ × ℕ)
address_in header =
    if header.proto == IP then option_map (λ address. (4, address)) (address4_in IP_SRC header)
    else option_map (λ address. (6, address)) (address6_in IPV6_SRC header)

abbrev pub direction_of : Layer → Layer → Option Direction
direction_of header layer = do
  stream ← number_in TCP_STREAM layer
  source ← address_in header
  port ← number_in TCP_SRCPORT layer
  Some (record { stream = stream; version = source.0; address = source.1; port = port })

-- the direction of the segment at a place; its address is that of the last IP header before it
abbrev pub direction_at : List Layer → ℕ → Option Direction
direction_at layers at = do
  layer ← slice_get layers at
  header ← find is_ip (reverse (take at layers))
  direction_of header layer

-- the direction of a frame's messages: a stream, and the endpoint that sends. The first header with a stream's number tells it
unfoldable pub direction_in : List Layer → Option Direction
direction_in layers = do
  at ← position has_stream layers
  direction_at layers at

abbrev pub with_message : Option Message → List Message → List Message
with_message None ms = ms
with_message (Some m) ms = m ∷ ms

-- the messages of layers, in their order, behind earlier ones
abbrev pub layers_on : ℕ → Direction → List Layer → List Message → List Message
layers_on frame at [] ms = ms
layers_on frame at (layer ∷ layers) ms =
    layers_on frame at layers (with_message (message_of frame at layer) ms)

abbrev pub frame_on : ℕ → Option Direction → List Layer → List Message → List Message
frame_on frame None layers ms = ms
frame_on frame (Some at) layers ms = layers_on frame at layers ms

-- all messages of noted frames
abbrev pub messages : List Noted → List Message
messages [] = []
messages (noted ∷ past) =
    frame_on noted.frame (direction_in noted.layers) noted.layers (messages past)

abbrev pub same_direction : Direction → Direction → Bool
same_direction one other =
    one.stream == other.stream
    && (one.version == other.version && (one.address == other.address && one.port == other.port))

-- the other direction: of the same stream, from another endpoint
abbrev pub is_other : Direction → Direction → Bool
is_other one other = one.stream == other.stream && not (same_direction one other)

abbrev pub is_request : Kind → Bool
is_request Request = true
is_request (Response link) = false

-- how many messages of a direction there are, of the kind of those that pass
abbrev pub sent : (Kind → Bool) → List Message → Direction → ℕ
sent test [] at = 0
sent test (m ∷ ms) at =
    if test m.kind && same_direction m.at at then sent test ms at + 1 else sent test ms at

abbrev pub requests_sent : List Message → Direction → ℕ
requests_sent ms at = sent is_request ms at

abbrev pub responses_sent : List Message → Direction → ℕ
responses_sent ms at = sent (λ kind. not (is_request kind)) ms at
