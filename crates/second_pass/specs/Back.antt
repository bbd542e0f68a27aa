-- Links to later frames, by what these tell of earlier ones: a layer is linked to the first frame that leads back to it, and to
-- no other. Lists have the newest first.
use Rattle.std.specs.Prelude.{◌≡◌, ◌≢◌, ◌⊎◌, ◌<◌, ◌≤◌, ◌==◌, ◌&&◌, ◌+◌, ◌/◌, ℕ, suc, Bool, true, false, not, if◌then◌else◌, List, [], ◌∷◌, ◌++◌, drop, Any, Option, Some, None}
use Rattle.std.specs.List.{AllByRecursion as Each, slice_get}
use Rattle.std.specs.Option.{option_map, unwrap_or}
use Rattle.pk_fields.specs.Ids.{IP, IP_FRAGMENT, IP_REASSEMBLED_IN, IP_SRC, IPV6, IPV6_FRAGHDR, IPV6_FRAGMENT, IPV6_REASSEMBLED_IN, IPV6_SRC, TCP, TCP_SEGMENT, TCP_REASSEMBLED_IN, TCP_SRCPORT, TCP_STREAM, DNS, DNS_ID, DNS_FLAGS_RESPONSE, DNS_RESPONSE_TO, DNS_RESPONSE_IN, HTTP, HTTP_REQUEST, HTTP_REQUEST_IN, HTTP_RESPONSE, HTTP_RESPONSE_CODE, HTTP_RESPONSE_IN}
use Rattle.pk_tree.specs.declared.item.Item.{Item}
use Rattle.pk_tree.specs.declared.layer.Layer.{Layer}
use Rattle.pk_base.specs.declared.value.Value.{Value}
use Rattle.pk_base.specs.declared.value.Value.TheVariants as values
use Rattle.pk_tree.specs.FieldValues.{item_values}
use Rattle.pk_tree.specs.Trees.{IsTree, TreeShown, made_of}
use Rattle.second_pass.specs.declared.messages.Direction.{Direction}
use Rattle.second_pass.specs.Forward.{forwarded}
use Rattle.second_pass.specs.Messages.{direction_in, same_direction}
use Rattle.second_pass.specs.Named.{Noted, address4_in, address6_in, noted_as, number_in, truth_in}

-- the least number with a property, if one has it
abbrev pub IsLeast : (ℕ → Type 0) → Option ℕ → Type 0
IsLeast Has None = (number : ℕ) → Has number → ⊥
IsLeast Has (Some least) = Has least × ((number : ℕ) → Has number → least ≤ number)

-- an element of a list, and those that came before it
abbrev pub CameAfter : {A : Type 0} → A → List A → List A → Type 0
CameAfter x earlier [] = ⊥
CameAfter x earlier (y ∷ ys) = ((y ≡ x) × (ys ≡ earlier)) ⊎ CameAfter x earlier ys

-- frames with rising numbers
abbrev pub AreInOrder : List Noted → Type 0
AreInOrder [] = Unit {0}
AreInOrder (noted ∷ past) =
    Each (λ (earlier : Noted). earlier.frame < noted.frame) past × AreInOrder past

-- a frame's layers are those of a tree
pub record IsOfTree (noted : Noted) : Type 0 where
  pub tree : TreeShown
  pub is : IsTree tree
  pub layers : noted.layers ≡ tree.layers

abbrev pub link_items : ℕ → Option ℕ → List Item
link_items field None = []
link_items field (Some frame) = made_of field (values.Uint frame) ∷ []

-- a layer has one item more, a link to the first frame that leads back to it, or stays as it is where none does
pub record IsLinked (LeadsBack : ℕ → Type 0) (field : ℕ) (layer : Layer) (new : Option Layer) : Type 0 where
  pub link : Option ℕ
  pub first : IsLeast LeadsBack link
  pub gets : new ≡ Some (record layer { items = layer.items ++ link_items field link })

-- the layer at a place of a frame's tree that has its links
abbrev pub linked_layer : List Noted → ℕ → TreeShown → ℕ → Option Layer
linked_layer past frame t place = slice_get (forwarded past frame t).layers place

-- a layer of a frame, and the direction of the stream in which the frame's segment goes
pub record Sent : Type 0 where
  pub frame : ℕ
  pub at : Direction
  pub layer : Layer

abbrev pub layers_sent : ℕ → Direction → List Layer → List Sent → List Sent
layers_sent frame at [] sent = sent
layers_sent frame at (layer ∷ layers) sent =
    layers_sent frame at layers (record { frame = frame; at = at; layer = layer } ∷ sent)

abbrev pub frame_sent : ℕ → Option Direction → List Layer → List Sent → List Sent
frame_sent frame None layers sent = sent
frame_sent frame (Some at) layers sent = layers_sent frame at layers sent

-- all layers of the frames that have segments
abbrev pub all_sent : List Noted → List Sent
all_sent [] = []
all_sent (noted ∷ past) =
    frame_sent noted.frame (direction_in noted.layers) noted.layers (all_sent past)

abbrev pub is_told : ℕ → Layer → Bool
is_told field layer = unwrap_or (truth_in field layer) false

abbrev pub is_request_layer : Layer → Bool
is_request_layer layer = layer.proto == HTTP && is_told HTTP_REQUEST layer

-- a status of the class 1xx (RFC 9110, 15.2)
abbrev pub is_informational : Layer → Bool
is_informational layer = unwrap_or (option_map (λ code. code / 100 == 1) (number_in HTTP_RESPONSE_CODE layer)) false

-- a response that ends an answer
abbrev pub is_final_response : Layer → Bool
is_final_response layer =
    layer.proto == HTTP
    && (not (is_told HTTP_REQUEST layer) && (is_told HTTP_RESPONSE layer && not (is_informational layer)))

-- how many layers of a direction there are, of those that pass
abbrev pub number_sent : (Layer → Bool) → Direction → List Sent → ℕ
number_sent test at [] = 0
number_sent test at (one ∷ sent) =
    if test one.layer && same_direction one.at at then number_sent test at sent + 1
    else number_sent test at sent

-- a response answers a request if its backward link names the request's frame, an earlier one, if it goes in the other direction
-- of the stream, and if it is the n-th final response of its direction where the request is the n-th of its own (RFC 9112, 9.3.2)
pub record IsAnswer (request : Sent) (before : List Sent) (response : Sent) (earlier : List Sent) : Type 0 where
  pub later : request.frame < response.frame
  pub final : is_final_response response.layer ≡ true
  pub link : number_in HTTP_REQUEST_IN response.layer ≡ Some request.frame
  pub stream : response.at.stream ≡ request.at.stream
  pub sender : response.at ≢ request.at
  pub turn : number_sent is_final_response response.at earlier ≡ number_sent is_request_layer request.at before

-- a frame has the answer to a request
pub record HasAnswer (request : Sent) (before all : List Sent) (frame : ℕ) : Type 0 where
  pub response : Sent
  pub earlier : List Sent
  pub came : CameAfter response earlier all
  pub number : response.frame ≡ frame
  pub answers : IsAnswer request before response earlier

-- requests of HTTP
abbrev pub RequestLinks : Type 0
RequestLinks =
    (past : List Noted) (request : Sent) (before : List Sent) (t : TreeShown) (place : ℕ)
    → AreInOrder past → Each IsOfTree past
    → CameAfter request before (all_sent past) → is_request_layer request.layer ≡ true
    → slice_get t.layers place ≡ Some request.layer
    → IsLinked (HasAnswer request before (all_sent past)) HTTP_RESPONSE_IN request.layer (linked_layer past request.frame t place)

-- a frame behind one has layers with a property
pub record HasLater (past : List Noted) (frame : ℕ) (Have : List Layer → Type 0) (later : ℕ) : Type 0 where
  pub noted : Noted
  pub earlier : List Noted
  pub came : CameAfter noted earlier past
  pub number : noted.frame ≡ later
  pub behind : frame < later
  pub have : Have noted.layers

pub record IsQuery (id : ℕ) (layer : Layer) : Type 0 where
  pub proto : layer.proto ≡ DNS
  pub flag : truth_in DNS_FLAGS_RESPONSE layer ≡ Some false
  pub numbered : number_in DNS_ID layer ≡ Some id

-- a response to the query of an id in a frame, which its backward link names
pub record IsResponseTo (frame id : ℕ) (layer : Layer) : Type 0 where
  pub proto : layer.proto ≡ DNS
  pub flag : truth_in DNS_FLAGS_RESPONSE layer ≡ Some true
  pub numbered : number_in DNS_ID layer ≡ Some id
  pub link : number_in DNS_RESPONSE_TO layer ≡ Some frame

-- queries of DNS
abbrev pub QueryLinks : Type 0
QueryLinks =
    (past : List Noted) (frame : ℕ) (t : TreeShown) (place : ℕ) (layer : Layer) (id : ℕ)
    → AreInOrder past → slice_get t.layers place ≡ Some layer → IsQuery id layer
    → IsLinked (HasLater past frame (Any (IsResponseTo frame id))) DNS_RESPONSE_IN layer (linked_layer past frame t place)

-- an item of a field with a number
pub record IsNumber (field number : ℕ) (item : Item) : Type 0 where
  pub of_field : item.field ≡ field
  pub value : item.value ≡ values.Uint number

abbrev pub HaveNumber : ℕ → ℕ → List Layer → Type 0
HaveNumber field number layers = Any (λ (layer : Layer). Any (IsNumber field number) layer.items) layers

-- layers that are asked for the first later frame that names theirs in a field, each with those behind it
abbrev pub NamedLinks : (name link : ℕ) → (Layer → List Layer → Type 0) → Type 0
NamedLinks name link IsAsked =
    (past : List Noted) (frame : ℕ) (t : TreeShown) (place : ℕ) (layer : Layer)
    → AreInOrder past → slice_get t.layers place ≡ Some layer
    → IsAsked layer (drop (suc place) t.layers)
    → IsLinked (HasLater past frame (HaveNumber name frame)) link layer (linked_layer past frame t place)

-- no header of a datagram's part
abbrev pub IsNoPart : Layer → Type 0
IsNoPart layer = (layer.proto ≢ IP) × (layer.proto ≢ IPV6_FRAGHDR)

abbrev pub IsLast : ℕ → Layer → List Layer → Type 0
IsLast proto layer behind = (layer.proto ≡ proto) × Each IsNoPart behind

abbrev pub IsFirstSegment : Layer → List Layer → Type 0
IsFirstSegment layer behind = (layer.proto ≡ TCP) × (layer.nth ≡ 1)

-- the last header of a datagram's part, whose frame is named by the one that joins it
abbrev pub PartLinks : Type 0
PartLinks = NamedLinks IP_FRAGMENT IP_REASSEMBLED_IN (IsLast IP)

abbrev pub Part6Links : Type 0
Part6Links = NamedLinks IPV6_FRAGMENT IPV6_REASSEMBLED_IN (IsLast IPV6_FRAGHDR)

-- the first header of a segment, whose frame is named by the one that shows a message with its bytes
abbrev pub SegmentLinks : Type 0
SegmentLinks = NamedLinks TCP_SEGMENT TCP_REASSEMBLED_IN IsFirstSegment

-- a layer of a frame that has no link to later ones, with those behind it: it is no request that was sent, no query, and no such
-- header
pub record AsksNothing (past : List Noted) (frame : ℕ) (layer : Layer) (behind : List Layer) : Type 0 where
  pub no_request : is_request_layer layer ≡ true → (request : Sent) (before : List Sent)
      → CameAfter request before (all_sent past) → is_request_layer request.layer ≡ true
      → request.frame ≡ frame → request.layer.nth ≡ layer.nth → ⊥
  pub no_query : (id : ℕ) → IsQuery id layer → ⊥
  pub no_part : IsLast IP layer behind → ⊥
  pub no_part6 : IsLast IPV6_FRAGHDR layer behind → ⊥
  pub no_segment : IsFirstSegment layer behind → ⊥

abbrev pub NoOtherLinks : Type 0
NoOtherLinks =
    (past : List Noted) (frame : ℕ) (t : TreeShown) (place : ℕ) (layer : Layer)
    → slice_get t.layers place ≡ Some layer
    → AsksNothing past frame layer (drop (suc place) t.layers)
    → linked_layer past frame t place ≡ Some layer

-- what links are read from: a layer's first value of a field
abbrev pub IsFirst : ℕ → Value → Layer → Type 0
IsFirst field value layer = slice_get (item_values field layer.items) 0 ≡ Some value

pub record ValuesRead : Type 0 where
  pub number : (field number : ℕ) (layer : Layer) → IsFirst field (values.Uint number) layer → number_in field layer ≡ Some number
  pub truth : (field : ℕ) (truth : Bool) (layer : Layer) → IsFirst field (values.Bool truth) layer → truth_in field layer ≡ Some truth
  pub address4 : (field address : ℕ) (layer : Layer) → IsFirst field (values.Ip4 address) layer → address4_in field layer ≡ Some address
  pub address6 : (field address : ℕ) (layer : Layer) → IsFirst field (values.Ip6 address) layer → address6_in field layer ≡ Some address

-- all layers of a tree are noted
abbrev pub LayersNoted : Type 0
LayersNoted = (frame : ℕ) (t : TreeShown) → noted_as frame t ≡ record { frame = frame; layers = t.layers }

-- the first header with a stream's number, and the last IP header before it
pub record IsSegment (layers : List Layer) (ip tcp : Layer) : Type 0 where
  pub before : List Layer
  pub between : List Layer
  pub behind : List Layer
  pub all : layers ≡ (before ++ ip ∷ between) ++ tcp ∷ behind
  pub first : Each (λ (layer : Layer). number_in TCP_STREAM layer ≡ None) (before ++ ip ∷ between)
  pub last : Each (λ (layer : Layer). (layer.proto ≢ IP) × (layer.proto ≢ IPV6)) between

-- what the direction of a frame's segment is told by
pub record IsSentFrom (ip tcp : Layer) (at : Direction) : Type 0 where
  pub stream : number_in TCP_STREAM tcp ≡ Some at.stream
  pub source : ((ip.proto ≡ IP) × (at.version ≡ 4) × (address4_in IP_SRC ip ≡ Some at.address))
      ⊎ ((ip.proto ≡ IPV6) × (at.version ≡ 6) × (address6_in IPV6_SRC ip ≡ Some at.address))
  pub port : number_in TCP_SRCPORT tcp ≡ Some at.port

abbrev pub DirectionsRead : Type 0
DirectionsRead =
    (layers : List Layer) (ip tcp : Layer) (at : Direction)
    → IsSegment layers ip tcp → IsSentFrom ip tcp at → direction_in layers ≡ Some at
