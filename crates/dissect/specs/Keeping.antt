-- What is kept of conversations, and for the values of which fields that is enough.
use Rattle.std.specs.Prelude.{◌≡◌, ◌==◌, ℕ, Bool, true, false, ◌&&◌, List, filter, Option, Some, None, IsSome}
use Rattle.pk_fields.specs.FieldSets.{is_in}
use Rattle.pk_fields.specs.Ids.{DNS_RESPONSE_TO, HTTP_REQUEST_IN, TCP_ACK, TCP_LOST, TCP_SEGMENT, TCP_SEQ, TCP_STREAM, UDP_STREAM, WS_MALFORMED, WS_SHORT, field_count}
use Rattle.pk_fields.specs.declared.rules.PortRule.{PortRule}
use Rattle.tcp_streams.specs.declared.segment.Segment.{Segment}
use Rattle.pk_fields.specs.declared.apps.App.{App}
use Rattle.app_layers.specs.declared.streamed.StreamApp.{StreamApp}
use Rattle.app_layers.specs.MessageLayers.{app_of_segment}
use Rattle.app_layers.specs.Rows.{framer_of, proto_of}
use Rattle.dissect.specs.declared.keeping.Follows.{Follows}
use Rattle.dissect.specs.declared.keeping.Follows.TheVariants.{Nothing, Places, One, Applications, Everything}
use Rattle.dissect.specs.declared.keeping.Keeping.{Keeping}
use Rattle.dissect.specs.Followed.{asks_any, asks_messages, asks_streams}

-- ---- which segments are taken into their streams

-- whether the messages of a stream are of a protocol
abbrev pub is_of : ℕ → Option StreamApp → Bool
is_of proto None = false
is_of proto (Some app) = proto_of app.app == proto

abbrev pub has_app : Option StreamApp → Bool
has_app None = false
has_app (Some app) = true

-- those of streams of a protocol's messages, or of any application
abbrev pub is_followed : Follows → Option StreamApp → Bool
is_followed Nothing app = false
is_followed Places app = false
is_followed (One only) app = is_of only app
is_followed Applications app = has_app app
is_followed Everything app = true

abbrev pub is_everything : Follows → Bool
is_everything Nothing = false
is_everything Places = false
is_everything (One only) = false
is_everything Applications = false
is_everything Everything = true

-- whether of all segments their places are told, and no byte is kept
abbrev pub tells_places : Follows → Bool
tells_places Nothing = false
tells_places Places = true
tells_places (One only) = false
tells_places Applications = false
tells_places Everything = false

-- whether of any streams segments are taken
abbrev pub takes_any : Follows → Bool
takes_any Nothing = false
takes_any Places = false
takes_any (One only) = true
takes_any Applications = true
takes_any Everything = true

-- the segments that streams stand for, among all
unfoldable pub followed_of : List PortRule → Follows → List Segment → List Segment
followed_of rules follows segments = filter (λ s. is_followed follows (app_of_segment rules s)) segments

-- everything is kept: messages are noted for links, which go by the numbers of conversations
abbrev pub keeps_all : Keeping → Bool
keeps_all keeps = is_everything keeps.follows && keeps.numbers

-- ---- for which fields

-- no segment's place in its stream is asked
pub record AsksNoPlaces (wanted : List ℕ) : Type 0 where
  pub stream : is_in wanted TCP_STREAM ≡ false
  pub seq : is_in wanted TCP_SEQ ≡ false
  pub ack : is_in wanted TCP_ACK ≡ false
  pub lost : is_in wanted TCP_LOST ≡ false

-- no link from a message to that of an earlier frame is asked
pub record AsksNoLinks (wanted : List ℕ) : Type 0 where
  pub dns : is_in wanted DNS_RESPONSE_TO ≡ false
  pub http : is_in wanted HTTP_REQUEST_IN ≡ false

-- nothing of an application is asked, unless it is of a protocol
abbrev pub IsOwnOrUnasked : ℕ → List ℕ → App → Type 0
IsOwnOrUnasked proto wanted app = (proto_of app == proto) ≡ false → asks_any field_count (proto_of app) wanted ≡ false

-- nothing of any other protocol is asked whose messages are in streams
abbrev pub AsksNoOthers : ℕ → List ℕ → Type 0
AsksNoOthers proto wanted = (app : App) → IsSome (framer_of app) → IsOwnOrUnasked proto wanted app

-- nothing of streams is asked but the messages of one protocol
pub record AsksOnly (proto : ℕ) (wanted : List ℕ) : Type 0 where
  pub places : AsksNoPlaces wanted
  pub segment : is_in wanted TCP_SEGMENT ≡ false
  pub short : is_in wanted WS_SHORT ≡ false
  pub malformed : is_in wanted WS_MALFORMED ≡ false
  pub others : AsksNoOthers proto wanted

-- nothing of streams is asked but messages: no place in a stream, nor what brought a message
pub record AsksMessagesAlone (wanted : List ℕ) : Type 0 where
  pub places : AsksNoPlaces wanted
  pub segment : is_in wanted TCP_SEGMENT ≡ false

abbrev pub FollowsEnough : Follows → List ℕ → Type 0
FollowsEnough Nothing wanted = asks_streams wanted ≡ false
FollowsEnough Places wanted = asks_messages wanted ≡ false
FollowsEnough (One only) wanted = AsksOnly only wanted
FollowsEnough Applications wanted = AsksMessagesAlone wanted
FollowsEnough Everything wanted = Unit {0}

-- what is kept is enough for the values of these fields
pub record KeepsFor (keeps : Keeping) (wanted : List ℕ) : Type 0 where
  pub streams : FollowsEnough keeps.follows wanted
  pub numbers : keeps.numbers ≡ false → is_in wanted UDP_STREAM ≡ false
  pub links : keeps_all keeps ≡ false → AsksNoLinks wanted

-- all conversations over UDP are numbered, everything is kept where these fields ask something of streams, and no byte is let go
pub record KeepsWhole (keeps : Keeping) (wanted : List ℕ) : Type 0 where
  pub numbers : keeps.numbers ≡ true
  pub all : asks_streams wanted ≡ true → keeps_all keeps ≡ true
  pub bytes : keeps.lets_go ≡ false
