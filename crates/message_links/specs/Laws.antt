-- Which earlier frame a message belongs to, said of each by itself. Lists have the newest first.
use Rattle.std.specs.Prelude.{◌≡◌, ◌≢◌, ◌↔◌, ◌&&◌, ◌<◌, ◌+◌, ◌-◌, ℕ, Bool, true, false, not, if◌then◌else◌, List, [], ◌∷◌, ◌++◌, length, take, count_by, slice_get, Option, Some, None}
use Rattle.std.specs.List.{AllByRecursion as Each}
use Rattle.std.specs.Option.{option_map}
use Rattle.stream_messages.specs.declared.shape.Shape.{Shape}
use Rattle.pk_fields.specs.FieldSets.{is_in}
use Rattle.pk_fields.specs.Ids.{DNS, DNS_FLAGS_RESPONSE, DNS_ID, DNS_RESPONSE_TO, HTTP, HTTP_REQUEST_IN}
use Rattle.pk_tree.specs.declared.layer.Layer.{Layer}
use Rattle.pk_base.specs.declared.value.Value.TheVariants as values
use Rattle.pk_tree.specs.Trees.{TreeShown, made_of}
use Rattle.pk_tree.specs.Values.{value_of}
use Rattle.message_links.specs.declared.notes.Direction.{Direction}
use Rattle.message_links.specs.declared.notes.Note.{Note}
use Rattle.message_links.specs.declared.notes.Note.TheVariants.{Query, Response, Request, Answer, Other}
use Rattle.message_links.specs.Linked.{linked}
use Rattle.message_links.specs.Links.{is_answer, is_request, link_of, links_of, same_direction}
use Rattle.message_links.specs.Notes.{Noted, dns_note, http_note}

-- how many messages of a direction there are, of those that pass
abbrev pub number_sent : (Note → Bool) → Direction → List Noted → ℕ
number_sent test at [] = 0
number_sent test at (n ∷ ns) = if test n.note && same_direction n.at at then number_sent test at ns + 1 else number_sent test at ns

-- a frame has the request that an answer of a direction is to, behind so many others: of the other side of its stream, behind as
-- many requests (RFC 9112, 9.3.2)
pub record HasRequest (ns : List Noted) (at : Direction) (number frame : ℕ) : Type 0 where
  pub newer : List Noted
  pub request : Noted
  pub earlier : List Noted
  pub all : newer ++ request ∷ earlier ≡ ns
  pub asks : request.note ≡ Request
  pub sender : request.at ≡ record at { side = not at.side }
  pub turn : number_sent is_request request.at earlier ≡ number
  pub of_frame : request.frame ≡ frame

-- a query of an id in the stream of a direction
abbrev pub IsQuery : Direction → ℕ → Noted → Type 0
IsQuery at id n = (n.note ≡ Query id) × (n.at.tcp ≡ at.tcp) × (n.at.stream ≡ at.stream)

-- a frame has the latest one
pub record HasQuery (ns : List Noted) (at : Direction) (id frame : ℕ) : Type 0 where
  pub newer : List Noted
  pub query : Noted
  pub earlier : List Noted
  pub all : newer ++ query ∷ earlier ≡ ns
  pub is : IsQuery at id query
  pub latest : Each (λ (n : Noted). IsQuery at id n → ⊥) newer
  pub of_frame : query.frame ≡ frame

-- an answer of HTTP behind so many of its direction
abbrev pub AnswersBelong : Type 0
AnswersBelong = (ns : List Noted) (at : Direction) (number frame : ℕ)
    → (link_of ns at number Answer ≡ Some frame) ↔ HasRequest ns at number frame

-- a response of DNS
abbrev pub ResponsesBelong : Type 0
ResponsesBelong = (ns : List Noted) (at : Direction) (number id frame : ℕ)
    → (link_of ns at number (Response id) ≡ Some frame) ↔ HasQuery ns at id frame

-- other messages
abbrev pub OthersStandAlone : Type 0
OthersStandAlone = (ns : List Noted) (at : Direction) (number : ℕ) (note : Note)
    → note ≢ Answer → ((id : ℕ) → note ≢ Response id) → link_of ns at number note ≡ None

-- what is counted of messages
pub record AreCounted : Type 0 where
  pub request : is_request Request ≡ true
  pub no_request : (note : Note) → note ≢ Request → is_request note ≡ false
  pub answer : is_answer Answer ≡ true
  pub no_answer : (note : Note) → note ≢ Answer → is_answer note ≡ false

-- each of a frame's messages has the link of the answers that its direction had before it
abbrev pub LinksByPlace : Type 0
LinksByPlace = (ns : List Noted) (at : Direction) (notes : List Note) (place : ℕ)
    → slice_get (links_of ns at notes) place
    ≡ option_map (λ note. link_of ns at (number_sent is_answer at ns + count_by is_answer (take place notes)) note) (slice_get notes place)

-- a layer of a protocol shows the link of its message: the n-th of a frame's messages is that of the n-th layer
pub record IsShown (proto field : ℕ) (wanted : List ℕ) (links : List (Option ℕ)) (layer : Layer) (frame : ℕ) : Type 0 where
  pub of_proto : layer.proto ≡ proto
  pub asked : is_in wanted field ≡ true
  pub told : slice_get links (layer.nth - 1) ≡ Some (Some frame)

-- as an item behind the layer's own
abbrev pub ShowsLinks : (proto field : ℕ) → Type 0
ShowsLinks proto field = (wanted : List ℕ) (links : List (Option ℕ)) (t : TreeShown) (place : ℕ) (layer : Layer) (frame : ℕ)
    → slice_get t.layers place ≡ Some layer → IsShown proto field wanted links layer frame
    → slice_get (linked wanted links t).layers place ≡ Some (record layer { items = layer.items ++ made_of field (values.Uint frame) ∷ [] })

-- other layers stay as they are
abbrev pub ShowsNoOthers : Type 0
ShowsNoOthers = (wanted : List ℕ) (links : List (Option ℕ)) (t : TreeShown) (place : ℕ) (layer : Layer)
    → slice_get t.layers place ≡ Some layer
    → ((frame : ℕ) → IsShown DNS DNS_RESPONSE_TO wanted links layer frame → ⊥)
    → ((frame : ℕ) → IsShown HTTP HTTP_REQUEST_IN wanted links layer frame → ⊥)
    → slice_get (linked wanted links t).layers place ≡ Some layer

pub record LinksShown : Type 0 where
  pub dns : ShowsLinks DNS DNS_RESPONSE_TO
  pub http : ShowsLinks HTTP HTTP_REQUEST_IN
  pub no_others : ShowsNoOthers

-- a message of DNS is noted as what the fields of its first four bytes tell, its id and whether it is a response
abbrev pub DnsTold : Type 0
DnsTold = (high low flags more : ℕ) (rest : List ℕ) → high < 256 → low < 256 → flags < 256
    → (id : ℕ) (response : Bool)
    → value_of DNS_ID (high ∷ low ∷ []) ≡ values.Uint id → value_of DNS_FLAGS_RESPONSE (flags ∷ more ∷ []) ≡ values.Bool response
    → dns_note (high ∷ low ∷ flags ∷ more ∷ rest) ≡ (if response then Response id else Query id)

abbrev pub DnsShort : Type 0
DnsShort = (bytes : List ℕ) → length bytes < 4 → dns_note bytes ≡ Other

-- an interim response ends no answer (RFC 9110, 15.2)
pub record HttpTold : Type 0 where
  pub request : (shape : Shape) → shape.request ≡ true → http_note shape ≡ Request
  pub interim : (shape : Shape) → shape.request ≡ false → shape.interim ≡ true → http_note shape ≡ Other
  pub answer : (shape : Shape) → shape.request ≡ false → shape.interim ≡ false → http_note shape ≡ Answer

pub record NotesTold : Type 0 where
  pub dns : DnsTold
  pub short : DnsShort
  pub http : HttpTold
