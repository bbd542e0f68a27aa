-- The links that a tree gets to later frames.
use Rattle.std.specs.Prelude.{ℕ, zero, suc, ◌==◌, ◌||◌, length, Bool, false, if◌then◌else◌, List, [], ◌∷◌, ◌++◌, Option, Some, None}
use Rattle.std.specs.List.{list_any}
use Rattle.std.specs.Option.{option_map}
use Rattle.pk_fields.specs.Ids.{IP, IP_FRAGMENT, IP_REASSEMBLED_IN, IPV6_FRAGHDR, IPV6_FRAGMENT, IPV6_REASSEMBLED_IN, TCP, TCP_SEGMENT, TCP_REASSEMBLED_IN, DNS, DNS_ID, DNS_FLAGS_RESPONSE, DNS_RESPONSE_IN, HTTP, HTTP_RESPONSE_IN}
use Rattle.pk_tree.specs.declared.layer.Layer.{Layer}
use Rattle.pk_base.specs.declared.value.Value.TheVariants as values
use Rattle.pk_tree.specs.Trees.{TreeShown, made_of, with_item_at}
use Rattle.second_pass.specs.declared.messages.Kind.{Kind}
use Rattle.second_pass.specs.Messages.{is_request, kind_of, messages}
use Rattle.second_pass.specs.Replies.{reply_to}
use Rattle.second_pass.specs.Named.{Noted, oldest, names, has_answer, number_in, truth_in}

-- a link to a frame, and the field that shows it
abbrev pub link_in : ℕ → Option ℕ → Option (ℕ × ℕ)
link_in field frame = option_map (λ number. (field, number)) frame

-- the first later frame that answers a query
abbrev pub answer_to : List Noted → ℕ → Option Bool → Option ℕ → Option ℕ
answer_to past frame (Some false) (Some id) = oldest (has_answer (frame, id)) past
answer_to past frame response id = None

abbrev pub is_asking : Option Kind → Bool
is_asking None = false
is_asking (Some kind) = is_request kind

-- the link of a request of HTTP
abbrev pub request_link : List Noted → ℕ → Layer → Option (ℕ × ℕ)
request_link past frame layer =
    if is_asking (kind_of layer)
    then link_in HTTP_RESPONSE_IN (reply_to (messages past) (frame, layer.nth))
    else None

-- the header of a datagram's part
unfoldable pub is_part : Layer → Bool
is_part layer = layer.proto == IP || layer.proto == IPV6_FRAGHDR

-- the link of a frame's first TCP header
abbrev pub segment_link : List Noted → ℕ → Layer → Option (ℕ × ℕ)
segment_link past frame layer =
    if layer.nth == 1 then link_in TCP_REASSEMBLED_IN (oldest (names TCP_SEGMENT frame) past)
    else None

-- the link of a layer: of a query or a request to its first answer, of a part's last header, and of the first TCP header, to
-- the first later frame that names this one among those that brought its parts
abbrev pub link_of : List Noted → ℕ → Bool → Layer → Option (ℕ × ℕ)
link_of past frame followed layer =
    if layer.proto == DNS
    then link_in DNS_RESPONSE_IN
    (answer_to past frame (truth_in DNS_FLAGS_RESPONSE layer) (number_in DNS_ID layer))
    else if layer.proto == HTTP then request_link past frame layer
    else if layer.proto == TCP then segment_link past frame layer
    else if followed then None
    else if layer.proto == IP then link_in IP_REASSEMBLED_IN (oldest (names IP_FRAGMENT frame) past)
    else if layer.proto == IPV6_FRAGHDR
    then link_in IPV6_REASSEMBLED_IN (oldest (names IPV6_FRAGMENT frame) past)
    else None

abbrev pub with_link : Layer → Option (ℕ × ℕ) → Layer
with_link layer None = layer
with_link layer (Some link) =
    record layer { items = layer.items ++ made_of link.0 (values.Uint link.1) ∷ [] }

-- a tree whose layer at a place has a link
abbrev pub with_link_at : TreeShown → ℕ → Option (ℕ × ℕ) → TreeShown
with_link_at t at None = t
with_link_at t at (Some link) = with_item_at t at (made_of link.0 (values.Uint link.1))

-- layers of which the first so many have their links
abbrev pub linked : List Noted → ℕ → ℕ → List Layer → List Layer
linked past frame zero layers = layers
linked past frame (suc count) [] = []
linked past frame (suc count) (layer ∷ layers) =
    with_link layer (link_of past frame (list_any is_part layers) layer)
    ∷ linked past frame count layers

-- a frame's tree of which the first so many layers have their links
unfoldable pub forwarded_to : List Noted → ℕ → ℕ → TreeShown → TreeShown
forwarded_to past frame count t = record t { layers = linked past frame count t.layers }

-- a frame's tree with its links to later frames
abbrev pub forwarded : List Noted → ℕ → TreeShown → TreeShown
forwarded past frame t = forwarded_to past frame (length t.layers) t
