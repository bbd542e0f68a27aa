-- What holds of the links of all trees.
use Rattle.std.specs.Prelude.{◌≡◌, ℕ, true, List, [], ◌∷◌, map}
use Rattle.std.specs.List.{AllByRecursion as Each}
use Rattle.pk_fields.specs.FieldSets.{is_in}
use Rattle.pk_fields.specs.Ids.{IP_FRAGMENT, IP_REASSEMBLED_IN, IPV6_FRAGMENT, IPV6_REASSEMBLED_IN, TCP_SEGMENT, TCP_REASSEMBLED_IN, DNS_ID, DNS_FLAGS_RESPONSE, DNS_RESPONSE_TO, DNS_RESPONSE_IN, HTTP_REQUEST, HTTP_REQUEST_IN, HTTP_RESPONSE, HTTP_RESPONSE_CODE, HTTP_RESPONSE_IN, IP_SRC, IPV6_SRC, TCP_SRCPORT, TCP_STREAM}
use Rattle.pk_tree.specs.Trees.{TreeShown, kept_layer, kept_tree}
use Rattle.second_pass.specs.Forward.{forwarded}
use Rattle.second_pass.specs.Named.{Noted}

-- the fields that links are read from, and those that show them
abbrev pub link_fields : List ℕ
link_fields =
    IP_FRAGMENT ∷ IPV6_FRAGMENT ∷ TCP_SEGMENT ∷ DNS_ID ∷ DNS_FLAGS_RESPONSE ∷ DNS_RESPONSE_TO
    ∷ DNS_RESPONSE_IN ∷ IP_REASSEMBLED_IN ∷ IPV6_REASSEMBLED_IN ∷ TCP_REASSEMBLED_IN
    ∷ HTTP_REQUEST ∷ HTTP_RESPONSE ∷ HTTP_RESPONSE_CODE ∷ HTTP_REQUEST_IN ∷ HTTP_RESPONSE_IN
    ∷ TCP_STREAM ∷ TCP_SRCPORT ∷ IP_SRC ∷ IPV6_SRC ∷ []

-- a noted frame of which only the items of some fields are kept
abbrev pub kept_noted : List ℕ → Noted → Noted
kept_noted wanted noted = record noted { layers = map (kept_layer wanted) noted.layers }

-- trees that keep the items of some fields, these among them, get the links that the whole trees get
abbrev pub KeptLinks : Type 0
KeptLinks = (wanted : List ℕ) (past : List Noted) (frame : ℕ) (t : TreeShown)
    → Each (λ field. is_in wanted field ≡ true) link_fields
    → forwarded (map (kept_noted wanted) past) frame (kept_tree wanted t)
    ≡ kept_tree wanted (forwarded past frame t)
