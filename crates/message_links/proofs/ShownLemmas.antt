-- The layers that show the links of their messages.
use Rattle.std.proofs.Common.{◌≡◌, ◌==◌, ◌-◌, ℕ, zero, suc, Bool, true, false, cond, List, [], ◌∷◌, get_or, slice_get, Option, Some, None, option_map, refl, ap, ◌∙◌}
use Rattle.std.proofs.lemmas.Bool.{eqb-true}
use Rattle.std.proofs.lemmas.Option.{get_or_from_slice_get, slice_get-map}
use Rattle.pk_fields.specs.FieldSets.{is_in}
use Rattle.pk_fields.specs.Ids.{DNS, DNS_RESPONSE_TO, HTTP, HTTP_REQUEST_IN}
use Rattle.pk_tree.specs.declared.layer.Layer.{Layer}
use Rattle.pk_tree.specs.Trees.{TreeShown}
use Rattle.message_links.specs.declared.linking.Link.{Link}
use Rattle.message_links.specs.Laws.{LinksShown, ShowsLinks, ShowsNoOthers}
use Rattle.message_links.specs.Linked.{layer_link, layer_linked, link_at, linked, wanted_link, with_link}

-- the layer at a place of a tree with the links of its messages
layer_there : (wanted : List ℕ) (links : List (Option ℕ)) (t : TreeShown) (place : ℕ) (layer : Layer) → slice_get t.layers place ≡ Some layer
    → slice_get (linked wanted links t).layers place ≡ Some (with_link layer (layer_link wanted links layer))
unfolding linked
layer_there wanted links t place layer is =
    slice_get-map (layer_linked wanted links) t.layers place ∙ ap (λ (o : Option Layer). option_map (layer_linked wanted links) o) is

abbrev link_by : List ℕ → Option ℕ → ℕ → Option Link
link_by wanted link proto =
    cond (proto == DNS) (wanted_link wanted DNS_RESPONSE_TO link) (cond (proto == HTTP) (wanted_link wanted HTTP_REQUEST_IN link) None)

asked_link : (wanted : List ℕ) (field frame : ℕ) → is_in wanted field ≡ true → wanted_link wanted field (Some frame) ≡ Some (record { field = field; frame = frame })
asked_link wanted field frame asked = ap (λ (b : Bool). cond b (Some (record { field = field; frame = frame })) None) asked

shows_dns : ShowsLinks DNS DNS_RESPONSE_TO
shows_dns wanted links t place layer frame is shown =
    layer_there wanted links t place layer is
    ∙ ap (λ (link : Option Link). Some (with_link layer link))
    (ap (λ (proto : ℕ). link_by wanted (link_at links layer) proto) shown.of_proto
    ∙ ap (λ (link : Option ℕ). wanted_link wanted DNS_RESPONSE_TO link) (get_or_from_slice_get links (layer.nth - 1) (Some frame) None shown.told)
    ∙ asked_link wanted DNS_RESPONSE_TO frame shown.asked)

shows_http : ShowsLinks HTTP HTTP_REQUEST_IN
shows_http wanted links t place layer frame is shown =
    layer_there wanted links t place layer is
    ∙ ap (λ (link : Option Link). Some (with_link layer link))
    (ap (λ (proto : ℕ). link_by wanted (link_at links layer) proto) shown.of_proto
    ∙ ap (λ (link : Option ℕ). wanted_link wanted HTTP_REQUEST_IN link) (get_or_from_slice_get links (layer.nth - 1) (Some frame) None shown.told)
    ∙ asked_link wanted HTTP_REQUEST_IN frame shown.asked)

told_at : (links : List (Option ℕ)) (place frame : ℕ) → get_or links place None ≡ Some frame → slice_get links place ≡ Some (Some frame)
told_at [] place frame is = absurd (cc)
told_at (link ∷ links) zero frame is = ap (λ (l : Option ℕ). Some l) is
told_at (link ∷ links) (suc place) frame is = told_at links place frame is

unasked_link : (wanted : List ℕ) (field : ℕ) (link : Option ℕ) → ((frame : ℕ) → link ≡ Some frame → is_in wanted field ≡ true → ⊥) → wanted_link wanted field link ≡ None
unasked_link wanted field None none = refl
unasked_link wanted field (Some frame) none = by (is_in wanted field) refl
  where
    by : (asked : Bool) → is_in wanted field ≡ asked → wanted_link wanted field (Some frame) ≡ None
    by true is = absurd (none frame refl is)
    by false is = ap (λ (b : Bool). cond b (Some (record { field = field; frame = frame })) None) is

shows_no_others : ShowsNoOthers
shows_no_others wanted links t place layer is no_dns no_http =
    layer_there wanted links t place layer is
    ∙ ap (λ (link : Option Link). Some (with_link layer link)) (by (layer.proto == DNS) refl (layer.proto == HTTP) refl)
  where
    by : (dns : Bool) → (layer.proto == DNS) ≡ dns → (http : Bool) → (layer.proto == HTTP) ≡ http
        → layer_link wanted links layer ≡ None
    by true dns_is http http_is =
        ap (λ (b : Bool). cond b (wanted_link wanted DNS_RESPONSE_TO (link_at links layer)) (cond (layer.proto == HTTP) (wanted_link wanted HTTP_REQUEST_IN (link_at links layer)) None)) dns_is
        ∙ unasked_link wanted DNS_RESPONSE_TO (link_at links layer) (λ frame told asked.
        no_dns frame (record { of_proto = eqb-true layer.proto DNS dns_is; asked = asked; told = told_at links (layer.nth - 1) frame told }))
    by false dns_is true http_is =
        (λ i. cond (dns_is i) (wanted_link wanted DNS_RESPONSE_TO (link_at links layer)) (cond (http_is i) (wanted_link wanted HTTP_REQUEST_IN (link_at links layer)) None))
        ∙ unasked_link wanted HTTP_REQUEST_IN (link_at links layer) (λ frame told asked.
        no_http frame (record { of_proto = eqb-true layer.proto HTTP http_is; asked = asked; told = told_at links (layer.nth - 1) frame told }))
    by false dns_is false http_is =
        λ i. cond (dns_is i) (wanted_link wanted DNS_RESPONSE_TO (link_at links layer)) (cond (http_is i) (wanted_link wanted HTTP_REQUEST_IN (link_at links layer)) None)

pub links_shown : LinksShown
links_shown = record { dns = shows_dns; http = shows_http; no_others = shows_no_others }
