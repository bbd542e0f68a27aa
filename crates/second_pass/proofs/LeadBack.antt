-- A layer is linked to the first frame that leads back to it.
use Rattle.std.proofs.Common.{◌≡◌, ◌==◌, ◌&&◌, ◌||◌, ◌<◌, ℕ, zero, suc, Bool, true, false, cond, nat_lt, List, [], ◌∷◌, ◌++◌, length, drop, Any, Option, Some, None, option_and_then, option_map, unwrap_or, refl, sym, ap, ◌∙◌, append-nil, arith}
use Rattle.std.proofs.lemmas.Bool.{and_parts, eq-eqb, eqb-true, eqb-false, false≢true, lt-ltb, ltb-true, ne_eqb, or_parts}
use Rattle.std.proofs.lemmas.List.Folds.{Any-from_list_any, list_any-from_Any}
use Rattle.std.proofs.lemmas.Option.{slice_get_within}
use Rattle.std.specs.List.{AllByRecursion as Each, list_any, slice_get}
use Rattle.pk_fields.specs.Ids.{IP, IP_FRAGMENT, IP_REASSEMBLED_IN, IPV6_FRAGHDR, IPV6_FRAGMENT, IPV6_REASSEMBLED_IN, TCP, TCP_SEGMENT, TCP_REASSEMBLED_IN, DNS, DNS_ID, DNS_FLAGS_RESPONSE, DNS_RESPONSE_TO, DNS_RESPONSE_IN, HTTP, HTTP_REQUEST, HTTP_RESPONSE_IN}
use Rattle.pk_tree.specs.declared.item.Item.{Item}
use Rattle.pk_tree.specs.declared.layer.Layer.{Layer}
use Rattle.pk_base.specs.declared.value.Value.{Value}
use Rattle.pk_base.specs.declared.value.Value.TheVariants as values
use Rattle.pk_tree.specs.Trees.{TreeShown}
use Rattle.second_pass.specs.declared.messages.Kind.{Kind}
use Rattle.second_pass.specs.Back.{AreInOrder, AsksNothing, HasAnswer, HasLater, HaveNumber, IsLeast, IsLinked, IsNoPart, IsNumber, IsResponseTo, NoOtherLinks, Part6Links, PartLinks, QueryLinks, RequestLinks, SegmentLinks, all_sent, is_request_layer, link_items, linked_layer}
use Rattle.second_pass.specs.Forward.{answer_to, forwarded_to, is_asking, is_part, link_in, link_of, linked, request_link, segment_link, with_link}
use Rattle.second_pass.specs.Messages.{is_true, messages}
use Rattle.second_pass.specs.Named.{Noted, answers, has_answer, has_number, is_number, is_query, names, names_in, number_in, oldest, truth_in}
use Rattle.second_pass.specs.Replies.{reply_to}
use Rattle.second_pass.proofs.FirstLemmas.{later_least}
use Rattle.second_pass.proofs.SentLemmas.{answer_least, none_sent, request_asks, request_kind}

-- the layer at a place of a tree that has its links
linked_there : (past : List Noted) (frame count place : ℕ) (layers : List Layer) (layer : Layer) → slice_get layers place ≡ Some layer → place < count
    → slice_get (linked past frame count layers) place ≡ Some (with_link layer (link_of past frame (list_any is_part (drop (suc place) layers)) layer))
linked_there past frame zero place layers layer is within = absurd (omega (arith, within))
linked_there past frame (suc count) place [] layer is within = absurd (cc)
linked_there past frame (suc count) zero (first ∷ layers) layer is within =
    let same : first ≡ layer = cc in
    ap (λ (l : Layer). Some (with_link l (link_of past frame (list_any is_part layers) l))) same
linked_there past frame (suc count) (suc place) (first ∷ layers) layer is within = linked_there past frame count place layers layer is (omega (arith, within))

layer_there : (past : List Noted) (frame : ℕ) (t : TreeShown) (place : ℕ) (layer : Layer) → slice_get t.layers place ≡ Some layer
    → linked_layer past frame t place ≡ Some (with_link layer (link_of past frame (list_any is_part (drop (suc place) t.layers)) layer))
unfolding forwarded_to
layer_there past frame t place layer is = linked_there past frame (length t.layers) place t.layers layer is (slice_get_within t.layers place layer is)

shown : (layer : Layer) (field : ℕ) (frame : Option ℕ) → with_link layer (link_in field frame) ≡ record layer { items = layer.items ++ link_items field frame }
shown layer field None = ap (λ (items : List Item). record layer { items = items }) (sym (append-nil layer.items))
shown layer field (Some frame) = refl

is_linked : (past : List Noted) (frame : ℕ) (t : TreeShown) (place : ℕ) (layer : Layer) (field : ℕ) (link : Option ℕ) (LeadsBack : ℕ → Type 0)
    → slice_get t.layers place ≡ Some layer
    → link_of past frame (list_any is_part (drop (suc place) t.layers)) layer ≡ link_in field link
    → IsLeast LeadsBack link → IsLinked LeadsBack field layer (linked_layer past frame t place)
is_linked past frame t place layer field link LeadsBack is link_is first = record {
  link = link;
  first = first;
  gets = layer_there past frame t place layer is ∙ (λ i. Some (with_link layer (link_is i))) ∙ ap (λ (l : Layer). Some l) (shown layer field link);
}

-- the link of a layer, by its protocol
abbrev link_by : List Noted → ℕ → Bool → Layer → ℕ → Option (ℕ × ℕ)
link_by past frame followed layer proto =
    cond (proto == DNS) (link_in DNS_RESPONSE_IN (answer_to past frame (truth_in DNS_FLAGS_RESPONSE layer) (number_in DNS_ID layer)))
    (cond (proto == HTTP) (request_link past frame layer)
    (cond (proto == TCP) (segment_link past frame layer)
    (cond followed None
    (cond (proto == IP) (link_in IP_REASSEMBLED_IN (oldest (names IP_FRAGMENT frame) past))
    (cond (proto == IPV6_FRAGHDR) (link_in IPV6_REASSEMBLED_IN (oldest (names IPV6_FRAGMENT frame) past)) None)))))

proto_link : (past : List Noted) (frame : ℕ) (followed : Bool) (layer : Layer) (proto : ℕ) → layer.proto ≡ proto
    → link_of past frame followed layer ≡ link_by past frame followed layer proto
proto_link past frame followed layer proto is = ap (λ (p : ℕ). link_by past frame followed layer p) is

-- requests of HTTP
pub request_links : RequestLinks
request_links past request before t place order trees came asks is =
    is_linked past request.frame t place request.layer HTTP_RESPONSE_IN (reply_to (messages past) (request.frame, request.layer.nth))
    (HasAnswer request before (all_sent past)) is
    (proto_link past request.frame (list_any is_part (drop (suc place) t.layers)) request.layer HTTP http
    ∙ ap (λ (kind : Option Kind). cond (is_asking kind) (link_in HTTP_RESPONSE_IN (reply_to (messages past) (request.frame, request.layer.nth))) None) (request_kind request.layer asks))
    (answer_least past request before order trees came asks)
  where
    http : request.layer.proto ≡ HTTP
    http = eqb-true request.layer.proto HTTP (and_parts (request.layer.proto == HTTP) (is_true HTTP_REQUEST request.layer) asks).0

any_same : {X : Type 0} (P Q : X → Type 0) → ((x : X) → P x → Q x) → (xs : List X) → Any P xs → Any Q xs
any_same P Q to xs any = (any.0, any.1, any.2, any.3, to any.1 any.4)

-- queries of DNS
answers_is : (frame id : ℕ) (layer : Layer) → answers (frame, id) layer ≡ true → IsResponseTo frame id layer
answers_is frame id layer is =
    by (layer.proto == DNS) refl (truth_in DNS_FLAGS_RESPONSE layer) refl (number_in DNS_RESPONSE_TO layer) refl (number_in DNS_ID layer) refl is
  where
    by : (dns : Bool) → (layer.proto == DNS) ≡ dns → (truth : Option Bool) → truth_in DNS_FLAGS_RESPONSE layer ≡ truth
        → (to : Option ℕ) → number_in DNS_RESPONSE_TO layer ≡ to → (number : Option ℕ) → number_in DNS_ID layer ≡ number
        → is_query (frame, id) (cond (dns && unwrap_or truth false) (option_and_then (λ f. option_map (λ n. (f, n)) number) to) None) ≡ true
        → IsResponseTo frame id layer
    by true dns_is (Some true) truth_is (Some to) to_is (Some number) number_is is =
        let parts = and_parts (to == frame) (number == id) is in
        record {
          proto = eqb-true layer.proto DNS dns_is;
          flag = truth_is;
          numbered = number_is ∙ ap (λ (n : ℕ). Some n) (eqb-true number id parts.1);
          link = to_is ∙ ap (λ (n : ℕ). Some n) (eqb-true to frame parts.0);
        }
    by true dns_is (Some true) truth_is (Some to) to_is None number_is is = absurd (false≢true is)
    by true dns_is (Some true) truth_is None to_is number number_is is = absurd (false≢true is)
    by true dns_is (Some false) truth_is to to_is number number_is is = absurd (false≢true is)
    by true dns_is None truth_is to to_is number number_is is = absurd (false≢true is)
    by false dns_is truth truth_is to to_is number number_is is = absurd (false≢true is)

is_answers : (frame id : ℕ) (layer : Layer) → IsResponseTo frame id layer → answers (frame, id) layer ≡ true
is_answers frame id layer r =
    (λ i. is_query (frame, id) (cond (eq-eqb layer.proto DNS r.proto i && unwrap_or (r.flag i) false) (option_and_then (λ f. option_map (λ n. (f, n)) (r.numbered i)) (r.link i)) None))
    ∙ (λ i. eq-eqb frame frame refl i && eq-eqb id id refl i)

pub query_links : QueryLinks
query_links past frame t place layer id order is query =
    is_linked past frame t place layer DNS_RESPONSE_IN (oldest (has_answer (frame, id)) past) (HasLater past frame (Any (IsResponseTo frame id))) is
    (proto_link past frame (list_any is_part (drop (suc place) t.layers)) layer DNS query.proto
    ∙ (λ i. link_in DNS_RESPONSE_IN (answer_to past frame (query.flag i) (query.numbered i))))
    (later_least past frame (has_answer (frame, id)) (Any (IsResponseTo frame id)) order to back)
  where
    to : (n : Noted) → has_answer (frame, id) n ≡ true → (frame < n.frame) × Any (IsResponseTo frame id) n.layers
    to n passes =
        let parts = and_parts (nat_lt frame n.frame) (list_any (answers (frame, id)) n.layers) passes in (
          ltb-true frame n.frame parts.0,
          any_same (λ (l : Layer). answers (frame, id) l ≡ true) (IsResponseTo frame id) (answers_is frame id) n.layers (Any-from_list_any (answers (frame, id)) n.layers parts.1),
        )

    back : (n : Noted) → frame < n.frame → Any (IsResponseTo frame id) n.layers → has_answer (frame, id) n ≡ true
    back n less any =
        let found : list_any (answers (frame, id)) n.layers ≡ true
        = list_any-from_Any (answers (frame, id)) n.layers (any_same (IsResponseTo frame id) (λ (l : Layer). answers (frame, id) l ≡ true) (is_answers frame id) n.layers any) in
        λ i. lt-ltb frame n.frame less i && found i

-- parts of datagrams and of messages
value_is : (number : ℕ) (value : Value) → is_number number value ≡ true → value ≡ values.Uint number
value_is number (values.Uint n) is = ap (λ (m : ℕ). values.Uint m) (eqb-true n number is)
value_is number value is = absurd (false≢true is)

number_is : (field number : ℕ) (item : Item) → has_number field number item ≡ true → IsNumber field number item
number_is field number item is =
    let parts = and_parts (item.field == field) (is_number number item.value) is in
    record { of_field = eqb-true item.field field parts.0; value = value_is number item.value parts.1 }

is_number_of : (field number : ℕ) (item : Item) → IsNumber field number item → has_number field number item ≡ true
is_number_of field number item is =
    (λ i. eq-eqb item.field field is.of_field i && is_number number (is.value i)) ∙ eq-eqb number number refl

module _ (field number : ℕ) where
  of_items : (layer : Layer) → list_any (has_number field number) layer.items ≡ true → Any (IsNumber field number) layer.items
  of_items layer is = any_same (λ (item : Item). has_number field number item ≡ true) (IsNumber field number) (number_is field number) layer.items
      (Any-from_list_any (has_number field number) layer.items is)

  items_of : (layer : Layer) → Any (IsNumber field number) layer.items → list_any (has_number field number) layer.items ≡ true
  items_of layer any = list_any-from_Any (has_number field number) layer.items
      (any_same (IsNumber field number) (λ (item : Item). has_number field number item ≡ true) (is_number_of field number) layer.items any)

  of_layers : (layers : List Layer) → names_in field number layers ≡ true → HaveNumber field number layers
  of_layers layers is =
      any_same (λ (layer : Layer). list_any (has_number field number) layer.items ≡ true) (λ (layer : Layer). Any (IsNumber field number) layer.items) of_items layers
      (Any-from_list_any (λ (layer : Layer). list_any (has_number field number) layer.items) layers is)

  names_of : (layers : List Layer) → HaveNumber field number layers → names_in field number layers ≡ true
  names_of layers any = list_any-from_Any (λ (layer : Layer). list_any (has_number field number) layer.items) layers
      (any_same (λ (layer : Layer). Any (IsNumber field number) layer.items) (λ (layer : Layer). list_any (has_number field number) layer.items ≡ true) items_of layers any)

  named_least : (past : List Noted) → AreInOrder past → IsLeast (HasLater past number (HaveNumber field number)) (oldest (names field number) past)
  named_least past order = later_least past number (names field number) (HaveNumber field number) order to back
    where
      to : (n : Noted) → names field number n ≡ true → (number < n.frame) × HaveNumber field number n.layers
      to n passes =
          let parts = and_parts (nat_lt number n.frame) (names_in field number n.layers) passes in
          (ltb-true number n.frame parts.0, of_layers n.layers parts.1)

      back : (n : Noted) → number < n.frame → HaveNumber field number n.layers → names field number n ≡ true
      back n less any =
          let found : names_in field number n.layers ≡ true = names_of n.layers any in
          λ i. lt-ltb number n.frame less i && found i

-- whether parts stand behind
none_behind : (layers : List Layer) → Each IsNoPart layers → list_any is_part layers ≡ false
unfolding is_part
none_behind [] each = refl
none_behind (layer ∷ layers) each =
    λ i. (ne_eqb layer.proto IP each.0.0 i || ne_eqb layer.proto IPV6_FRAGHDR each.0.1 i) || none_behind layers each.1 i

behind_none : (layers : List Layer) → list_any is_part layers ≡ false → Each IsNoPart layers
unfolding is_part
behind_none [] none = tt
behind_none (layer ∷ layers) none =
    let parts = or_parts (layer.proto == IP || layer.proto == IPV6_FRAGHDR) (list_any is_part layers) none in
    let protos = or_parts (layer.proto == IP) (layer.proto == IPV6_FRAGHDR) parts.0 in
    ((eqb-false layer.proto IP protos.0, eqb-false layer.proto IPV6_FRAGHDR protos.1), behind_none layers parts.1)

pub part_links : PartLinks
part_links past frame t place layer order is last =
    is_linked past frame t place layer IP_REASSEMBLED_IN (oldest (names IP_FRAGMENT frame) past) (HasLater past frame (HaveNumber IP_FRAGMENT frame)) is
    (proto_link past frame (list_any is_part (drop (suc place) t.layers)) layer IP last.0
    ∙ (λ i. link_by past frame (none_behind (drop (suc place) t.layers) last.1 i) layer IP))
    (named_least IP_FRAGMENT frame past order)

pub part6_links : Part6Links
part6_links past frame t place layer order is last =
    is_linked past frame t place layer IPV6_REASSEMBLED_IN (oldest (names IPV6_FRAGMENT frame) past) (HasLater past frame (HaveNumber IPV6_FRAGMENT frame)) is
    (proto_link past frame (list_any is_part (drop (suc place) t.layers)) layer IPV6_FRAGHDR last.0
    ∙ (λ i. link_by past frame (none_behind (drop (suc place) t.layers) last.1 i) layer IPV6_FRAGHDR))
    (named_least IPV6_FRAGMENT frame past order)

pub segment_links : SegmentLinks
segment_links past frame t place layer order is first =
    is_linked past frame t place layer TCP_REASSEMBLED_IN (oldest (names TCP_SEGMENT frame) past) (HasLater past frame (HaveNumber TCP_SEGMENT frame)) is
    (proto_link past frame (list_any is_part (drop (suc place) t.layers)) layer TCP first.0
    ∙ (λ i. cond (eq-eqb layer.nth 1 first.1 i) (link_in TCP_REASSEMBLED_IN (oldest (names TCP_SEGMENT frame) past)) None))
    (named_least TCP_SEGMENT frame past order)

-- layers that ask nothing
no_query : (past : List Noted) (frame : ℕ) (truth : Option Bool) (id : Option ℕ) → ((n : ℕ) → truth ≡ Some false → id ≡ Some n → ⊥) → answer_to past frame truth id ≡ None
no_query past frame None id none = refl
no_query past frame (Some true) id none = refl
no_query past frame (Some false) None none = refl
no_query past frame (Some false) (Some n) none = absurd (none n refl refl)

no_link : (past : List Noted) (frame : ℕ) (behind : List Layer) (layer : Layer) → AsksNothing past frame layer behind → link_of past frame (list_any is_part behind) layer ≡ None
no_link past frame behind layer asks =
    by (layer.proto == DNS) refl (layer.proto == HTTP) (layer.proto == TCP) refl (list_any is_part behind) refl (layer.proto == IP) refl (layer.proto == IPV6_FRAGHDR) refl
  where
    unasked : (asking : Bool) → is_request_layer layer ≡ asking → cond asking (link_in HTTP_RESPONSE_IN (reply_to (messages past) (frame, layer.nth))) None ≡ None
    unasked true is = ap (λ (link : Option ℕ). link_in HTTP_RESPONSE_IN link) (none_sent past frame layer.nth (asks.no_request is))
    unasked false is = refl

    by : (dns : Bool) → (layer.proto == DNS) ≡ dns → (http : Bool) → (tcp : Bool) → (layer.proto == TCP) ≡ tcp
        → (followed : Bool) → list_any is_part behind ≡ followed → (ip : Bool) → (layer.proto == IP) ≡ ip → (ip6 : Bool) → (layer.proto == IPV6_FRAGHDR) ≡ ip6
        → cond dns (link_in DNS_RESPONSE_IN (answer_to past frame (truth_in DNS_FLAGS_RESPONSE layer) (number_in DNS_ID layer)))
        (cond http (request_link past frame layer)
        (cond tcp (segment_link past frame layer)
        (cond followed None
        (cond ip (link_in IP_REASSEMBLED_IN (oldest (names IP_FRAGMENT frame) past))
        (cond ip6 (link_in IPV6_REASSEMBLED_IN (oldest (names IPV6_FRAGMENT frame) past)) None))))) ≡ None
    by true dns_is http tcp tcp_is followed followed_is ip ip_is ip6 ip6_is =
        ap (λ (link : Option ℕ). link_in DNS_RESPONSE_IN link)
        (no_query past frame (truth_in DNS_FLAGS_RESPONSE layer) (number_in DNS_ID layer)
        (λ id flag numbered. asks.no_query id (record { proto = eqb-true layer.proto DNS dns_is; flag = flag; numbered = numbered })))
    by false dns_is true tcp tcp_is followed followed_is ip ip_is ip6 ip6_is =
        ap (λ (b : Bool). cond b (link_in HTTP_RESPONSE_IN (reply_to (messages past) (frame, layer.nth))) None) (request_asks layer)
        ∙ unasked (is_request_layer layer) refl
    by false dns_is false true tcp_is followed followed_is ip ip_is ip6 ip6_is =
        ap (λ (b : Bool). cond b (link_in TCP_REASSEMBLED_IN (oldest (names TCP_SEGMENT frame) past)) None)
        (ne_eqb layer.nth 1 (λ one. asks.no_segment (eqb-true layer.proto TCP tcp_is, one)))
    by false dns_is false false tcp_is true followed_is ip ip_is ip6 ip6_is = refl
    by false dns_is false false tcp_is false followed_is true ip_is ip6 ip6_is =
        absurd (asks.no_part (eqb-true layer.proto IP ip_is, behind_none behind followed_is))
    by false dns_is false false tcp_is false followed_is false ip_is true ip6_is =
        absurd (asks.no_part6 (eqb-true layer.proto IPV6_FRAGHDR ip6_is, behind_none behind followed_is))
    by false dns_is false false tcp_is false followed_is false ip_is false ip6_is = refl

pub no_other_links : NoOtherLinks
no_other_links past frame t place layer is asks =
    layer_there past frame t place layer is
    ∙ ap (λ (link : Option (ℕ × ℕ)). Some (with_link layer link)) (no_link past frame (drop (suc place) t.layers) layer asks)
