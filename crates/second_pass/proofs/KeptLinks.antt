-- Trees that keep what links are read from get the same links.
use Rattle.std.proofs.Common.{◌≡◌, ◌==◌, ◌&&◌, ◌||◌, ℕ, zero, suc, Bool, true, false, cond, nat_lt, List, [], ◌∷◌, ◌++◌, length, map, Option, Some, None, option_map, option_and_then, unwrap_or, refl, sym, ap, ◌∙◌}
use Rattle.std.proofs.lemmas.Bool.{eqb-true}
use Rattle.std.proofs.lemmas.List.{length-map}
use Rattle.std.specs.List.{AllByRecursion as Each, list_any}
use Rattle.std.specs.Option.{option_or}
use Rattle.pk_fields.specs.FieldSets.{is_in}
use Rattle.pk_fields.specs.Ids.{IP, IP_FRAGMENT, IP_REASSEMBLED_IN, IPV6_FRAGHDR, IPV6_FRAGMENT, IPV6_REASSEMBLED_IN, TCP, TCP_SEGMENT, TCP_REASSEMBLED_IN, DNS, DNS_ID, DNS_FLAGS_RESPONSE, DNS_RESPONSE_TO, DNS_RESPONSE_IN, HTTP, HTTP_RESPONSE_IN}
use Rattle.pk_tree.specs.declared.item.Item.{Item}
use Rattle.pk_tree.specs.declared.layer.Layer.{Layer}
use Rattle.pk_base.specs.declared.value.Value.TheVariants as values
use Rattle.pk_tree.specs.Trees.{kept, kept_layer, kept_tree, made_of}
use Rattle.second_pass.specs.Forward.{link_in, answer_to, is_asking, is_part, request_link, link_of, with_link, linked, forwarded_to}
use Rattle.second_pass.specs.Laws.{KeptLinks, kept_noted, link_fields}
use Rattle.second_pass.specs.Messages.{kind_of}
use Rattle.second_pass.specs.Replies.{reply_to}
use Rattle.second_pass.proofs.KeptLayers.{number_same, truth_same}
use Rattle.second_pass.proofs.KeptMessages.{kind_same, messages_same}
use Rattle.second_pass.specs.Named.{Noted, oldest, has_number, is_number, names, number_in, truth_in, is_query, answered_by, answers, has_answer}

numbers_same : (wanted : List ℕ) (field number : ℕ) (items : List Item) → is_in wanted field ≡ true → list_any (has_number field number) (kept wanted items) ≡ list_any (has_number field number) items
unfolding kept
numbers_same wanted field number [] is = refl
numbers_same wanted field number (item ∷ items) is = by (numbers_same wanted field number items is) (is_in wanted item.field) refl
  where
    unlike : (test : Bool) → (item.field == field) ≡ test → is_in wanted item.field ≡ false → has_number field number item ≡ false
    unlike true same none =
        let both : is_in wanted item.field ≡ true = ap (λ f. is_in wanted f) (eqb-true item.field field same) ∙ is in
        absurd (cc)
    unlike false same none = ap (λ (b : Bool). b && is_number number item.value) same

    by : list_any (has_number field number) (kept wanted items) ≡ list_any (has_number field number) items → (test : Bool) → is_in wanted item.field ≡ test
        → list_any (has_number field number) (cond (is_in wanted item.field) (item ∷ kept wanted items) (kept wanted items)) ≡ (has_number field number item || list_any (has_number field number) items)
    by rest true has =
        ap (λ (b : Bool). list_any (has_number field number) (cond b (item ∷ kept wanted items) (kept wanted items))) has
        ∙ ap (λ (b : Bool). has_number field number item || b) rest
    by rest false none =
        ap (λ (b : Bool). list_any (has_number field number) (cond b (item ∷ kept wanted items) (kept wanted items))) none
        ∙ rest ∙ sym (ap (λ (b : Bool). b || list_any (has_number field number) items) (unlike (item.field == field) refl none))

kept_more : (wanted : List ℕ) (items : List Item) (item : Item) → is_in wanted item.field ≡ true → kept wanted (items ++ item ∷ []) ≡ kept wanted items ++ item ∷ []
unfolding kept
kept_more wanted [] item is = ap (λ (b : Bool). cond b (item ∷ []) []) is
kept_more wanted (first ∷ items) item is = by (is_in wanted first.field) (kept_more wanted items item is)
  where
    by : (b : Bool) → kept wanted (items ++ item ∷ []) ≡ kept wanted items ++ item ∷ []
        → cond b (first ∷ kept wanted (items ++ item ∷ [])) (kept wanted (items ++ item ∷ [])) ≡ cond b (first ∷ kept wanted items) (kept wanted items) ++ item ∷ []
    by true rest = ap (λ (is : List Item). first ∷ is) rest
    by false rest = rest

module _ (wanted : List ℕ) where
  any_same : (test : Layer → Bool) → ((layer : Layer) → test (kept_layer wanted layer) ≡ test layer) → (layers : List Layer) → list_any test (map (kept_layer wanted) layers) ≡ list_any test layers
  any_same test same [] = refl
  any_same test same (layer ∷ layers) = λ i. same layer i || any_same test same layers i

  oldest_same : (test : Noted → Bool) → ((noted : Noted) → test (kept_noted wanted noted) ≡ test noted) → (past : List Noted) → oldest test (map (kept_noted wanted) past) ≡ oldest test past
  oldest_same test same [] = refl
  oldest_same test same (noted ∷ past) = λ i. option_or (oldest_same test same past i) (cond (same noted i) (Some noted.frame) None)

  names_same : (field : ℕ) → is_in wanted field ≡ true → (frame : ℕ) (past : List Noted) → oldest (names field frame) (map (kept_noted wanted) past) ≡ oldest (names field frame) past
  names_same field is frame past = oldest_same (names field frame)
      (λ noted i. nat_lt frame noted.frame && any_same (λ layer. list_any (has_number field frame) layer.items) (λ layer. numbers_same wanted field frame layer.items is) noted.layers i) past

  answered_same : Each (λ field. is_in wanted field ≡ true) link_fields → (layer : Layer) → answered_by (kept_layer wanted layer) ≡ answered_by layer
  answered_same are layer = λ i.
      cond (layer.proto == DNS && unwrap_or (truth_same wanted DNS_FLAGS_RESPONSE are.1.1.1.1.0 layer i) false)
      (option_and_then (λ frame. option_map (λ id. (frame, id)) (number_same wanted DNS_ID are.1.1.1.0 layer i)) (number_same wanted DNS_RESPONSE_TO are.1.1.1.1.1.0 layer i)) None

  answers_same : Each (λ field. is_in wanted field ≡ true) link_fields → (query : ℕ × ℕ) (past : List Noted) → oldest (has_answer query) (map (kept_noted wanted) past) ≡ oldest (has_answer query) past
  answers_same are query past = oldest_same (has_answer query)
      (λ noted i. nat_lt query.0 noted.frame && any_same (answers query) (λ layer j. is_query query (answered_same are layer j)) noted.layers i) past

  answer_same : Each (λ field. is_in wanted field ≡ true) link_fields → (past : List Noted) (frame : ℕ) (truth : Option Bool) (id : Option ℕ) → answer_to (map (kept_noted wanted) past) frame truth id ≡ answer_to past frame truth id
  answer_same are past frame None id = refl
  answer_same are past frame (Some true) id = refl
  answer_same are past frame (Some false) None = refl
  answer_same are past frame (Some false) (Some id) = answers_same are (frame, id) past

  request_same : Each (λ field. is_in wanted field ≡ true) link_fields → (past : List Noted) (frame : ℕ) (layer : Layer) →
      request_link (map (kept_noted wanted) past) frame (kept_layer wanted layer) ≡ request_link past frame layer
  request_same are past frame layer = λ i.
      cond (is_asking (kind_same wanted are layer i)) (link_in HTTP_RESPONSE_IN (reply_to (messages_same wanted are past i) (frame, layer.nth))) None

  link_same : Each (λ field. is_in wanted field ≡ true) link_fields → (past : List Noted) (frame : ℕ) (followed : Bool) (layer : Layer) →
      link_of (map (kept_noted wanted) past) frame followed (kept_layer wanted layer) ≡ link_of past frame followed layer
  link_same are past frame followed layer =
      let query = ap (λ (truth : Option Bool). answer_to (map (kept_noted wanted) past) frame truth (number_in DNS_ID (kept_layer wanted layer))) (truth_same wanted DNS_FLAGS_RESPONSE are.1.1.1.1.0 layer)
      ∙ ap (λ (id : Option ℕ). answer_to (map (kept_noted wanted) past) frame (truth_in DNS_FLAGS_RESPONSE layer) id) (number_same wanted DNS_ID are.1.1.1.0 layer)
      ∙ answer_same are past frame (truth_in DNS_FLAGS_RESPONSE layer) (number_in DNS_ID layer) in
      λ i. cond (layer.proto == DNS) (link_in DNS_RESPONSE_IN (query i))
      (cond (layer.proto == HTTP) (request_same are past frame layer i)
      (cond (layer.proto == TCP) (cond (layer.nth == 1) (link_in TCP_REASSEMBLED_IN (names_same TCP_SEGMENT are.1.1.0 frame past i)) None)
      (cond followed None
      (cond (layer.proto == IP) (link_in IP_REASSEMBLED_IN (names_same IP_FRAGMENT are.0 frame past i))
      (cond (layer.proto == IPV6_FRAGHDR) (link_in IPV6_REASSEMBLED_IN (names_same IPV6_FRAGMENT are.1.0 frame past i)) None)))))

  -- a link is shown in a wanted field
  Shown : Option (ℕ × ℕ) → Type 0
  Shown None = Unit {0}
  Shown (Some link) = is_in wanted link.0 ≡ true

  shown_in : (field : ℕ) → is_in wanted field ≡ true → (frame : Option ℕ) → Shown (link_in field frame)
  unfolding Shown
  shown_in field is None = tt
  shown_in field is (Some frame) = is

  shown_by : (test : Bool) (one other : Option (ℕ × ℕ)) → Shown one → Shown other → Shown (cond test one other)
  shown_by true one other shown_one shown_other = shown_one
  shown_by false one other shown_one shown_other = shown_other

  nothing_shown : Shown None
  unfolding Shown
  nothing_shown = tt

  link_shown : Each (λ field. is_in wanted field ≡ true) link_fields → (past : List Noted) (frame : ℕ) (followed : Bool) (layer : Layer) → Shown (link_of past frame followed layer)
  link_shown are past frame followed layer =
      let fields = are.1.1.1.1.1.1 in
      shown_by (layer.proto == DNS) _ _ (shown_in DNS_RESPONSE_IN fields.0 _)
      (shown_by (layer.proto == HTTP) _ _ (shown_by (is_asking (kind_of layer)) _ _ (shown_in HTTP_RESPONSE_IN fields.1.1.1.1.1.1.1.1.0 _) nothing_shown)
      (shown_by (layer.proto == TCP) _ _ (shown_by (layer.nth == 1) _ _ (shown_in TCP_REASSEMBLED_IN fields.1.1.1.0 _) nothing_shown)
      (shown_by followed _ _ nothing_shown
      (shown_by (layer.proto == IP) _ _ (shown_in IP_REASSEMBLED_IN fields.1.0 _)
      (shown_by (layer.proto == IPV6_FRAGHDR) _ _ (shown_in IPV6_REASSEMBLED_IN fields.1.1.0 _) nothing_shown)))))

  kept_link : (layer : Layer) (link : Option (ℕ × ℕ)) → Shown link → with_link (kept_layer wanted layer) link ≡ kept_layer wanted (with_link layer link)
  unfolding Shown
  kept_link layer None shown = refl
  kept_link layer (Some link) shown =
      ap (λ (items : List Item). record layer { items = items }) (sym (kept_more wanted layer.items (made_of link.0 (values.Uint link.1)) shown))

  part_same : (layer : Layer) → is_part (kept_layer wanted layer) ≡ is_part layer
  unfolding is_part
  part_same layer = refl

  linked_same : Each (λ field. is_in wanted field ≡ true) link_fields → (past : List Noted) (frame count : ℕ) (layers : List Layer) →
      linked (map (kept_noted wanted) past) frame count (map (kept_layer wanted) layers) ≡ map (kept_layer wanted) (linked past frame count layers)
  linked_same are past frame zero layers = refl
  linked_same are past frame (suc count) [] = refl
  linked_same are past frame (suc count) (layer ∷ layers) =
      let first = ap (λ (followed : Bool). with_link (kept_layer wanted layer) (link_of (map (kept_noted wanted) past) frame followed (kept_layer wanted layer))) (any_same is_part part_same layers)
      ∙ ap (λ (link : Option (ℕ × ℕ)). with_link (kept_layer wanted layer) link) (link_same are past frame (list_any is_part layers) layer)
      ∙ kept_link layer (link_of past frame (list_any is_part layers) layer) (link_shown are past frame (list_any is_part layers) layer) in
      λ i. first i ∷ linked_same are past frame count layers i

pub links_same : KeptLinks
unfolding forwarded_to
links_same wanted past frame t are =
    ap (λ (count : ℕ). record (kept_tree wanted t) { layers = linked (map (kept_noted wanted) past) frame count (map (kept_layer wanted) t.layers) }) (length-map t.layers (kept_layer wanted))
    ∙ ap (λ (layers : List Layer). record (kept_tree wanted t) { layers = layers }) (linked_same wanted are past frame (length t.layers) t.layers)
