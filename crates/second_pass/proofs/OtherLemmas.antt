-- Frames that show no message with links and name no other.
use Rattle.std.proofs.Common.{◌≡◌, ◌==◌, ◌&&◌, ◌||◌, ℕ, zero, suc, Bool, true, false, true≢false, nat_lt, if◌then◌else◌, List, [], ◌∷◌, length, Option, Some, None, is_some, option_map, option_and_then, unwrap_or, refl, sym, ap, ◌∙◌, subst}
use Rattle.std.specs.List.{AllByRecursion as Each, list_any}
use Rattle.std.specs.Option.{option_or}
use Rattle.pk_fields.specs.Ids.{DNS_FLAGS_RESPONSE, DNS_ID, DNS_RESPONSE_TO, IP, IP_FRAGMENT, IP_REASSEMBLED_IN, IPV6_FRAGHDR, IPV6_FRAGMENT, IPV6_REASSEMBLED_IN, TCP, TCP_REASSEMBLED_IN, TCP_SEGMENT}
use Rattle.pk_tree.specs.declared.item.Item.{Item}
use Rattle.pk_tree.specs.declared.layer.Layer.{Layer}
use Rattle.second_pass.specs.declared.messages.Direction.{Direction}
use Rattle.second_pass.specs.declared.messages.Message.{Message}
use Rattle.second_pass.specs.Forward.{forwarded_to, is_part, link_in, link_of, linked, with_link}
use Rattle.second_pass.specs.Messages.{frame_on, direction_in, kind_of, layers_on, message_of, messages, with_message}
use Rattle.second_pass.specs.Named.{Noted, answers, has_answer, has_number, is_number, is_query, names, names_in, number_in, oldest, truth_in}
use Rattle.second_pass.specs.Others.{IsOther, NamesNone, OthersPass, OthersStay, is_named}
use Rattle.second_pass.specs.Stands.{HasMessages, Stands}

-- ---- what isn't there

none_more : {A : Type 0} (o : Option A) → option_or o None ≡ o
none_more None = refl
none_more (Some x) = refl

none_of : {A : Type 0} (o : Option A) → is_some o ≡ false → o ≡ None
none_of None none = refl
none_of (Some x) none = absurd (true≢false none)

either_false : (a b : Bool) → (a || b) ≡ false → (a ≡ false) × (b ≡ false)
either_false true b none = absurd (true≢false none)
either_false false b none = (refl, none)

any_none : (A : Type 0) (test : A → Bool) (P : A → Type 0) → ((x : A) → P x → test x ≡ false) → (xs : List A) → Each P xs → list_any test xs ≡ false
any_none A test P none [] each = refl
any_none A test P none (x ∷ xs) each = ap (λ (b : Bool). b || list_any test xs) (none x each.0) ∙ any_none A test P none xs each.1

-- ---- it names none, and answers none

no_number : (field number : ℕ) (item : Item) → (item.field == field) ≡ false → has_number field number item ≡ false
no_number field number item other = ap (λ (b : Bool). b && is_number number item.value) other

no_names : (field : ℕ) → ((f : ℕ) → NamesNone f → (f == field) ≡ false) → (number : ℕ) (layers : List Layer) → Each IsOther layers → names_in field number layers ≡ false
no_names field other number layers each =
    any_none Layer (λ (layer : Layer). list_any (has_number field number) layer.items) IsOther
    (λ layer is. any_none Item (has_number field number) (λ (item : Item). NamesNone item.field) (λ item none. no_number field number item (other item.field none)) layer.items is.items) layers each

oldest_same : (test : Noted → Bool) (noted : Noted) (past : List Noted) → test noted ≡ false → oldest test (noted ∷ past) ≡ oldest test past
oldest_same test noted past none =
    ap (λ (b : Bool). option_or (oldest test past) (if b then Some noted.frame else None)) none ∙ none_more (oldest test past)

and_false : (a b : Bool) → b ≡ false → (a && b) ≡ false
and_false true b none = none
and_false false b none = refl

names_on : (field : ℕ) → ((f : ℕ) → NamesNone f → (f == field) ≡ false) → (noted : Noted) (past : List Noted) → Each IsOther noted.layers → (frame : ℕ) → oldest (names field frame) (noted ∷ past) ≡ oldest (names field frame) past
names_on field other noted past each frame =
    oldest_same (names field frame) noted past (and_false (nat_lt frame noted.frame) (names_in field frame noted.layers) (no_names field other frame noted.layers each))

no_answer : (query : ℕ × ℕ) (layer : Layer) → IsOther layer → answers query layer ≡ false
no_answer query layer is =
    ap (λ (b : Bool). is_query query (if b && unwrap_or (truth_in DNS_FLAGS_RESPONSE layer) false
    then option_and_then (λ frame. option_map (λ id. (frame, id)) (number_in DNS_ID layer)) (number_in DNS_RESPONSE_TO layer)
    else None)) is.dns

answers_on : (noted : Noted) (past : List Noted) → Each IsOther noted.layers → (query : ℕ × ℕ) → oldest (has_answer query) (noted ∷ past) ≡ oldest (has_answer query) past
answers_on noted past each query =
    oldest_same (has_answer query) noted past
    (and_false (nat_lt query.0 noted.frame) (list_any (answers query) noted.layers) (any_none Layer (answers query) IsOther (no_answer query) noted.layers each))

-- ---- it has no message of HTTP

no_kind : (layer : Layer) → IsOther layer → kind_of layer ≡ None
no_kind layer is = rw is.http refl

no_message : (frame : ℕ) (at : Direction) (layer : Layer) → IsOther layer → message_of frame at layer ≡ None
no_message frame at layer is = rw (no_kind layer is) refl

layers_same : (frame : ℕ) (at : Direction) (layers : List Layer) (ms : List Message) → Each IsOther layers → layers_on frame at layers ms ≡ ms
layers_same frame at [] ms each = refl
layers_same frame at (layer ∷ layers) ms each =
    ap (λ (m : Option Message). layers_on frame at layers (with_message m ms)) (no_message frame at layer each.0) ∙ layers_same frame at layers ms each.1

frame_same : (frame : ℕ) (at : Option Direction) (layers : List Layer) (ms : List Message) → Each IsOther layers → frame_on frame at layers ms ≡ ms
frame_same frame None layers ms each = refl
frame_same frame (Some at) layers ms each = layers_same frame at layers ms each

-- ---- links stand as before

pub others_pass : OthersPass
unfolding Stands
others_pass past noted links each stands =
    let has = stands.1 in (
      stands.0,
      record {
        fragments = λ frame. has.fragments frame ∙ sym (names_on IP_FRAGMENT (λ f none. none.part) noted past each frame);
        fragments6 = λ frame. has.fragments6 frame ∙ sym (names_on IPV6_FRAGMENT (λ f none. none.part6) noted past each frame);
        segments = λ frame. has.segments frame ∙ sym (names_on TCP_SEGMENT (λ f none. none.segment) noted past each frame);
        queries = λ query. has.queries query ∙ sym (answers_on noted past each query);
        messages = subst (λ (ms : List Message). HasMessages ms links.exchanges) (sym (frame_same noted.frame (direction_in noted.layers) noted.layers (messages past) each)) has.messages;
      },
    )

-- ---- it gets no link

link_none : (past : List Noted) (frame : ℕ) (followed : Bool) (layer : Layer) → is_named past frame ≡ false → IsOther layer → link_of past frame followed layer ≡ None
link_none past frame followed layer unnamed is =
    let part_or = is_some (oldest (names IP_FRAGMENT frame) past) in
    let part6_or = is_some (oldest (names IPV6_FRAGMENT frame) past) in
    let one = either_false (part_or || part6_or) (is_some (oldest (names TCP_SEGMENT frame) past)) unnamed in
    let two = either_false part_or part6_or one.0 in
    let part : oldest (names IP_FRAGMENT frame) past ≡ None = none_of (oldest (names IP_FRAGMENT frame) past) two.0 in
    let part6 : oldest (names IPV6_FRAGMENT frame) past ≡ None = none_of (oldest (names IPV6_FRAGMENT frame) past) two.1 in
    let segment : oldest (names TCP_SEGMENT frame) past ≡ None = none_of (oldest (names TCP_SEGMENT frame) past) one.1 in
    rw (is.dns, is.http) (by_proto (layer.proto == TCP) followed (layer.proto == IP) (layer.proto == IPV6_FRAGHDR) (layer.nth == 1) segment part part6)
  where
    either : (test : Bool) (one other : Option (ℕ × ℕ)) → one ≡ None → other ≡ None → (if test then one else other) ≡ None
    either true one other first second = first
    either false one other first second = second

    by_proto : (tcp followed ip fraghdr first : Bool) → oldest (names TCP_SEGMENT frame) past ≡ None → oldest (names IP_FRAGMENT frame) past ≡ None → oldest (names IPV6_FRAGMENT frame) past ≡ None
        → (if tcp then (if first then link_in TCP_REASSEMBLED_IN (oldest (names TCP_SEGMENT frame) past) else None)
        else if followed then None
        else if ip then link_in IP_REASSEMBLED_IN (oldest (names IP_FRAGMENT frame) past)
        else if fraghdr then link_in IPV6_REASSEMBLED_IN (oldest (names IPV6_FRAGMENT frame) past)
        else None) ≡ None
    by_proto tcp followed ip fraghdr first segment part part6 =
        either tcp _ _ (either first _ None (ap (link_in TCP_REASSEMBLED_IN) segment) refl)
        (either followed None _ refl
        (either ip _ _ (ap (link_in IP_REASSEMBLED_IN) part)
        (either fraghdr _ None (ap (link_in IPV6_REASSEMBLED_IN) part6) refl)))

linked_none : (past : List Noted) (frame : ℕ) → is_named past frame ≡ false → (count : ℕ) (layers : List Layer) → Each IsOther layers → linked past frame count layers ≡ layers
linked_none past frame unnamed zero layers each = refl
linked_none past frame unnamed (suc count) [] each = refl
linked_none past frame unnamed (suc count) (layer ∷ layers) each =
    ap (λ (link : Option (ℕ × ℕ)). with_link layer link ∷ linked past frame count layers) (link_none past frame (list_any is_part layers) layer unnamed each.0)
    ∙ ap (λ (rest : List Layer). layer ∷ rest) (linked_none past frame unnamed count layers each.1)

pub others_stay : OthersStay
unfolding forwarded_to
others_stay past frame t each unnamed = ap (λ (layers : List Layer). record t { layers = layers }) (linked_none past frame unnamed (length t.layers) t.layers each)
