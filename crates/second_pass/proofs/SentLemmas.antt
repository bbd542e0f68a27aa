-- Layers that frames sent, and the messages of HTTP that they show.
use Rattle.std.proofs.Common.{◌≡◌, ◌==◌, ◌&&◌, ◌||◌, ◌+◌, ◌/◌, ◌<◌, ◌≤◌, ◌⊎◌, ℕ, Bool, true, false, not, cond, nat_le, nat_lt, List, [], ◌∷◌, ◌++◌, Option, Some, None, option_and_then, option_map, unwrap_or, refl, sym, ap, ◌∙◌, subst, inl, inr, arith}
use Rattle.std.proofs.lemmas.Bool.{and_from, and_left, and_right, cases_lt, eq-eqb, eqb-false, eqb-true, false≢true, le-leb, le-ltb, lt-leb, lt-ltb}
use Rattle.std.proofs.lemmas.List.Sums.{sum_by_push}
use Rattle.std.specs.List.{AllByRecursion as Each}
use Rattle.pk_fields.specs.Ids.{HTTP, HTTP_REQUEST, HTTP_REQUEST_IN, HTTP_RESPONSE, HTTP_RESPONSE_CODE}
use Rattle.pk_tree.specs.declared.layer.Layer.{Layer}
use Rattle.pk_tree.specs.Trees.{LayersFit, layers_of}
use Rattle.second_pass.specs.declared.messages.Direction.{Direction}
use Rattle.second_pass.specs.declared.messages.Kind.{Kind}
use Rattle.second_pass.specs.declared.messages.Kind.TheVariants.{Request, Response}
use Rattle.second_pass.specs.declared.messages.Message.{Message}
use Rattle.second_pass.specs.Back.{AreInOrder, CameAfter, HasAnswer, IsLeast, IsOfTree, Sent, all_sent, frame_sent, is_final_response, is_informational, is_request_layer, layers_sent, number_sent}
use Rattle.second_pass.specs.Forward.{is_asking}
use Rattle.second_pass.specs.Messages.{direction_in, frame_on, in_100s, is_interim, is_request, is_true, kind_of, layers_on, message_of, messages, requests_sent, responses_sent, same_direction, sent, with_message}
use Rattle.second_pass.specs.Named.{Noted, number_in}
use Rattle.second_pass.specs.Replies.{reply_to}
use Rattle.second_pass.proofs.AnswerLemmas.{AreInTurn, HasReply, IsBefore, is_apart, none_asked, other_is, reply_least}
use Rattle.second_pass.proofs.FirstLemmas.{each_same, least_same}

-- a layer's kind, by what is read of it
abbrev kind_by : (http request response interim : Bool) → Option ℕ → Option Kind
kind_by http request response interim link =
    cond (not http) None (cond request (Some Request) (cond (not response || interim) None (Some (Response link))))

abbrev passes_kind : (Kind → Bool) → Option Kind → Bool
passes_kind test None = false
passes_kind test (Some kind) = test kind

request_by : (a b c d : Bool) (link : Option ℕ) → passes_kind is_request (kind_by a b c d link) ≡ (a && b)
request_by false b c d link = refl
request_by true true c d link = refl
request_by true false true true link = refl
request_by true false true false link = refl
request_by true false false d link = refl

response_by : (a b c d : Bool) (link : Option ℕ) → passes_kind (λ kind. not (is_request kind)) (kind_by a b c d link) ≡ (a && (not b && (c && not d)))
response_by false b c d link = refl
response_by true true c d link = refl
response_by true false true true link = refl
response_by true false true false link = refl
response_by true false false d link = refl

asked_by : (a b c d : Bool) (link : Option ℕ) → (a && b) ≡ true → kind_by a b c d link ≡ Some Request
asked_by false b c d link is = absurd (false≢true is)
asked_by true true c d link is = refl
asked_by true false c d link is = absurd (false≢true is)

final_by : (a b c d : Bool) (link : Option ℕ) → (a && (not b && (c && not d))) ≡ true → kind_by a b c d link ≡ Some (Response link)
final_by false b c d link is = absurd (false≢true is)
final_by true true c d link is = absurd (false≢true is)
final_by true false true true link is = absurd (false≢true is)
final_by true false true false link is = refl
final_by true false false d link is = absurd (false≢true is)

by_final : (a b c d : Bool) (link told : Option ℕ) → kind_by a b c d link ≡ Some (Response told) → ((a && (not b && (c && not d))) ≡ true) × (link ≡ told)
by_final false b c d link told is = absurd (cc)
by_final true true c d link told is = absurd (cc)
by_final true false true true link told is = absurd (cc)
by_final true false true false link told is = (refl, cc)
by_final true false false d link told is = absurd (cc)

http_by : (a b c d : Bool) (link : Option ℕ) (kind : Kind) → kind_by a b c d link ≡ Some kind → a ≡ true
http_by false b c d link kind is = absurd (cc)
http_by true b c d link kind is = refl

pub request_kind : (layer : Layer) → is_request_layer layer ≡ true → kind_of layer ≡ Some Request
request_kind layer is = asked_by (layer.proto == HTTP) (is_true HTTP_REQUEST layer) (is_true HTTP_RESPONSE layer) (is_interim layer) (number_in HTTP_REQUEST_IN layer) is

request_passes : (layer : Layer) → passes_kind is_request (kind_of layer) ≡ is_request_layer layer
request_passes layer = request_by (layer.proto == HTTP) (is_true HTTP_REQUEST layer) (is_true HTTP_RESPONSE layer) (is_interim layer) (number_in HTTP_REQUEST_IN layer)

pub request_asks : (layer : Layer) → is_asking (kind_of layer) ≡ is_request_layer layer
request_asks layer = by (kind_of layer) ∙ request_passes layer
  where
    by : (kind : Option Kind) → is_asking kind ≡ passes_kind is_request kind
    by None = refl
    by (Some kind) = refl

-- statuses from 100 to 199 are those of one class
class_is : (code : ℕ) → (nat_le 100 code && nat_lt code 200) ≡ (code / 100 == 1)
class_is code = by (code / 100 == 1) refl
  where
    by : (test : Bool) → (code / 100 == 1) ≡ test → (nat_le 100 code && nat_lt code 200) ≡ test
    by true is =
        let one : code / 100 ≡ 1 = eqb-true (code / 100) 1 is in
        and_from (nat_le 100 code) (nat_lt code 200) (le-leb 100 code (omega (arith, one))) (lt-ltb code 200 (omega (arith, one)))
    by false is = elim (cases_lt code 100) [
      | inl less ↦ and_left (nat_le 100 code) (nat_lt code 200) (lt-leb 100 code less)
      | inr low ↦ elim (cases_lt code 200) [
        | inl less ↦ absurd (eqb-false (code / 100) 1 is (omega (arith, low, less)))
        | inr past ↦ and_right (nat_le 100 code) (nat_lt code 200) (le-ltb code 200 past)
      ]
    ]

interim_is : (layer : Layer) → is_interim layer ≡ is_informational layer
interim_is layer = by (number_in HTTP_RESPONSE_CODE layer)
  where
    by : (code : Option ℕ) → in_100s code ≡ unwrap_or (option_map (λ n. n / 100 == 1) code) false
    by None = refl
    by (Some code) = class_is code

-- a final response, by what its kind is read from
abbrev is_final : Layer → Bool
is_final layer = layer.proto == HTTP && (not (is_true HTTP_REQUEST layer) && (is_true HTTP_RESPONSE layer && not (is_interim layer)))

final_is : (layer : Layer) → is_final layer ≡ is_final_response layer
final_is layer = λ i. layer.proto == HTTP && (not (is_true HTTP_REQUEST layer) && (is_true HTTP_RESPONSE layer && not (interim_is layer i)))

response_passes : (layer : Layer) → passes_kind (λ kind. not (is_request kind)) (kind_of layer) ≡ is_final_response layer
response_passes layer =
    response_by (layer.proto == HTTP) (is_true HTTP_REQUEST layer) (is_true HTTP_RESPONSE layer) (is_interim layer) (number_in HTTP_REQUEST_IN layer) ∙ final_is layer

final_kind : (layer : Layer) → is_final_response layer ≡ true → kind_of layer ≡ Some (Response (number_in HTTP_REQUEST_IN layer))
final_kind layer is =
    final_by (layer.proto == HTTP) (is_true HTTP_REQUEST layer) (is_true HTTP_RESPONSE layer) (is_interim layer) (number_in HTTP_REQUEST_IN layer) (final_is layer ∙ is)

kind_final : (layer : Layer) (link : Option ℕ) → kind_of layer ≡ Some (Response link) → (is_final_response layer ≡ true) × (number_in HTTP_REQUEST_IN layer ≡ link)
kind_final layer link is =
    let final = by_final (layer.proto == HTTP) (is_true HTTP_REQUEST layer) (is_true HTTP_RESPONSE layer) (is_interim layer) (number_in HTTP_REQUEST_IN layer) link is in
    (sym (final_is layer) ∙ final.0, final.1)

kind_http : (layer : Layer) (kind : Kind) → kind_of layer ≡ Some kind → layer.proto ≡ HTTP
kind_http layer kind is = eqb-true layer.proto HTTP (http_by (layer.proto == HTTP) (is_true HTTP_REQUEST layer) (is_true HTTP_RESPONSE layer) (is_interim layer) (number_in HTTP_REQUEST_IN layer) kind is)

-- a layer's message
abbrev message_as : Sent → Kind → Message
message_as s kind = record { frame = s.frame; nth = s.layer.nth; at = s.at; kind = kind }

abbrev message_by : Sent → Option Kind → Option Message
message_by s kind = option_and_then (λ k. Some (message_as s k)) kind

abbrev message_in : Sent → Option Message
message_in s = message_of s.frame s.at s.layer

abbrev messages_of : List Sent → List Message
messages_of [] = []
messages_of (s ∷ ss) = with_message (message_in s) (messages_of ss)

layers_same : (frame : ℕ) (at : Direction) (layers : List Layer) (ss : List Sent) → layers_on frame at layers (messages_of ss) ≡ messages_of (layers_sent frame at layers ss)
layers_same frame at [] ss = refl
layers_same frame at (layer ∷ layers) ss = layers_same frame at layers (record { frame = frame; at = at; layer = layer } ∷ ss)

frame_same : (frame : ℕ) (at : Option Direction) (layers : List Layer) (ss : List Sent) → frame_on frame at layers (messages_of ss) ≡ messages_of (frame_sent frame at layers ss)
frame_same frame None layers ss = refl
frame_same frame (Some at) layers ss = layers_same frame at layers ss

messages_same : (past : List Noted) → messages past ≡ messages_of (all_sent past)
messages_same [] = refl
messages_same (noted ∷ past) =
    ap (λ (ms : List Message). frame_on noted.frame (direction_in noted.layers) noted.layers ms) (messages_same past)
    ∙ frame_same noted.frame (direction_in noted.layers) noted.layers (all_sent past)

count_same : (test : Kind → Bool) (passes : Layer → Bool) → ((layer : Layer) → passes_kind test (kind_of layer) ≡ passes layer) → (at : Direction) (ss : List Sent)
    → sent test (messages_of ss) at ≡ number_sent passes at ss
count_same test passes same at [] = refl
count_same test passes same at (s ∷ ss) =
    by (kind_of s.layer)
    ∙ (λ i. cond (same s.layer i && same_direction s.at at) (count_same test passes same at ss i + 1) (count_same test passes same at ss i))
  where
    by : (kind : Option Kind) → sent test (with_message (message_by s kind) (messages_of ss)) at
        ≡ cond (passes_kind test kind && same_direction s.at at) (sent test (messages_of ss) at + 1) (sent test (messages_of ss) at)
    by None = refl
    by (Some kind) = refl

requests_same : (at : Direction) (ss : List Sent) → requests_sent (messages_of ss) at ≡ number_sent is_request_layer at ss
requests_same at ss = count_same is_request is_request_layer request_passes at ss

responses_same : (at : Direction) (ss : List Sent) → responses_sent (messages_of ss) at ≡ number_sent is_final_response at ss
responses_same at ss = count_same (λ kind. not (is_request kind)) is_final_response response_passes at ss

-- a layer and its message came at the same time
came_message : (s : Sent) (before ss : List Sent) (m : Message) → message_in s ≡ Some m → CameAfter s before ss → CameAfter m (messages_of before) (messages_of ss)
came_message s before [] m is came = absurd came
came_message s before (x ∷ ss) m is (inl same) =
    let one : message_in x ≡ Some m = ap (λ (y : Sent). message_in y) same.0 ∙ is in
    subst (λ (o : Option Message). CameAfter m (messages_of before) (with_message o (messages_of ss))) (sym one)
    (inl (refl, ap (λ (l : List Sent). messages_of l) same.1))
came_message s before (x ∷ ss) m is (inr came) = behind (message_in x) (came_message s before ss m is came)
  where
    behind : (o : Option Message) → CameAfter m (messages_of before) (messages_of ss) → CameAfter m (messages_of before) (with_message o (messages_of ss))
    behind None there = there
    behind (Some y) there = inr there

record IsSentAs (m : Message) (earlier : List Message) (ss : List Sent) : Type 0 where
  one : Sent
  before : List Sent
  came : CameAfter one before ss
  is : message_in one ≡ Some m
  rest : messages_of before ≡ earlier

sent_as : (m : Message) (earlier : List Message) (ss : List Sent) → CameAfter m earlier (messages_of ss) → IsSentAs m earlier ss
sent_as m earlier [] came = absurd came
sent_as m earlier (s ∷ ss) came = by (sent_as m earlier ss) (message_in s) refl came
  where
    more : IsSentAs m earlier ss → IsSentAs m earlier (s ∷ ss)
    more a = record { one = a.one; before = a.before; came = inr a.came; is = a.is; rest = a.rest }

    by : (CameAfter m earlier (messages_of ss) → IsSentAs m earlier ss) → (o : Option Message) → message_in s ≡ o
        → CameAfter m earlier (with_message o (messages_of ss)) → IsSentAs m earlier (s ∷ ss)
    by again None is came = more (again came)
    by again (Some x) is (inl same) =
        record { one = s; before = ss; came = inl (refl, refl); is = is ∙ ap (λ (y : Message). Some y) same.0; rest = same.1 }
    by again (Some x) is (inr came) = more (again came)

record IsMessageOf (s : Sent) (m : Message) : Type 0 where
  frame : s.frame ≡ m.frame
  nth : s.layer.nth ≡ m.nth
  at : s.at ≡ m.at
  kind : kind_of s.layer ≡ Some m.kind

message_is : (s : Sent) (m : Message) → message_in s ≡ Some m → IsMessageOf s m
message_is s m is = by (kind_of s.layer) refl is
  where
    by : (kind : Option Kind) → kind_of s.layer ≡ kind → message_by s kind ≡ Some m → IsMessageOf s m
    by None kind_is is = absurd (cc)
    by (Some kind) kind_is is =
        let same : message_as s kind ≡ m = cc in
        record {
          frame = ap (λ (x : Message). x.frame) same;
          nth = ap (λ (x : Message). x.nth) same;
          at = ap (λ (x : Message). x.at) same;
          kind = kind_is ∙ ap (λ (x : Message). Some x.kind) same;
        }

-- messages of trees in their order are in turn
abbrev IsBelow : ℕ → Direction → List Layer → Message → Type 0
IsBelow frame at before e = (e.frame < frame) ⊎ (e.frame ≡ frame) × (e.at ≡ at) × (e.nth ≤ layers_of HTTP before)

abbrev sent_one : ℕ → Direction → Layer → Sent
sent_one frame at layer = record { frame = frame; at = at; layer = layer }

one_turn : (frame : ℕ) (at : Direction) (before : List Layer) (layer : Layer) (ms : List Message) → layer.nth ≡ layers_of layer.proto before + 1
    → Each (λ (e : Message). IsBelow frame at before e) ms → AreInTurn ms
    → Each (λ (e : Message). IsBelow frame at (before ++ layer ∷ []) e) (with_message (message_of frame at layer) ms) × AreInTurn (with_message (message_of frame at layer) ms)
one_turn frame at before layer ms numbered below turn = by (kind_of layer) refl
  where
    pushed : layers_of HTTP (before ++ layer ∷ []) ≡ layers_of HTTP before + cond (layer.proto == HTTP) 1 0
    pushed = sum_by_push (λ (l : Layer). cond (l.proto == HTTP) 1 0) before layer

    further : (e : Message) → IsBelow frame at before e → IsBelow frame at (before ++ layer ∷ []) e
    further e (inl less) = inl less
    further e (inr own) = let low : e.nth ≤ layers_of HTTP before = own.2 in inr (own.0, own.1, omega (arith, low, pushed))

    all_further : Each (λ (e : Message). IsBelow frame at (before ++ layer ∷ []) e) ms
    all_further = each_same (λ (e : Message). IsBelow frame at before e) (λ (e : Message). IsBelow frame at (before ++ layer ∷ []) e) further ms below

    sooner : (kind : Kind) → layer.nth ≡ layers_of HTTP before + 1 → (e : Message) → IsBelow frame at before e → IsBefore e (message_as (sent_one frame at layer) kind)
    sooner kind number e (inl less) = inl less
    sooner kind number e (inr own) = let low : e.nth ≤ layers_of HTTP before = own.2 in inr (own.0, own.1, omega (arith, low, number))

    by : (kind : Option Kind) → kind_of layer ≡ kind
        → Each (λ (e : Message). IsBelow frame at (before ++ layer ∷ []) e) (with_message (message_by (sent_one frame at layer) kind) ms)
        × AreInTurn (with_message (message_by (sent_one frame at layer) kind) ms)
    by None is = (all_further, turn)
    by (Some kind) is =
        let http : layer.proto ≡ HTTP = kind_http layer kind is in
        let number : layer.nth ≡ layers_of HTTP before + 1 = numbered ∙ ap (λ (p : ℕ). layers_of p before + 1) http in
        let one : layers_of HTTP (before ++ layer ∷ []) ≡ layers_of HTTP before + 1
        = pushed ∙ (λ i. layers_of HTTP before + cond (eq-eqb layer.proto HTTP http i) 1 0) in (
          (inr (refl, refl, omega (arith, number, one)), all_further),
          (each_same (λ (e : Message). IsBelow frame at before e) (λ (e : Message). IsBefore e (message_as (sent_one frame at layer) kind)) (sooner kind number) ms below, turn),
        )

layers_turn : (buffers : List (List ℕ)) (frame : ℕ) (at : Direction) (before layers : List Layer) (ms : List Message) → LayersFit buffers before layers
    → Each (λ (e : Message). IsBelow frame at before e) ms → AreInTurn ms → AreInTurn (layers_on frame at layers ms)
layers_turn buffers frame at before [] ms fit below turn = turn
layers_turn buffers frame at before (layer ∷ layers) ms fit below turn =
    let next = one_turn frame at before layer ms fit.0.nth below turn in
    layers_turn buffers frame at (before ++ layer ∷ []) layers (with_message (message_of frame at layer) ms) fit.1 next.0 next.1

-- messages of earlier frames
message_below : (most frame : ℕ) (at : Direction) (layer : Layer) (ms : List Message) → frame < most
    → Each (λ (e : Message). e.frame < most) ms → Each (λ (e : Message). e.frame < most) (with_message (message_of frame at layer) ms)
message_below most frame at layer ms less below = by (kind_of layer)
  where
    by : (kind : Option Kind) → Each (λ (e : Message). e.frame < most) (with_message (message_by (sent_one frame at layer) kind) ms)
    by None = below
    by (Some kind) = (less, below)

layers_below : (most frame : ℕ) (at : Direction) (layers : List Layer) (ms : List Message) → frame < most
    → Each (λ (e : Message). e.frame < most) ms → Each (λ (e : Message). e.frame < most) (layers_on frame at layers ms)
layers_below most frame at [] ms less below = below
layers_below most frame at (layer ∷ layers) ms less below =
    layers_below most frame at layers (with_message (message_of frame at layer) ms) less (message_below most frame at layer ms less below)

frame_below : (most frame : ℕ) (at : Option Direction) (layers : List Layer) (ms : List Message) → frame < most
    → Each (λ (e : Message). e.frame < most) ms → Each (λ (e : Message). e.frame < most) (frame_on frame at layers ms)
frame_below most frame None layers ms less below = below
frame_below most frame (Some at) layers ms less below = layers_below most frame at layers ms less below

messages_below : (most : ℕ) (past : List Noted) → Each (λ (earlier : Noted). earlier.frame < most) past → Each (λ (e : Message). e.frame < most) (messages past)
messages_below most [] below = tt
messages_below most (noted ∷ past) below =
    frame_below most noted.frame (direction_in noted.layers) noted.layers (messages past) below.0 (messages_below most past below.1)

messages_turn : (past : List Noted) → AreInOrder past → Each IsOfTree past → AreInTurn (messages past)
messages_turn [] order trees = tt
messages_turn (noted ∷ past) order trees =
    by (direction_in noted.layers) (messages_turn past order.1 trees.1) (messages_below noted.frame past order.0)
  where
    fit : LayersFit trees.0.tree.buffers [] noted.layers
    fit = subst (λ (ls : List Layer). LayersFit trees.0.tree.buffers [] ls) (sym trees.0.layers) trees.0.is.layers

    by : (at : Option Direction) → AreInTurn (messages past) → Each (λ (e : Message). e.frame < noted.frame) (messages past)
        → AreInTurn (frame_on noted.frame at noted.layers (messages past))
    by None turn below = turn
    by (Some at) turn below =
        layers_turn trees.0.tree.buffers noted.frame at [] noted.layers (messages past) fit
        (each_same (λ (e : Message). e.frame < noted.frame) (λ (e : Message). IsBelow noted.frame at [] e) (λ e less. inl less) (messages past) below) turn

-- the frame with the first answer to a request
pub answer_least : (past : List Noted) (request : Sent) (before : List Sent) → AreInOrder past → Each IsOfTree past → CameAfter request before (all_sent past)
    → is_request_layer request.layer ≡ true
    → IsLeast (HasAnswer request before (all_sent past)) (reply_to (messages past) (request.frame, request.layer.nth))
answer_least past request before order trees came asks =
    least_same (HasReply q (messages_of before) (messages past)) (HasAnswer request before (all_sent past)) to back
    (reply_to (messages past) (request.frame, request.layer.nth))
    (reply_least q (messages_of before) (messages past) (messages_turn past order trees) asked refl)
  where
    q : Message
    q = message_as request Request

    of_all : (m : Message) (earlier : List Message) → CameAfter m earlier (messages_of (all_sent past)) → CameAfter m earlier (messages past)
    of_all m earlier there = subst (λ (ms : List Message). CameAfter m earlier ms) (sym (messages_same past)) there

    asked : CameAfter q (messages_of before) (messages past)
    asked = of_all q (messages_of before) (came_message request before (all_sent past) q (ap (λ (k : Option Kind). message_by request k) (request_kind request.layer asks)) came)

    to : (frame : ℕ) → HasReply q (messages_of before) (messages past) frame → HasAnswer request before (all_sent past) frame
    to frame reply =
        let s = sent_as reply.m reply.earlier (all_sent past) (subst (λ (ms : List Message). CameAfter reply.m reply.earlier ms) (messages_same past) reply.came) in
        let told = message_is s.one reply.m s.is in
        let final = kind_final s.one.layer (Some request.frame) (told.kind ∙ ap (λ (k : Kind). Some k) reply.is.kind) in
        let apart = is_apart request.at reply.m.at reply.is.other in
        record {
          response = s.one;
          earlier = s.before;
          came = s.came;
          number = told.frame ∙ reply.number;
          answers = record {
            later = subst (λ (n : ℕ). request.frame < n) (sym told.frame) reply.is.later;
            final = final.0;
            link = final.1;
            stream = ap (λ (d : Direction). d.stream) told.at ∙ sym apart.0;
            sender = λ same. apart.1 (sym same ∙ told.at);
            turn = sym (responses_same s.one.at s.before) ∙ (λ i. responses_sent (s.rest i) (told.at i)) ∙ reply.is.turn ∙ requests_same request.at before;
          };
        }

    back : (frame : ℕ) → HasAnswer request before (all_sent past) frame → HasReply q (messages_of before) (messages past) frame
    back frame answer =
        let m : Message = message_as answer.response (Response (Some request.frame)) in
        let kind : kind_of answer.response.layer ≡ Some (Response (Some request.frame))
        = final_kind answer.response.layer answer.answers.final ∙ ap (λ (link : Option ℕ). Some (Response link)) answer.answers.link in
        record {
          m = m;
          earlier = messages_of answer.earlier;
          came = of_all m (messages_of answer.earlier) (came_message answer.response answer.earlier (all_sent past) m (ap (λ (k : Option Kind). message_by answer.response k) kind) answer.came);
          number = answer.number;
          is = record {
            later = answer.answers.later;
            kind = refl;
            other = other_is request.at answer.response.at (sym answer.answers.stream) (λ same. answer.answers.sender (sym same));
            turn = responses_same answer.response.at answer.earlier ∙ answer.answers.turn ∙ sym (requests_same request.at before);
          };
        }

-- no request of a frame that was sent has a number
pub none_sent : (past : List Noted) (frame nth : ℕ)
    → ((request : Sent) (before : List Sent) → CameAfter request before (all_sent past) → is_request_layer request.layer ≡ true
    → request.frame ≡ frame → request.layer.nth ≡ nth → ⊥)
    → reply_to (messages past) (frame, nth) ≡ None
none_sent past frame nth none = none_asked (frame, nth) (messages past) by
  where
    by : (q : Message) (before : List Message) → CameAfter q before (messages past) → q.kind ≡ Request → q.frame ≡ frame → q.nth ≡ nth → ⊥
    by q before came kind of_frame number =
        let s = sent_as q before (all_sent past) (subst (λ (ms : List Message). CameAfter q before ms) (messages_same past) came) in
        let told = message_is s.one q s.is in
        none s.one s.before s.came
        (sym (request_asks s.one.layer) ∙ ap (λ (k : Option Kind). is_asking k) told.kind ∙ ap (λ (k : Kind). is_request k) kind)
        (told.frame ∙ of_frame) (told.nth ∙ number)
