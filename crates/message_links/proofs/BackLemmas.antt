-- The earlier frame that a message belongs to.
use Rattle.std.proofs.Common.{◌≡◌, ◌≢◌, ◌⊎◌, ◌==◌, ◌&&◌, ◌+◌, ℕ, zero, suc, Bool, true, false, cond, List, [], ◌∷◌, ◌++◌, length, take, count_by, slice_get, Some, option_map, refl, sym, ap, ◌∙◌, add-zero, length-append, inl, inr, arith}
use Rattle.std.proofs.lemmas.Bool.{and_parts, eq-eqb, eqb-true, false≢true}
use Rattle.std.proofs.lemmas.List.Sums.{sum_by-cons}
use Rattle.std.specs.List.{AllByRecursion as Each}
use Rattle.tcp_streams.specs.Conversations.{same_bool}
use Rattle.message_links.specs.declared.notes.Direction.{Direction}
use Rattle.message_links.specs.declared.notes.Note.{Note}
use Rattle.message_links.specs.declared.notes.Note.TheVariants.{Query, Response, Request, Answer, Other}
use Rattle.message_links.specs.declared.notes.QueryKey.{QueryKey}
use Rattle.message_links.specs.Laws.{AnswersBelong, AreCounted, HasQuery, HasRequest, IsQuery, LinksByPlace, OthersStandAlone, ResponsesBelong, number_sent}
use Rattle.message_links.specs.Links.{answers_in, asks_by, is_answer, is_request, key_of, link_of, links_from, other_side, query_before, requests_in, same_direction, same_query}
use Rattle.message_links.specs.Notes.{Noted}
use Rattle.message_links.proofs.LinkKeys.{direction_is, same_is}

bool_own : (a : Bool) → same_bool a a ≡ true
bool_own true = refl
bool_own false = refl

direction_own : (at : Direction) → same_direction at at ≡ true
direction_own at = λ i. bool_own at.tcp i && (eq-eqb at.stream at.stream refl i && bool_own at.side i)

query_own : (key : QueryKey) → same_query key key ≡ true
query_own key = λ i. bool_own key.tcp i && (eq-eqb key.stream key.stream refl i && eq-eqb key.id key.id refl i)

query_is : (one other : QueryKey) → same_query one other ≡ true → one ≡ other
query_is one other same =
    let outer = and_parts (same_bool one.tcp other.tcp) (one.stream == other.stream && one.id == other.id) same in
    let inner = and_parts (one.stream == other.stream) (one.id == other.id) outer.1 in
    λ i. record {
      tcp = same_is one.tcp other.tcp outer.0 i;
      stream = eqb-true one.stream other.stream inner.0 i;
      id = eqb-true one.id other.id inner.1 i;
    }

-- a list with one more at its end
get_behind : (xs : List ℕ) (one x n : ℕ) → slice_get xs n ≡ Some x → slice_get (xs ++ one ∷ []) n ≡ Some x
get_behind [] one x n is = absurd (cc)
get_behind (y ∷ xs) one x zero is = is
get_behind (y ∷ xs) one x (suc n) is = get_behind xs one x n is

get_last : (xs : List ℕ) (one : ℕ) → slice_get (xs ++ one ∷ []) (length xs) ≡ Some one
get_last [] one = refl
get_last (x ∷ xs) one = get_last xs one

get_cases : (xs : List ℕ) (one x n : ℕ) → slice_get (xs ++ one ∷ []) n ≡ Some x → (slice_get xs n ≡ Some x) ⊎ ((n ≡ length xs) × (one ≡ x))
get_cases [] one x zero is = inr (refl, cc)
get_cases [] one x (suc n) is = absurd (cc)
get_cases (y ∷ xs) one x zero is = inl is
get_cases (y ∷ xs) one x (suc n) is = elim (get_cases xs one x n is) [
  | inl there ↦ inl there
  | inr last ↦ inr (ap (λ (k : ℕ). suc k) last.0, last.1)
]

length_is : (ns : List Noted) (at : Direction) → length (requests_in ns at) ≡ number_sent is_request at ns
length_is [] at = refl
length_is (n ∷ ns) at = by (length_is ns at) (is_request n.note && same_direction n.at at)
  where
    by : length (requests_in ns at) ≡ number_sent is_request at ns → (test : Bool)
        → length (cond test (requests_in ns at ++ n.frame ∷ []) (requests_in ns at)) ≡ cond test (number_sent is_request at ns + 1) (number_sent is_request at ns)
    by is true = length-append (requests_in ns at) (n.frame ∷ []) ∙ ap (λ (k : ℕ). k + 1) is
    by is false = is

-- the frame of a direction's request of a number
request_there : (newer : List Noted) (request : Noted) (earlier : List Noted) (at : Direction) (number : ℕ)
    → request.note ≡ Request → request.at ≡ at → number ≡ length (requests_in earlier at)
    → slice_get (requests_in (newer ++ request ∷ earlier) at) number ≡ Some request.frame
request_there [] request earlier at number asks sender turn =
    let test : (is_request request.note && same_direction request.at at) ≡ true
    = (λ i. is_request (asks i) && same_direction (sender i) at) ∙ direction_own at in
    (λ i. slice_get (cond (test i) (requests_in earlier at ++ request.frame ∷ []) (requests_in earlier at)) (turn i))
    ∙ get_last (requests_in earlier at) request.frame
request_there (n ∷ newer) request earlier at number asks sender turn =
    by (request_there newer request earlier at number asks sender turn) (is_request n.note && same_direction n.at at)
  where
    by : slice_get (requests_in (newer ++ request ∷ earlier) at) number ≡ Some request.frame → (test : Bool)
        → slice_get (cond test (requests_in (newer ++ request ∷ earlier) at ++ n.frame ∷ []) (requests_in (newer ++ request ∷ earlier) at)) number ≡ Some request.frame
    by there true = get_behind (requests_in (newer ++ request ∷ earlier) at) n.frame request.frame number there
    by there false = there

request_note : (note : Note) → is_request note ≡ true → note ≡ Request
request_note Request is = refl
request_note (Query id) is = absurd (false≢true is)
request_note (Response id) is = absurd (false≢true is)
request_note Answer is = absurd (false≢true is)
request_note Other is = absurd (false≢true is)

has_request : (ns : List Noted) (at : Direction) (number frame : ℕ) → slice_get (requests_in ns (other_side at)) number ≡ Some frame → HasRequest ns at number frame
has_request [] at number frame is = absurd (cc)
has_request (n ∷ ns) at number frame is =
    by (has_request ns at number frame) (is_request n.note && same_direction n.at (other_side at)) refl is
  where
    more : HasRequest ns at number frame → HasRequest (n ∷ ns) at number frame
    more r = record {
      newer = n ∷ r.newer;
      request = r.request;
      earlier = r.earlier;
      all = ap (λ (l : List Noted). n ∷ l) r.all;
      asks = r.asks;
      sender = r.sender;
      turn = r.turn;
      of_frame = r.of_frame;
    }

    by : (slice_get (requests_in ns (other_side at)) number ≡ Some frame → HasRequest ns at number frame)
        → (test : Bool) → (is_request n.note && same_direction n.at (other_side at)) ≡ test
        → slice_get (cond test (requests_in ns (other_side at) ++ n.frame ∷ []) (requests_in ns (other_side at))) number ≡ Some frame
        → HasRequest (n ∷ ns) at number frame
    by again true passes is = elim (get_cases (requests_in ns (other_side at)) n.frame frame number is) [
      | inl there ↦ more (again there)
      | inr last ↦
          let parts = and_parts (is_request n.note) (same_direction n.at (other_side at)) passes in
          let sender : n.at ≡ other_side at = direction_is n.at (other_side at) parts.1 in
          record {
            newer = [];
            request = n;
            earlier = ns;
            all = refl;
            asks = request_note n.note parts.0;
            sender = sender;
            turn = ap (λ (d : Direction). number_sent is_request d ns) sender ∙ sym (length_is ns (other_side at)) ∙ sym last.0;
            of_frame = last.1;
          }
    ]
    by again false passes is = more (again is)

pub answers_belong : AnswersBelong
answers_belong ns at number frame = (has_request ns at number frame, back)
  where
    back : HasRequest ns at number frame → slice_get (requests_in ns (other_side at)) number ≡ Some frame
    back r =
        let turn : number ≡ length (requests_in r.earlier (other_side at))
        = sym r.turn ∙ ap (λ (d : Direction). number_sent is_request d r.earlier) r.sender ∙ sym (length_is r.earlier (other_side at)) in
        (λ i. slice_get (requests_in (sym r.all i) (other_side at)) number)
        ∙ request_there r.newer r.request r.earlier (other_side at) number r.asks r.sender turn
        ∙ ap (λ (f : ℕ). Some f) r.of_frame

-- a query that a response is to
asks_is : (note : Note) (own at : Direction) (id : ℕ) → asks_by note own (key_of at id) ≡ true → (note ≡ Query id) × (own.tcp ≡ at.tcp) × (own.stream ≡ at.stream)
asks_is (Query number) own at id is =
    let same : key_of own number ≡ key_of at id = query_is (key_of own number) (key_of at id) is in
    let ids : number ≡ id = ap (λ (key : QueryKey). key.id) same in
    (ap (λ (k : ℕ). Query k) ids, ap (λ (key : QueryKey). key.tcp) same, ap (λ (key : QueryKey). key.stream) same)
asks_is (Response number) own at id is = absurd (false≢true is)
asks_is Request own at id is = absurd (false≢true is)
asks_is Answer own at id is = absurd (false≢true is)
asks_is Other own at id is = absurd (false≢true is)

is_asks : (n : Noted) (at : Direction) (id : ℕ) → IsQuery at id n → asks_by n.note n.at (key_of at id) ≡ true
is_asks n at id query =
    (λ i. asks_by (query.0 i) n.at (key_of at id))
    ∙ (λ i. same_query (record { tcp = query.1 i; stream = query.2 i; id = id }) (key_of at id))
    ∙ query_own (key_of at id)

no_query : (n : Noted) (at : Direction) (id : ℕ) → (IsQuery at id n → ⊥) → asks_by n.note n.at (key_of at id) ≡ false
no_query n at id none = by (asks_by n.note n.at (key_of at id)) refl
  where
    by : (test : Bool) → asks_by n.note n.at (key_of at id) ≡ test → asks_by n.note n.at (key_of at id) ≡ false
    by true is = absurd (none (asks_is n.note n.at at id is))
    by false is = is

query_there : (newer : List Noted) (query : Noted) (earlier : List Noted) (at : Direction) (id : ℕ) → IsQuery at id query → Each (λ (n : Noted). IsQuery at id n → ⊥) newer
    → query_before (newer ++ query ∷ earlier) (key_of at id) ≡ Some query.frame
query_there [] query earlier at id is latest =
    ap (λ (test : Bool). cond test (Some query.frame) (query_before earlier (key_of at id))) (is_asks query at id is)
query_there (n ∷ newer) query earlier at id is latest =
    ap (λ (test : Bool). cond test (Some n.frame) (query_before (newer ++ query ∷ earlier) (key_of at id))) (no_query n at id latest.0)
    ∙ query_there newer query earlier at id is latest.1

has_query : (ns : List Noted) (at : Direction) (id frame : ℕ) → query_before ns (key_of at id) ≡ Some frame → HasQuery ns at id frame
has_query [] at id frame is = absurd (cc)
has_query (n ∷ ns) at id frame is = by (has_query ns at id frame) (asks_by n.note n.at (key_of at id)) refl is
  where
    by : (query_before ns (key_of at id) ≡ Some frame → HasQuery ns at id frame) → (test : Bool) → asks_by n.note n.at (key_of at id) ≡ test
        → cond test (Some n.frame) (query_before ns (key_of at id)) ≡ Some frame → HasQuery (n ∷ ns) at id frame
    by again true asks is =
        record { newer = []; query = n; earlier = ns; all = refl; is = asks_is n.note n.at at id asks; latest = tt; of_frame = cc }
    by again false asks is =
        let r = again is in
        record {
          newer = n ∷ r.newer;
          query = r.query;
          earlier = r.earlier;
          all = ap (λ (l : List Noted). n ∷ l) r.all;
          is = r.is;
          latest = (λ query. false≢true (sym asks ∙ is_asks n at id query), r.latest);
          of_frame = r.of_frame;
        }

pub responses_belong : ResponsesBelong
responses_belong ns at number id frame = (has_query ns at id frame, back)
  where
    back : HasQuery ns at id frame → query_before ns (key_of at id) ≡ Some frame
    back r =
        (λ i. query_before (sym r.all i) (key_of at id))
        ∙ query_there r.newer r.query r.earlier at id r.is r.latest
        ∙ ap (λ (f : ℕ). Some f) r.of_frame

pub others_stand_alone : OthersStandAlone
others_stand_alone ns at number (Query id) no_answer no_response = refl
others_stand_alone ns at number (Response id) no_answer no_response = absurd (no_response id refl)
others_stand_alone ns at number Request no_answer no_response = refl
others_stand_alone ns at number Answer no_answer no_response = absurd (no_answer refl)
others_stand_alone ns at number Other no_answer no_response = refl

no_request : (note : Note) → note ≢ Request → is_request note ≡ false
no_request (Query id) apart = refl
no_request (Response id) apart = refl
no_request Request apart = absurd (apart refl)
no_request Answer apart = refl
no_request Other apart = refl

no_answer : (note : Note) → note ≢ Answer → is_answer note ≡ false
no_answer (Query id) apart = refl
no_answer (Response id) apart = refl
no_answer Request apart = refl
no_answer Answer apart = absurd (apart refl)
no_answer Other apart = refl

pub are_counted : AreCounted
are_counted = record { request = refl; no_request = no_request; answer = refl; no_answer = no_answer }

-- links of one frame's messages
answers_same : (ns : List Noted) (at : Direction) → answers_in ns at ≡ number_sent is_answer at ns
answers_same [] at = refl
answers_same (n ∷ ns) at = λ i. cond (is_answer n.note && same_direction n.at at) (answers_same ns at i + 1) (answers_same ns at i)

place_link : (ns : List Noted) (at : Direction) (number : ℕ) (notes : List Note) (place : ℕ)
    → slice_get (links_from ns at number notes) place ≡ option_map (λ note. link_of ns at (number + count_by is_answer (take place notes)) note) (slice_get notes place)
place_link ns at number [] place = refl
place_link ns at number (note ∷ notes) zero = ap (λ (k : ℕ). Some (link_of ns at k note)) (sym (add-zero number))
place_link ns at number (note ∷ notes) (suc place) =
    place_link ns at (cond (is_answer note) (number + 1) number) notes place
    ∙ ap (λ (k : ℕ). option_map (λ (m : Note). link_of ns at k m) (slice_get notes place)) (by (is_answer note) refl)
  where
    counted : count_by is_answer (note ∷ take place notes) ≡ cond (is_answer note) 1 0 + count_by is_answer (take place notes)
    counted = sum_by-cons (λ (m : Note). cond (is_answer m) 1 0) note (take place notes)

    by : (test : Bool) → is_answer note ≡ test
        → cond test (number + 1) number + count_by is_answer (take place notes) ≡ number + count_by is_answer (note ∷ take place notes)
    by true is =
        let one : count_by is_answer (note ∷ take place notes) ≡ 1 + count_by is_answer (take place notes)
        = counted ∙ ap (λ (b : Bool). cond b 1 0 + count_by is_answer (take place notes)) is in
        omega (arith, one)
    by false is =
        let none : count_by is_answer (note ∷ take place notes) ≡ 0 + count_by is_answer (take place notes)
        = counted ∙ ap (λ (b : Bool). cond b 1 0 + count_by is_answer (take place notes)) is in
        omega (arith, none)

pub links_by_place : LinksByPlace
links_by_place ns at notes place =
    place_link ns at (answers_in ns at) notes place
    ∙ ap (λ (k : ℕ). option_map (λ (m : Note). link_of ns at (k + count_by is_answer (take place notes)) m) (slice_get notes place)) (answers_same ns at)
