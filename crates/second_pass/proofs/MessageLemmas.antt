-- One message more among those that links of HTTP are told by.
use Rattle.std.proofs.Common.{◌≡◌, ◌==◌, ◌&&◌, ◌+◌, ◌-◌, ◌^◌, ◌<◌, ◌≤◌, ℕ, Bool, true, false, not, cond, nat_lt, zero, suc, List, [], ◌∷◌, ◌++◌, length, Option, Some, None, option_map, unwrap_or, refl, sym, ap, ◌∙◌, subst, arith}
use Rattle.std.proofs.lemmas.Bool.{and_parts, eq-eqb, eqb-true, ltb-false, ltb-true}
use Rattle.std.proofs.lemmas.List.{length-append}
use Rattle.std.specs.Prelude.{option_and_then, Result, Ok, Err, OnOk}
use Rattle.std.specs.List.{position_or_len, slice_get}
use Rattle.std.specs.Map.{keys_of}
use Rattle.std.specs.Option.{option_or}
use Rattle.indexmap.specs.IndexMap.{insert_entry}
use Rattle.second_pass.specs.declared.answers.Answers.{Answers}
use Rattle.second_pass.specs.declared.counts.Counts.{Counts}
use Rattle.second_pass.specs.declared.exchanges.Exchanges.{Exchanges}
use Rattle.second_pass.specs.declared.messages.Direction.{Direction}
use Rattle.second_pass.specs.declared.messages.Kind.{Kind}
use Rattle.second_pass.specs.declared.messages.Kind.TheVariants.{Request, Response}
use Rattle.second_pass.specs.declared.messages.Message.{Message}
use Rattle.second_pass.specs.declared.requests.Asked.{Asked}
use Rattle.second_pass.specs.declared.requests.Requests.{Requests}
use Rattle.second_pass.specs.Messages.{is_request, requests_sent, responses_sent, same_direction}
use Rattle.second_pass.specs.Named.{is_query, same_query}
use Rattle.second_pass.specs.Replies.{answered, answered_of, reply_to, request_of}
use Rattle.second_pass.specs.Stands.{HasMessages, IsFound, answer_in, count_in, counted, direction_at, place_in, request_in}

pub direction_is : (one other : Direction) → same_direction one other ≡ true → one ≡ other
direction_is one other same =
    let a = and_parts (one.stream == other.stream) (one.version == other.version && (one.address == other.address && one.port == other.port)) same in
    let b = and_parts (one.version == other.version) (one.address == other.address && one.port == other.port) a.1 in
    let c = and_parts (one.address == other.address) (one.port == other.port) b.1 in
    λ i. record {
      stream = eqb-true one.stream other.stream a.0 i;
      version = eqb-true one.version other.version b.0 i;
      address = eqb-true one.address other.address c.0 i;
      port = eqb-true one.port other.port c.1 i;
    }

-- a direction's count, raised
pub raised : (at other : Direction) (count : ℕ) (old : Direction → Option ℕ) (new : Option ℕ)
    → count ≡ counted (unwrap_or (old at) 0 + 1)
    → new ≡ cond (same_direction at other) (Some count) (old other)
    → unwrap_or new 0 ≡ cond (same_direction at other) (counted (unwrap_or (old other) 0 + 1)) (unwrap_or (old other) 0)
raised at other count old new is updates =
    ap (λ (o : Option ℕ). unwrap_or o 0) updates ∙ by (same_direction at other) refl
  where
    by : (test : Bool) → same_direction at other ≡ test
        → unwrap_or (cond test (Some count) (old other)) 0 ≡ cond test (counted (unwrap_or (old other) 0 + 1)) (unwrap_or (old other) 0)
    by true same = is ∙ ap (λ (d : Direction). counted (unwrap_or (old d) 0 + 1)) (direction_is at other same)
    by false same = refl

sent_next : (test : Bool) (exact old new : ℕ) → old ≡ counted exact → new ≡ cond test (counted (old + 1)) old → new ≡ counted (cond test (exact + 1) exact)
sent_next true exact old new is next = omega (arith, is, next)
sent_next false exact old new is next = next ∙ is

most_next : (test : Bool) (exact most : ℕ) → exact ≤ most → cond test (exact + 1) exact ≤ most + 1
most_next true exact most within = omega (arith, within)
most_next false exact most within = omega (arith, within)

no_reply : (first : Option ℕ) (later : Bool) (frame : ℕ) → option_or first (cond (later && false) (Some frame) None) ≡ first
no_reply None true frame = refl
no_reply None false frame = refl
no_reply (Some first) later frame = refl

-- a direction's place, and those of all others, where one is counted
pub placed : (at : Direction) (count : ℕ) (es : List (Direction × ℕ))
    → option_map (λ e. e.0) (slice_get (insert_entry same_direction es at count) (position_or_len (same_direction at) (keys_of es))) ≡ Some at
placed at count [] = refl
placed at count (e ∷ es) = by (placed at count es) (same_direction at e.0) refl
  where
    rest : ℕ
    rest = position_or_len (same_direction at) (keys_of es)

    by : option_map (λ e. e.0) (slice_get (insert_entry same_direction es at count) rest) ≡ Some at
        → (test : Bool) → same_direction at e.0 ≡ test
        → option_map (λ e. e.0) (slice_get (cond test ((e.0, count) ∷ es) (e ∷ insert_entry same_direction es at count)) (cond (not test) (1 + rest) 0)) ≡ Some at
    by behind true same = ap (λ (d : Direction). Some d) (sym (direction_is at e.0 same))
    by behind false same =
        let next : 1 + rest ≡ suc rest = omega arith in
        ap (λ (n : ℕ). option_map (λ e. e.0) (slice_get (e ∷ insert_entry same_direction es at count) n)) next ∙ behind

pub stays : (at other : Direction) (count place : ℕ) (es : List (Direction × ℕ))
    → option_map (λ e. e.0) (slice_get es place) ≡ Some other
    → option_map (λ e. e.0) (slice_get (insert_entry same_direction es at count) place) ≡ Some other
stays at other count zero [] is = absurd (cc)
stays at other count (suc place) [] is = absurd (cc)
stays at other count zero (e ∷ es) is = by (same_direction at e.0)
  where
    by : (test : Bool) → option_map (λ e. e.0) (slice_get (cond test ((e.0, count) ∷ es) (e ∷ insert_entry same_direction es at count)) 0) ≡ Some other
    by true = is
    by false = is
stays at other count (suc place) (e ∷ es) is = by (stays at other count place es is) (same_direction at e.0)
  where
    by : option_map (λ e. e.0) (slice_get (insert_entry same_direction es at count) place) ≡ Some other
        → (test : Bool) → option_map (λ e. e.0) (slice_get (cond test ((e.0, count) ∷ es) (e ∷ insert_entry same_direction es at count)) (suc place)) ≡ Some other
    by behind true = is
    by behind false = behind

-- what follows from both
pub both_ok : {T E P Q R : Type 0} (r : Result T E) → OnOk r P → OnOk r Q → (P → Q → R) → OnOk r R
both_ok (Ok done) p q follows = follows p q
both_ok (Err error) p q follows = tt

-- an element of a list, where another is added
get_behind : (xs : List Asked) (one x : Asked) (place : ℕ) → slice_get xs place ≡ Some x → slice_get (xs ++ one ∷ []) place ≡ Some x
get_behind [] one x zero is = absurd (cc)
get_behind [] one x (suc place) is = absurd (cc)
get_behind (y ∷ xs) one x zero is = is
get_behind (y ∷ xs) one x (suc place) is = get_behind xs one x place is

get_last : (xs : List Asked) (one : Asked) → slice_get (xs ++ one ∷ []) (length xs) ≡ Some one
get_last [] one = refl
get_last (x ∷ xs) one = get_last xs one

length_end : (xs : List Asked) (one : Asked) → length (xs ++ one ∷ []) ≡ length xs + 1
length_end xs one = length-append xs (one ∷ [])

-- a request as it is kept, and one more
found_more : (old new : Counts) (asked : List Asked) (kept : Option ℕ) (request : Option (Direction × ℕ)) (test : Bool) (one : Asked) (at : Direction)
    → ((place : ℕ) (other : Direction) → direction_at old place ≡ Some other → direction_at new place ≡ Some other)
    → direction_at new one.place ≡ Some at
    → IsFound old asked kept request
    → IsFound new (asked ++ one ∷ []) (option_or kept (cond test (Some (length asked)) None)) (option_or request (cond test (Some (at, one.nth)) None))
found_more old new asked None None true one at stay there found = record { one = one; there = get_last asked one; at = there; nth = refl }
found_more old new asked None None false one at stay there found = tt
found_more old new asked None (Some request) test one at stay there found = absurd found
found_more old new asked (Some kept) None test one at stay there found = absurd found
found_more old new asked (Some kept) (Some request) test one at stay there found = record {
  one = found.one;
  there = get_behind asked one found.one kept found.there;
  at = stay found.one.place request.0 found.at;
  nth = found.nth;
}

-- as many requests as the memory holds
few_asked : (requests : Requests) → length requests.asked.items < 2 ^ 63
few_asked requests =
    let len = requests.asked.ok.0 in
    let within = requests.asked.ok.1 in
    let small = requests.asked.small in omega (arith, len, within, small)

-- a request is one of those of its direction
pub same_own : (at : Direction) → same_direction at at ≡ true
same_own at =
    (λ i. eq-eqb at.stream at.stream refl i && (at.version == at.version && (at.address == at.address && at.port == at.port)))
    ∙ (λ i. eq-eqb at.version at.version refl i && (at.address == at.address && at.port == at.port))
    ∙ (λ i. eq-eqb at.address at.address refl i && at.port == at.port)
    ∙ eq-eqb at.port at.port refl

pub no_less : (test : Bool) (n below : ℕ) → below < n → below < cond test (n + 1) n
no_less true n below less = omega (arith, less)
no_less false n below less = less

below_sent : (ms : List Message) (key : ℕ × ℕ) (request : Direction × ℕ) → request_of ms key ≡ Some request → key.1 < requests_sent ms request.0
below_sent [] key request is = absurd (cc)
below_sent (m ∷ ms) key request is =
    by (below_sent ms key request) (request_of ms key) refl (is_request m.kind) refl (same_query (m.frame, requests_sent ms m.at) key) refl is
  where
    by : (request_of ms key ≡ Some request → key.1 < requests_sent ms request.0)
        → (before : Option (Direction × ℕ)) → request_of ms key ≡ before → (a : Bool) → is_request m.kind ≡ a
        → (b : Bool) → same_query (m.frame, requests_sent ms m.at) key ≡ b
        → option_or before (cond (a && b) (Some (m.at, m.nth)) None) ≡ Some request
        → key.1 < cond (is_request m.kind && same_direction m.at request.0) (requests_sent ms request.0 + 1) (requests_sent ms request.0)
    by less (Some earlier) known a a_is b b_is found =
        let same : earlier ≡ request = cc in
        no_less (is_request m.kind && same_direction m.at request.0) (requests_sent ms request.0) key.1
        (less (known ∙ ap (λ (r : Direction × ℕ). Some r) same))
    by less None known true a_is true b_is found =
        let same : (m.at, m.nth) ≡ request = cc in
        let number : requests_sent ms m.at ≡ key.1 = eqb-true (requests_sent ms m.at) key.1 (and_parts (m.frame == key.0) (requests_sent ms m.at == key.1) b_is).1 in
        let next : key.1 < requests_sent ms m.at + 1 = omega (arith, number) in
        subst (λ (r : Direction × ℕ). key.1 < cond (is_request m.kind && same_direction m.at r.0) (requests_sent ms r.0 + 1) (requests_sent ms r.0)) same
        (subst (λ (test : Bool). key.1 < cond test (requests_sent ms m.at + 1) (requests_sent ms m.at))
        (sym ((λ i. a_is i && same_direction m.at m.at) ∙ same_own m.at)) next)
    by less None known true a_is false b_is found = absurd (cc)
    by less None known false a_is b b_is found = absurd (cc)

-- no request has so great a number
none_beyond : (ms : List Message) (exchanges : Exchanges) (key : ℕ × ℕ) → HasMessages ms exchanges → 2 ^ 64 - 1 ≤ key.1 → request_of ms key ≡ None
none_beyond ms exchanges key has great = by (request_of ms key) refl
  where
    by : (o : Option (Direction × ℕ)) → request_of ms key ≡ o → o ≡ None
    by None is = refl
    by (Some request) is = absurd (omega (arith, great, below_sent ms key request is, has.most request.0, few_asked exchanges.requests))

looked_up : (exchanges : Exchanges) (key : ℕ × ℕ) (place : Option ℕ) (request : Option (Direction × ℕ))
    → place_in exchanges.requests key ≡ place → IsFound exchanges.requests_sent exchanges.requests.asked.items place request
    → request_in exchanges key ≡ request
looked_up exchanges key None None is found = cc
looked_up exchanges key None (Some request) is found = absurd found
looked_up exchanges key (Some place) None is found = absurd found
looked_up exchanges key (Some place) (Some request) is found =
    let direction = λ (asked : Asked). option_map (λ (at : Direction). (at, asked.nth)) (direction_at exchanges.requests_sent asked.place) in
    ap (λ (p : Option ℕ). option_and_then direction (option_and_then (slice_get exchanges.requests.asked.items) p)) is
    ∙ ap (λ (o : Option Asked). option_and_then direction o) found.there
    ∙ (λ i. option_map (λ (at : Direction). (at, found.nth i)) (found.at i))

-- a request that is told by a count
pub request_found : (ms : List Message) (exchanges : Exchanges) (frame number exact : ℕ) → HasMessages ms exchanges → number ≡ counted exact
    → request_in exchanges (frame, number) ≡ request_of ms (frame, exact)
request_found ms exchanges frame number exact has is =
    looked_up exchanges (frame, number) (place_in exchanges.requests (frame, number)) (request_of ms (frame, number)) refl (has.requests (frame, number))
    ∙ by (nat_lt exact (2 ^ 64 - 1)) refl
  where
    by : (few : Bool) → nat_lt exact (2 ^ 64 - 1) ≡ few → request_of ms (frame, number) ≡ request_of ms (frame, exact)
    by true below =
        let same : number ≡ exact = omega (arith, is, ltb-true exact (2 ^ 64 - 1) below) in ap (λ (n : ℕ). request_of ms (frame, n)) same
    by false beyond =
        let great : 2 ^ 64 - 1 ≤ exact = ltb-false exact (2 ^ 64 - 1) beyond in
        none_beyond ms exchanges (frame, number) has (omega (arith, is, great)) ∙ sym (none_beyond ms exchanges (frame, exact) has great)

pub request_noted : (ms : List Message) (m : Message) (number : ℕ) (one : Asked) (old new : Exchanges)
    → m.kind ≡ Request
    → number ≡ count_in old.requests_sent m.at
    → one.nth ≡ m.nth
    → direction_at new.requests_sent one.place ≡ Some m.at
    → ((other : ℕ) (at : Direction) → direction_at old.requests_sent other ≡ Some at → direction_at new.requests_sent other ≡ Some at)
    → new.requests.asked.items ≡ old.requests.asked.items ++ one ∷ []
    → ((key : ℕ × ℕ) → place_in new.requests key
    ≡ option_or (place_in old.requests key) (cond (same_query (m.frame, number) key) (Some (length old.requests.asked.items)) None))
    → ((at : Direction) → count_in new.requests_sent at ≡ cond (same_direction m.at at) (counted (count_in old.requests_sent at + 1)) (count_in old.requests_sent at))
    → new.responses_sent ≡ old.responses_sent
    → new.replies ≡ old.replies
    → HasMessages ms old → HasMessages (m ∷ ms) new
request_noted ms m number one old new is number_is nth there stay added places counts responses replies has =
    let asked = old.requests.asked.items in
    let more : length new.requests.asked.items ≡ length asked + 1 = ap (λ (xs : List Asked). length xs) added ∙ length_end asked one in
    let sent : (at : Direction) → requests_sent (m ∷ ms) at ≡ cond (same_direction m.at at) (requests_sent ms at + 1) (requests_sent ms at)
    = λ at. ap (λ (k : Kind). cond (is_request k && same_direction m.at at) (requests_sent ms at + 1) (requests_sent ms at)) is in
    let exact : number ≡ requests_sent ms m.at = omega (arith, number_is ∙ has.requests_sent m.at, has.most m.at, few_asked old.requests) in
    record {
      requests_sent = λ at.
          sent_next (same_direction m.at at) (requests_sent ms at) (count_in old.requests_sent at) (count_in new.requests_sent at) (has.requests_sent at) (counts at)
          ∙ sym (ap (λ (n : ℕ). counted n) (sent at));
      responses_sent = λ at.
          ap (λ (c : Counts). count_in c at) responses
          ∙ has.responses_sent at
          ∙ sym (ap (λ (k : Kind). counted (cond (not (is_request k) && same_direction m.at at) (responses_sent ms at + 1) (responses_sent ms at))) is);
      requests = λ key.
          let test = same_query (m.frame, number) key in
          let request : option_or (request_of ms key) (cond test (Some (m.at, one.nth)) None) ≡ request_of (m ∷ ms) key =
          (λ i. option_or (request_of ms key) (cond (same_query (m.frame, exact i) key) (Some (m.at, nth i)) None))
          ∙ sym (ap (λ (k : Kind). option_or (request_of ms key) (cond (is_request k && same_query (m.frame, requests_sent ms m.at) key) (Some (m.at, m.nth)) None)) is) in
          subst (λ (xs : List Asked). IsFound new.requests_sent xs (place_in new.requests key) (request_of (m ∷ ms) key)) (sym added)
          (subst (λ (p : Option ℕ). IsFound new.requests_sent (asked ++ one ∷ []) p (request_of (m ∷ ms) key)) (sym (places key))
          (subst (λ (r : Option (Direction × ℕ)). IsFound new.requests_sent (asked ++ one ∷ []) (option_or (place_in old.requests key) (cond test (Some (length asked)) None)) r) request
          (found_more old.requests_sent new.requests_sent asked (place_in old.requests key) (request_of ms key) test one m.at stay there (has.requests key))));
      most = λ at.
          let within : cond (same_direction m.at at) (requests_sent ms at + 1) (requests_sent ms at) ≤ length asked + 1
          = most_next (same_direction m.at at) (requests_sent ms at) (length asked) (has.most at) in
          omega (arith, within, sent at, more);
      replies = λ request.
          ap (λ (r : Answers). answer_in r request) replies
          ∙ has.replies request
          ∙ sym (ap (λ (k : Kind). option_or (reply_to ms request) (cond (nat_lt request.0 m.frame && is_query request (answered_of ms m.at k)) (Some m.frame) None)) is
          ∙ no_reply (reply_to ms request) (nat_lt request.0 m.frame) m.frame);
    }

no_request : {A : Type 0} (first : Option A) → option_or first None ≡ first
no_request None = refl
no_request (Some first) = refl

pub response_noted : (ms : List Message) (m : Message) (link : Option ℕ) (request : Option (ℕ × ℕ)) (old : Exchanges) (responses : Counts) (replies : Answers)
    → m.kind ≡ Response link
    → request ≡ answered ms m.at link
    → ((at : Direction) → count_in responses at ≡ cond (same_direction m.at at) (counted (count_in old.responses_sent at + 1)) (count_in old.responses_sent at))
    → ((asked : ℕ × ℕ) → answer_in replies asked ≡ option_or (answer_in old.replies asked) (cond (nat_lt asked.0 m.frame && is_query asked request) (Some m.frame) None))
    → HasMessages ms old → HasMessages (m ∷ ms) (record old { responses_sent = responses; replies = replies })
response_noted ms m link request old responses replies is request_is counts answers has =
    let sent : (at : Direction) → requests_sent (m ∷ ms) at ≡ requests_sent ms at
    = λ at. ap (λ (k : Kind). cond (is_request k && same_direction m.at at) (requests_sent ms at + 1) (requests_sent ms at)) is in
    let received : (at : Direction) → responses_sent (m ∷ ms) at ≡ cond (same_direction m.at at) (responses_sent ms at + 1) (responses_sent ms at)
    = λ at. ap (λ (k : Kind). cond (not (is_request k) && same_direction m.at at) (responses_sent ms at + 1) (responses_sent ms at)) is in
    record {
      most = λ at. omega (arith, sent at, has.most at);
      requests_sent = λ at. has.requests_sent at ∙ sym (ap (λ (n : ℕ). counted n) (sent at));
      responses_sent = λ at.
          sent_next (same_direction m.at at) (responses_sent ms at) (count_in old.responses_sent at) (count_in responses at) (has.responses_sent at) (counts at)
          ∙ sym (ap (λ (n : ℕ). counted n) (received at));
      requests = λ key.
          subst (λ (r : Option (Direction × ℕ)). IsFound old.requests_sent old.requests.asked.items (place_in old.requests key) r)
          (sym (ap (λ (k : Kind). option_or (request_of ms key) (cond (is_request k && same_query (m.frame, requests_sent ms m.at) key) (Some (m.at, m.nth)) None)) is
          ∙ no_request (request_of ms key)))
          (has.requests key);
      replies = λ asked.
          answers asked
          ∙ (λ i. option_or (has.replies asked i) (cond (nat_lt asked.0 m.frame && is_query asked (request_is i)) (Some m.frame) None))
          ∙ sym (ap (λ (k : Kind). option_or (reply_to ms asked) (cond (nat_lt asked.0 m.frame && is_query asked (answered_of ms m.at k)) (Some m.frame) None)) is);
    }
