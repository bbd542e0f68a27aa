-- The first reply to a request of HTTP, among the messages of frames in their order.
use Rattle.std.proofs.Common.{◌≡◌, ◌==◌, ◌&&◌, ◌+◌, ◌<◌, ◌≤◌, ◌⊎◌, ℕ, Bool, true, false, not, cond, nat_lt, List, [], ◌∷◌, Option, Some, None, option_and_then, refl, sym, ap, ◌∙◌, subst, inl, inr, arith}
use Rattle.std.proofs.lemmas.Bool.{and_parts, cond-true, eq-eqb, eqb-true, false≢true, lt-ltb, ltb-true}
use Rattle.std.specs.List.{AllByRecursion as Each}
use Rattle.std.specs.Option.{option_or}
use Rattle.second_pass.specs.declared.messages.Direction.{Direction}
use Rattle.second_pass.specs.declared.messages.Kind.{Kind}
use Rattle.second_pass.specs.declared.messages.Kind.TheVariants.{Request, Response}
use Rattle.second_pass.specs.declared.messages.Message.{Message}
use Rattle.second_pass.specs.Back.{CameAfter, IsLeast}
use Rattle.second_pass.specs.Messages.{is_other, is_request, requests_sent, responses_sent, same_direction}
use Rattle.second_pass.specs.Named.{is_query, same_query}
use Rattle.second_pass.specs.Replies.{answered_of, by_other, reply_to, request_of}
use Rattle.second_pass.proofs.FirstLemmas.{AreRising, Passes, came_each, came_order, each_same, least_same, oldest_least, oldest_of}
use Rattle.second_pass.proofs.MessageLemmas.{direction_is, no_less, same_own}

-- the messages of a frame go in one direction, and are numbered in their order
abbrev pub IsBefore : Message → Message → Type 0
IsBefore e m = (e.frame < m.frame) ⊎ (e.frame ≡ m.frame) × (e.at ≡ m.at) × (e.nth < m.nth)

abbrev pub AreInTurn : List Message → Type 0
AreInTurn [] = Unit {0}
AreInTurn (m ∷ ms) = Each (λ (e : Message). IsBefore e m) ms × AreInTurn ms

turn_at : (m : Message) (earlier ms : List Message) → AreInTurn ms → CameAfter m earlier ms → Each (λ (e : Message). IsBefore e m) earlier × AreInTurn earlier
turn_at m earlier [] turn came = absurd came
turn_at m earlier (x ∷ xs) turn (inl same) = (
  subst (λ (l : List Message). Each (λ (e : Message). IsBefore e m) l) same.1 (subst (λ (n : Message). Each (λ (e : Message). IsBefore e n) xs) same.0 turn.0),
  subst (λ (l : List Message). AreInTurn l) same.1 turn.1,
)
turn_at m earlier (x ∷ xs) turn (inr came) = turn_at m earlier xs turn.1 came

-- one that came before another
is_before : (e : Message) (before : List Message) (m : Message) (earlier ms : List Message) → AreInTurn ms → CameAfter m earlier ms → CameAfter e before earlier → IsBefore e m
is_before e before m earlier ms turn came one = came_each (λ (x : Message). IsBefore x m) e before earlier (turn_at m earlier ms turn came).0 one

-- two of a frame with the same number are one
same_place : (one : Message) (before : List Message) (other : Message) (earlier ms : List Message) → AreInTurn ms → CameAfter one before ms → CameAfter other earlier ms
    → one.frame ≡ other.frame → one.nth ≡ other.nth → (one ≡ other) × (before ≡ earlier)
same_place one before other earlier ms turn came_one came_other frames numbers = elim (came_order one before other earlier ms came_one came_other) [
  | inl same ↦ same
  | inr apart ↦ elim apart [
    | inl first ↦ elim (is_before one before other earlier ms turn came_other first) [
      | inl less ↦ absurd (omega (arith, less, frames))
      | inr own ↦ let less : one.nth < other.nth = own.2 in absurd (omega (arith, less, numbers))
    ]
    | inr last ↦ elim (is_before other earlier one before ms turn came_one last) [
      | inl less ↦ absurd (omega (arith, less, frames))
      | inr own ↦ let less : other.nth < one.nth = own.2 in absurd (omega (arith, less, numbers))
    ]
  ]
]

-- a request is one more of its direction
sent_more : (r : Message) (before ms : List Message) → r.kind ≡ Request → CameAfter r before ms → requests_sent before r.at < requests_sent ms r.at
sent_more r before [] kind came = absurd came
sent_more r before (m ∷ ms) kind (inl same) =
    let test : (is_request m.kind && same_direction m.at r.at) ≡ true
    = (λ i. is_request ((same.0 i).kind) && same_direction ((same.0 i).at) r.at) ∙ (λ i. is_request (kind i) && same_direction r.at r.at) ∙ same_own r.at in
    let more : requests_sent (m ∷ ms) r.at ≡ requests_sent ms r.at + 1 = cond-true _ _ _ test in
    let rest : requests_sent ms r.at ≡ requests_sent before r.at = ap (λ (l : List Message). requests_sent l r.at) same.1 in
    omega (arith, more, rest)
sent_more r before (m ∷ ms) kind (inr came) =
    no_less (is_request m.kind && same_direction m.at r.at) (requests_sent ms r.at) (requests_sent before r.at) (sent_more r before ms kind came)

-- the request that is found by its frame and number
record IsFound (key : ℕ × ℕ) (request : Direction × ℕ) (ms : List Message) : Type 0 where
  one : Message
  earlier : List Message
  came : CameAfter one earlier ms
  kind : one.kind ≡ Request
  frame : one.frame ≡ key.0
  number : requests_sent earlier one.at ≡ key.1
  at : one.at ≡ request.0
  nth : one.nth ≡ request.1

found : (key : ℕ × ℕ) (request : Direction × ℕ) (ms : List Message) → request_of ms key ≡ Some request → IsFound key request ms
found key request [] is = absurd (cc)
found key request (m ∷ ms) is =
    by (found key request ms) (request_of ms key) refl m.kind refl (same_query (m.frame, requests_sent ms m.at) key) refl is
  where
    more : IsFound key request ms → IsFound key request (m ∷ ms)
    more f = record { one = f.one; earlier = f.earlier; came = inr f.came; kind = f.kind; frame = f.frame; number = f.number; at = f.at; nth = f.nth }

    by : (request_of ms key ≡ Some request → IsFound key request ms) → (before : Option (Direction × ℕ)) → request_of ms key ≡ before
        → (kind : Kind) → m.kind ≡ kind → (test : Bool) → same_query (m.frame, requests_sent ms m.at) key ≡ test
        → option_or before (cond (is_request kind && test) (Some (m.at, m.nth)) None) ≡ Some request → IsFound key request (m ∷ ms)
    by again (Some before) known kind kind_is test test_is is = more (again (known ∙ is))
    by again None known Request kind_is true test_is is =
        let same : (m.at, m.nth) ≡ request = cc in
        let parts = and_parts (m.frame == key.0) (requests_sent ms m.at == key.1) test_is in
        record {
          one = m;
          earlier = ms;
          came = inl (refl, refl);
          kind = kind_is;
          frame = eqb-true m.frame key.0 parts.0;
          number = eqb-true (requests_sent ms m.at) key.1 parts.1;
          at = ap (λ (r : Direction × ℕ). r.0) same;
          nth = ap (λ (r : Direction × ℕ). r.1) same;
        }
    by again None known Request kind_is false test_is is = absurd (cc)
    by again None known (Response link) kind_is test test_is is = absurd (cc)

-- a request is found by its frame, and how many of its direction came before it
request_here : (q : Message) (before ms : List Message) → AreInTurn ms → CameAfter q before ms → q.kind ≡ Request
    → request_of ms (q.frame, requests_sent before q.at) ≡ Some (q.at, q.nth)
request_here q before [] turn came kind = absurd came
request_here q before (m ∷ ms) turn (inl same) kind =
    (λ i. request_of (same.0 i ∷ same.1 i) (q.frame, requests_sent before q.at))
    ∙ (λ i. option_or (none (request_of before (q.frame, requests_sent before q.at)) refl i) (cond (test i) (Some (q.at, q.nth)) None))
  where
    test : (is_request q.kind && same_query (q.frame, requests_sent before q.at) (q.frame, requests_sent before q.at)) ≡ true
    test = λ i. is_request (kind i) && (eq-eqb q.frame q.frame refl i && eq-eqb (requests_sent before q.at) (requests_sent before q.at) refl i)

    earlier_own : Each (λ (e : Message). IsBefore e q) before
    earlier_own = (turn_at q before (m ∷ ms) turn (inl same)).0

    none : (o : Option (Direction × ℕ)) → request_of before (q.frame, requests_sent before q.at) ≡ o → o ≡ None
    none None is = refl
    none (Some request) is =
        let f = found (q.frame, requests_sent before q.at) request before is in
        let frame : f.one.frame ≡ q.frame = f.frame in
        let number : requests_sent f.earlier f.one.at ≡ requests_sent before q.at = f.number in
        let less : requests_sent f.earlier f.one.at < requests_sent before f.one.at = sent_more f.one f.earlier before f.kind f.came in
        elim (came_each (λ (e : Message). IsBefore e q) f.one f.earlier before earlier_own f.came) [
          | inl sooner ↦ absurd (omega (arith, sooner, frame))
          | inr own ↦
              let there : requests_sent before f.one.at ≡ requests_sent before q.at = ap (λ (d : Direction). requests_sent before d) own.1 in
              absurd (omega (arith, number, less, there))
        ]
request_here q before (m ∷ ms) turn (inr came) kind =
    ap (λ (o : Option (Direction × ℕ)). option_or o (cond (is_request m.kind && same_query (m.frame, requests_sent ms m.at) (q.frame, requests_sent before q.at)) (Some (m.at, m.nth)) None))
    (request_here q before ms turn.1 came kind)

-- a message replies to a request
abbrev replies : ℕ × ℕ → List Message → Message → Bool
replies request ms m = nat_lt request.0 m.frame && is_query request (answered_of ms m.at m.kind)

reply_same : (request : ℕ × ℕ) (ms : List Message) → reply_to ms request ≡ oldest_of (λ (m : Message). m.frame) (replies request) ms
reply_same request [] = refl
reply_same request (m ∷ ms) = ap (λ (o : Option ℕ). option_or o (cond (replies request ms m) (Some m.frame) None)) (reply_same request ms)

pub record IsReply (q : Message) (before : List Message) (m : Message) (earlier : List Message) : Type 0 where
  pub later : q.frame < m.frame
  pub kind : m.kind ≡ Response (Some q.frame)
  pub other : is_other q.at m.at ≡ true
  pub turn : responses_sent earlier m.at ≡ requests_sent before q.at

-- a request came before those of later frames
asked_before : (q : Message) (before : List Message) (m : Message) (earlier ms : List Message) → AreInTurn ms → CameAfter q before ms → CameAfter m earlier ms
    → q.frame < m.frame → CameAfter q before earlier
asked_before q before m earlier ms turn asked came later = elim (came_order q before m earlier ms asked came) [
  | inl same ↦ let frame : q.frame ≡ m.frame = ap (λ (x : Message). x.frame) same.0 in absurd (omega (arith, later, frame))
  | inr apart ↦ elim apart [
    | inl first ↦ first
    | inr last ↦ elim (is_before m earlier q before ms turn asked last) [
      | inl sooner ↦ absurd (omega (arith, later, sooner))
      | inr own ↦ let frame : m.frame ≡ q.frame = own.0 in absurd (omega (arith, later, frame))
    ]
  ]
]

reply_passes : (q : Message) (before : List Message) (m : Message) (earlier ms : List Message) → AreInTurn ms → CameAfter q before ms → q.kind ≡ Request → CameAfter m earlier ms
    → IsReply q before m earlier → replies (q.frame, q.nth) earlier m ≡ true
reply_passes q before m earlier ms turn asked kind came r =
    let there = request_here q before earlier (turn_at m earlier ms turn came).1 (asked_before q before m earlier ms turn asked came r.later) kind in
    (λ i. lt-ltb q.frame m.frame r.later i && is_query (q.frame, q.nth) (answered_of earlier m.at (r.kind i)))
    ∙ (λ i. is_query (q.frame, q.nth) (option_and_then (by_other q.frame m.at) (request_of earlier (q.frame, r.turn i))))
    ∙ (λ i. is_query (q.frame, q.nth) (option_and_then (by_other q.frame m.at) (there i)))
    ∙ (λ i. is_query (q.frame, q.nth) (cond (r.other i) (Some (q.frame, q.nth)) None))
    ∙ (λ i. eq-eqb q.frame q.frame refl i && eq-eqb q.nth q.nth refl i)

-- the request that a message which replies to one was found to answer
record IsFoundFor (request : ℕ × ℕ) (ms : List Message) (m : Message) : Type 0 where
  later : request.0 < m.frame
  kind : m.kind ≡ Response (Some request.0)
  one : Message
  before : List Message
  came : CameAfter one before ms
  asks : one.kind ≡ Request
  frame : one.frame ≡ request.0
  nth : one.nth ≡ request.1
  other : is_other one.at m.at ≡ true
  turn : requests_sent before one.at ≡ responses_sent ms m.at

found_for : (request : ℕ × ℕ) (ms : List Message) (m : Message) → replies request ms m ≡ true → IsFoundFor request ms m
found_for request ms m passes =
    by_kind m.kind refl (and_parts (nat_lt request.0 m.frame) (is_query request (answered_of ms m.at m.kind)) passes).1
  where
    later : request.0 < m.frame
    later = ltb-true request.0 m.frame (and_parts (nat_lt request.0 m.frame) (is_query request (answered_of ms m.at m.kind)) passes).0

    by_test : (frame : ℕ) → m.kind ≡ Response (Some frame) → (asked : Direction × ℕ) → request_of ms (frame, responses_sent ms m.at) ≡ Some asked
        → (test : Bool) → is_other asked.0 m.at ≡ test → is_query request (cond test (Some (frame, asked.1)) None) ≡ true → IsFoundFor request ms m
    by_test frame kind asked known true other is =
        let parts = and_parts (frame == request.0) (asked.1 == request.1) is in
        let frames : frame ≡ request.0 = eqb-true frame request.0 parts.0 in
        let f = found (frame, responses_sent ms m.at) asked ms known in
        record {
          later = later;
          kind = kind ∙ ap (λ (n : ℕ). Response (Some n)) frames;
          one = f.one;
          before = f.earlier;
          came = f.came;
          asks = f.kind;
          frame = f.frame ∙ frames;
          nth = f.nth ∙ eqb-true asked.1 request.1 parts.1;
          other = ap (λ (d : Direction). is_other d m.at) f.at ∙ other;
          turn = f.number;
        }
    by_test frame kind asked known false other is = absurd (false≢true is)

    by_request : (frame : ℕ) → m.kind ≡ Response (Some frame) → (asked : Option (Direction × ℕ)) → request_of ms (frame, responses_sent ms m.at) ≡ asked
        → is_query request (option_and_then (by_other frame m.at) asked) ≡ true → IsFoundFor request ms m
    by_request frame kind None known is = absurd (false≢true is)
    by_request frame kind (Some asked) known is = by_test frame kind asked known (is_other asked.0 m.at) refl is

    by_kind : (kind : Kind) → m.kind ≡ kind → is_query request (answered_of ms m.at kind) ≡ true → IsFoundFor request ms m
    by_kind Request kind is = absurd (false≢true is)
    by_kind (Response None) kind is = absurd (false≢true is)
    by_kind (Response (Some frame)) kind is = by_request frame kind (request_of ms (frame, responses_sent ms m.at)) refl is

passes_reply : (q : Message) (before : List Message) (m : Message) (earlier ms : List Message) → AreInTurn ms → CameAfter q before ms → CameAfter m earlier ms
    → replies (q.frame, q.nth) earlier m ≡ true → IsReply q before m earlier
passes_reply q before m earlier ms turn asked came passes =
    let f = found_for (q.frame, q.nth) earlier m passes in
    let same = same_place f.one f.before q before earlier (turn_at m earlier ms turn came).1 f.came (asked_before q before m earlier ms turn asked came f.later) f.frame f.nth in
    record {
      later = f.later;
      kind = f.kind;
      other = ap (λ (x : Message). is_other x.at m.at) (sym same.0) ∙ f.other;
      turn = sym f.turn ∙ (λ i. requests_sent (same.1 i) ((same.0 i).at));
    }

-- no request of a frame has a number: then it has no reply
pub none_asked : (request : ℕ × ℕ) (ms : List Message)
    → ((q : Message) (before : List Message) → CameAfter q before ms → q.kind ≡ Request → q.frame ≡ request.0 → q.nth ≡ request.1 → ⊥)
    → reply_to ms request ≡ None
none_asked request [] none = refl
none_asked request (m ∷ ms) none =
    (λ i. option_or (none_asked request ms (λ q before came. none q before (inr came)) i) (cond (replies request ms m) (Some m.frame) None))
    ∙ by (replies request ms m) refl
  where
    by : (test : Bool) → replies request ms m ≡ test → cond test (Some m.frame) None ≡ None
    by true is = let f = found_for request ms m is in absurd (none f.one f.before (inr f.came) f.asks f.frame f.nth)
    by false is = refl

-- a frame has a reply
pub record HasReply (q : Message) (before ms : List Message) (frame : ℕ) : Type 0 where
  pub m : Message
  pub earlier : List Message
  pub came : CameAfter m earlier ms
  pub number : m.frame ≡ frame
  pub is : IsReply q before m earlier

rising : (ms : List Message) → AreInTurn ms → AreRising (λ (m : Message). m.frame) ms
rising [] turn = tt
rising (m ∷ ms) turn = (each_same (λ (e : Message). IsBefore e m) (λ (e : Message). e.frame ≤ m.frame) low ms turn.0, rising ms turn.1)
  where
    low : (e : Message) → IsBefore e m → e.frame ≤ m.frame
    low e (inl less) = omega (arith, less)
    low e (inr own) = let frame : e.frame ≡ m.frame = own.0 in omega (arith, frame)

-- the frame of the first reply
pub reply_least : (q : Message) (before ms : List Message) → AreInTurn ms → CameAfter q before ms → q.kind ≡ Request → IsLeast (HasReply q before ms) (reply_to ms (q.frame, q.nth))
reply_least q before ms turn asked kind =
    let number : Message → ℕ = λ m. m.frame in
    subst (λ (o : Option ℕ). IsLeast (HasReply q before ms) o) (sym (reply_same (q.frame, q.nth) ms))
    (least_same (Passes Message number (replies (q.frame, q.nth)) ms) (HasReply q before ms)
    (λ n p. record { m = p.one; earlier = p.earlier; came = p.came; number = p.numbered; is = passes_reply q before p.one p.earlier ms turn asked p.came p.passes })
    (λ n h. record { one = h.m; earlier = h.earlier; came = h.came; numbered = h.number; passes = reply_passes q before h.m h.earlier ms turn asked kind h.came h.is })
    (oldest_of number (replies (q.frame, q.nth)) ms) (oldest_least number (replies (q.frame, q.nth)) ms (rising ms turn)))

-- directions of one stream
pub other_is : (one other : Direction) → one.stream ≡ other.stream → (one ≡ other → ⊥) → is_other one other ≡ true
other_is one other streams apart = by (same_direction one other) refl
  where
    by : (test : Bool) → same_direction one other ≡ test → is_other one other ≡ true
    by true same = absurd (apart (direction_is one other same))
    by false differ = λ i. eq-eqb one.stream other.stream streams i && not (differ i)

pub is_apart : (one other : Direction) → is_other one other ≡ true → (one.stream ≡ other.stream) × (one ≡ other → ⊥)
is_apart one other is =
    let parts = and_parts (one.stream == other.stream) (not (same_direction one other)) is in (
      eqb-true one.stream other.stream parts.0,
      λ same.
          let own : same_direction one other ≡ true = ap (λ (d : Direction). same_direction one d) (sym same) ∙ same_own one in
          false≢true (sym (ap (λ (b : Bool). not b) own) ∙ parts.1),
    )
