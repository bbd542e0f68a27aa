-- The laws of the head at the front of bytes.
use Rattle.std.proofs.Common.{◌≡◌, ℕ, ◌+◌, ◌≤◌, ◌<◌, Bool, true, false, List, [], ◌∷◌, ◌++◌, length, take, drop, refl, sym, ap, ◌∙◌, subst, arith, take-append-drop, get_or, ◌≢◌, Option, Some, None}
use Rattle.std.specs.Prelude.{◌==◌, codes, IfSome, IfNone}
use Rattle.std.specs.Option.{option_map}
use Rattle.std.proofs.lemmas.Bool.{cond-true, cond-false, ne_eqb}
use Rattle.std.proofs.lemmas.List.{take-append-le, drop_more, drop_all}
use Rattle.httparse.specs.Grammar.{print_request, print_response}
use Rattle.httparse.specs.Pieces.{is_newline}
use Rattle.httparse.proofs.GrammarLemmas.{ReadsRequest-append, ReadsResponse-append}
use Rattle.stream_messages.specs.Heads.{Head, Request, Response, print_head, fields_of, behind, start_at, kind_by, is_request_at, request_of, response_of, head_by, head_of, StartsWith, HeadLaws}
use Rattle.stream_messages.specs.Limits.{field_limit}
use Rattle.stream_messages.proofs.SplitLemmas.{request_start, response_start}
use Rattle.stream_messages.proofs.HeadLemmas.{none_of, request_of-says, request_of-is, response_of-says, response_of-is, take-front}

module _ {A B : Type 0} (f : A → B) where
  pub mapped : (o : Option A) (b : B) → option_map f o ≡ Some b → (a : A) × (o ≡ Some a) × (f a ≡ b)
  mapped None b e = absurd (cc)
  mapped (Some a) b e = (a, refl, cc)

-- ---- the kind

kind_by-append : (p xs more : List ℕ) (k : Bool) → kind_by p xs ≡ Some k → kind_by p (xs ++ more) ≡ Some k
kind_by-append [] xs more k e = e
kind_by-append (p ∷ ps) [] more k e = absurd (cc)
kind_by-append (p ∷ ps) (b ∷ bs) more k e = by (λ i. kind_by-append ps bs more k i) (b == p) refl
  where
    by : (kind_by ps bs ≡ Some k → kind_by ps (bs ++ more) ≡ Some k) → (t : Bool) → (b == p) ≡ t → kind_by (p ∷ ps) (b ∷ (bs ++ more)) ≡ Some k
    by go true same = cond-true _ _ _ same ∙ go (sym (cond-true _ _ _ same) ∙ e)
    by go false other = cond-false _ _ _ other ∙ sym (cond-false _ _ _ other) ∙ e

kind_from-append : (p : ℕ) (ps xs more : List ℕ) (k : Bool) → kind_by (p ∷ ps) (behind is_newline xs) ≡ Some k
    → kind_by (p ∷ ps) (behind is_newline (xs ++ more)) ≡ Some k
kind_from-append p ps [] more k e = absurd (cc)
kind_from-append p ps (b ∷ bs) more k e = by (λ i. kind_from-append p ps bs more k i) (is_newline b) refl
  where
    by : (kind_by (p ∷ ps) (behind is_newline bs) ≡ Some k → kind_by (p ∷ ps) (behind is_newline (bs ++ more)) ≡ Some k) → (t : Bool) → is_newline b ≡ t → kind_by (p ∷ ps) (behind is_newline (b ∷ (bs ++ more))) ≡ Some k
    by go true blank = ap (kind_by (p ∷ ps)) (cond-true _ _ _ blank)
        ∙ go (sym (ap (kind_by (p ∷ ps)) (cond-true _ _ _ blank)) ∙ e)
    by go false other = ap (kind_by (p ∷ ps)) (cond-false _ _ _ other)
        ∙ kind_by-append (p ∷ ps) (b ∷ bs) more k (sym (ap (kind_by (p ∷ ps)) (cond-false _ _ _ other)) ∙ e)

pub kind-append : (xs more : List ℕ) (k : Bool) → is_request_at xs ≡ Some k → is_request_at (xs ++ more) ≡ Some k
unfolding is_request_at
kind-append xs more k e = kind_from-append 72 (84 ∷ 84 ∷ 80 ∷ 47 ∷ []) xs more k e

kind_known : (p xs : List ℕ) → length p ≤ length xs → (k : Bool) × (kind_by p xs ≡ Some k)
kind_known [] xs enough = (false, refl)
kind_known (p ∷ ps) [] enough = absurd (omega arith)
kind_known (p ∷ ps) (b ∷ bs) enough = by (kind_known ps bs (omega arith)) (b == p) refl
  where
    by : ((k : Bool) × (kind_by ps bs ≡ Some k)) → (t : Bool) → (b == p) ≡ t → (k : Bool) × (kind_by (p ∷ ps) (b ∷ bs) ≡ Some k)
    by rest true same = (rest.0, cond-true _ _ _ same ∙ rest.1)
    by rest false other = (true, cond-false _ _ _ other)

pub kind-shrinks : (xs more : List ℕ) (k : Bool) → 5 ≤ length (start_at xs) → is_request_at (xs ++ more) ≡ Some k → is_request_at xs ≡ Some k
unfolding is_request_at
kind-shrinks xs more k enough e =
    let known = kind_known (codes "HTTP/") (start_at xs) enough in
    let longer : is_request_at (xs ++ more) ≡ Some known.0 = kind-append xs more known.0 known.1 in
    known.1 ∙ sym longer ∙ e

pub kind_none : (p xs : List ℕ) (i : ℕ) → i < length p → length xs ≤ i → kind_by (drop i p) (drop i xs) ≡ None
kind_none p xs i inside past = rw (drop_more p i 0 inside, drop_all i xs past) refl

pub kind_same : (p xs : List ℕ) (i : ℕ) → i < length p → i < length xs → get_or xs i 0 ≡ get_or p i 0
    → kind_by (drop (i + 1) p) (drop (i + 1) xs) ≡ kind_by (drop i p) (drop i xs)
kind_same p xs i in_p in_xs same =
    rw (drop_more p i 0 in_p, drop_more xs i 0 in_xs) (sym (cond-true _ _ _ (eqb_is _ _ same)))
  where
    eqb_is : (a b : ℕ) → a ≡ b → (a == b) ≡ true
    eqb_is a b e = grind arith

pub kind_other : (p xs : List ℕ) (i : ℕ) → i < length p → i < length xs → get_or xs i 0 ≢ get_or p i 0
    → kind_by (drop i p) (drop i xs) ≡ Some true
kind_other p xs i in_p in_xs other =
    rw (drop_more p i 0 in_p, drop_more xs i 0 in_xs) (cond-false _ _ _ (ne_eqb _ _ other))

-- ---- the law both ways

pub head_of-says : (bytes : List ℕ) (h : Head) → head_of bytes ≡ Some h → StartsWith bytes h (drop (length (print_head h)) bytes)
unfolding head_of
head_of-says bytes h e = by (is_request_at bytes) refl e
  where
    by : (o : Option Bool) → is_request_at bytes ≡ o → head_by o bytes ≡ Some h → StartsWith bytes h (drop (length (print_head h)) bytes)
    by None kind found = absurd (cc)
    by (Some true) kind found =
        let m = mapped Request (request_of bytes) h found in
        let says = request_of-says bytes m.0 m.1 in
        subst (λ (h : Head). StartsWith bytes h (drop (length (print_head h)) bytes)) m.2
        (record { reads = (kind, says.0); short = says.1; few = says.2 })
    by (Some false) kind found =
        let m = mapped Response (response_of bytes) h found in
        let says = response_of-says bytes m.0 m.1 in
        subst (λ (h : Head). StartsWith bytes h (drop (length (print_head h)) bytes)) m.2
        (record { reads = (kind, says.0); short = says.1; few = says.2 })

pub head_of-is : (bytes : List ℕ) (h : Head) (rest : List ℕ) → StartsWith bytes h rest → head_of bytes ≡ Some h
unfolding head_of
head_of-is bytes (Request h) rest s =
    ap (λ (o : Option Bool). head_by o bytes) s.reads.0 ∙ ap (option_map Request) (request_of-is bytes h rest s.reads.1 s.short s.few)
head_of-is bytes (Response h) rest s =
    ap (λ (o : Option Bool). head_by o bytes) s.reads.0 ∙ ap (option_map Response) (response_of-is bytes h rest s.reads.1 s.short s.few)

-- where there was room for the most that a head may have, there is none
none_in_room : (bytes : List ℕ) (room : ℕ) → room ≡ field_limit → IfSome (head_of bytes) (λ h. room < length (fields_of h)) → head_of bytes ≡ None
none_in_room bytes room is more = none_of (head_of bytes) λ h e.
    let few : length (fields_of h) ≤ field_limit = (head_of-says bytes h e).few in
    let here : room < length (fields_of h) = subst (λ (o : Option Head). IfSome o (λ h. room < length (fields_of h))) e more in
    omega (arith, is, few, here)

pub missed_in_room : {A : Type 0} (bytes : List ℕ) (room : ℕ) (found : Option A) → room ≡ field_limit → IfNone found (IfSome (head_of bytes) (λ h. room < length (fields_of h)))
    → IfNone found (head_of bytes ≡ None)
missed_in_room bytes room None is more = none_in_room bytes room is more
missed_in_room bytes room (Some a) is more = tt

pub found_in_room : {A : Type 0} (f : Head → A) (bytes : List ℕ) (room : ℕ) (found : Option A) → room ≡ field_limit → IfSome found (λ a. option_map f (head_of bytes) ≡ Some a)
    → IfNone found (IfSome (head_of bytes) (λ h. room < length (fields_of h))) → found ≡ option_map f (head_of bytes)
found_in_room f bytes room None is some none = sym (ap (option_map f) (none_in_room bytes room is none))
found_in_room f bytes room (Some a) is some none = sym some

starts-append : (bytes more : List ℕ) (h : Head) (rest : List ℕ) → StartsWith bytes h rest → StartsWith (bytes ++ more) h (rest ++ more)
starts-append bytes more (Request h) rest s = record {
  reads = (kind-append bytes more true s.reads.0, ReadsRequest-append bytes h rest more s.reads.1);
  short = s.short;
  few = s.few;
}
starts-append bytes more (Response h) rest s = record {
  reads = (kind-append bytes more false s.reads.0, ReadsResponse-append bytes h rest more s.reads.1);
  short = s.short;
  few = s.few;
}

pub head_of-stays : (bytes more : List ℕ) (h : Head) → head_of bytes ≡ Some h → head_of (bytes ++ more) ≡ Some h
head_of-stays bytes more h e = head_of-is (bytes ++ more) h _ (starts-append bytes more h _ (head_of-says bytes h e))

front_of : (bytes more front rest : List ℕ) → bytes ++ more ≡ front ++ rest → length front ≤ length bytes → bytes ≡ front ++ drop (length front) bytes
front_of bytes more front rest e enough =
    let same : take (length front) bytes ≡ front = sym (take-append-le (length front) bytes more enough) ∙ ap (take (length front)) e ∙ take-front front rest in
    sym (take-append-drop (length front) bytes) ∙ ap (λ (t : List ℕ). t ++ drop (length front) bytes) same

starts-shrinks : (bytes more : List ℕ) (h : Head) (rest : List ℕ) → StartsWith (bytes ++ more) h rest → length (print_head h) ≤ length bytes
    → StartsWith bytes h (drop (length (print_head h)) bytes)
starts-shrinks bytes more (Request h) rest s enough =
    let front = front_of bytes more (print_request h) rest s.reads.1.1 enough in
    let start : 5 ≤ length (start_at bytes) = subst (λ (t : List ℕ). 5 ≤ length (start_at t)) (sym front) (request_start h _ s.reads.1.0) in
    record { reads = (kind-shrinks bytes more true start s.reads.0, (s.reads.1.0, front)); short = s.short; few = s.few }
starts-shrinks bytes more (Response h) rest s enough =
    let front = front_of bytes more (print_response h) rest s.reads.1.1 enough in
    let start : 5 ≤ length (start_at bytes) = subst (λ (t : List ℕ). 5 ≤ length (start_at t)) (sym front) (response_start h _) in
    record { reads = (kind-shrinks bytes more false start s.reads.0, (s.reads.1.0, front)); short = s.short; few = s.few }

pub head_of-shrinks : (bytes more : List ℕ) (h : Head) → head_of (bytes ++ more) ≡ Some h → length (print_head h) ≤ length bytes → head_of bytes ≡ Some h
head_of-shrinks bytes more h e enough = head_of-is bytes h _ (starts-shrinks bytes more h _ (head_of-says (bytes ++ more) h e) enough)

pub laws_of_heads : HeadLaws
laws_of_heads = record {
  exact = λ bytes h. (head_of-says bytes h, λ s. head_of-is bytes h _ s);
  stays = head_of-stays;
  shrinks = head_of-shrinks;
}
