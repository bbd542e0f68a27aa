-- What is found of a head is exactly the head that there is.
use Rattle.std.proofs.Common.{◌≡◌, ℕ, ◌≤◌, Bool, true, false, IsTrue, ◌&&◌, List, [], ◌∷◌, ◌++◌, length, take, drop, refl, sym, ap, ◌∙◌, subst, arith, take-append-drop, length-append, length-take, append-nil, Option, Some, None}
use Rattle.std.specs.Prelude.{◌<◌, nat_le, nat_lt, All, if◌then◌else◌, IfSome}
use Rattle.std.specs.Bool.{Decides}
use Rattle.std.specs.List.{list_all}
use Rattle.std.specs.Char.{is_ascii_digit}
use Rattle.std.proofs.lemmas.Bool.{false≢true}
use Rattle.std.proofs.lemmas.Bool.Decides.{Decides-and, Decides-by_and, Decides-like, Decides-eqb, Decides-ltb}
use Rattle.std.proofs.lemmas.Slice.Eq.{bytes_eq-Decides}
use Rattle.std.proofs.lemmas.Str.{IsUtf8-from_is_utf8, is_utf8-from_IsUtf8}
use Rattle.std.proofs.lemmas.List.{length-map}
use Rattle.httparse.specs.Grammar.{AllPass, IsToken, is_token, is_token_byte, is_uri_byte, is_value_byte, Field, IsField, IsRequestHead, IsResponseHead, RequestHead, ResponseHead, print_request, print_response, ReadsRequest, ReadsResponse, reason_phrase}
use Rattle.httparse.specs.Grammar.{HasNoRequest, HasNoResponse}
use Rattle.httparse.specs.Spans.{AreFieldsAt, IsRequestAt, IsResponseAt, RequestOverflows, ResponseOverflows, header_bytes, name_and_value}
use Rattle.httparse.specs.declared.spans.HeaderSpan.{HeaderSpan}
use Rattle.httparse.specs.declared.spans.RequestSpans.{RequestSpans}
use Rattle.httparse.specs.declared.spans.ResponseSpans.{ResponseSpans}
use Rattle.stream_messages.specs.Limits.{head_limit, field_limit}
use Rattle.stream_messages.specs.Heads.{is_field, is_request, is_response, starts_with, fits, request_in, response_in, request_if, response_if, request_of, response_of}
use Rattle.stream_messages.proofs.SplitLemmas.{request_in-print, response_in-print}

all-Decides : (test : ℕ → Bool) (xs : List ℕ) → Decides (list_all test xs) (AllPass test xs)
all-Decides test = Decides-by_and test (λ b. IsTrue (test b)) (list_all test) (λ b. (λ e. e, λ e. e)) refl (λ x xs. refl)

nat_le-Decides : (a b : ℕ) → Decides (nat_le a b) (a ≤ b)
nat_le-Decides a b = (λ e. grind arith, λ e. grind arith)

token-Decides : (xs : List ℕ) → Decides (is_token xs) (IsToken xs)
token-Decides xs = Decides-and (nat_lt 0 (length xs)) (list_all is_token_byte xs) (Decides-ltb 0 (length xs)) (all-Decides is_token_byte xs)

field-Decides : (f : Field) → Decides (is_field f) (IsField f)
field-Decides f =
    Decides-like (is_field f) (λ p. record { name = p.0; raw = p.1 }) (λ is. (is.name, is.raw))
    (Decides-and (is_token f.name) (list_all is_value_byte f.raw) (token-Decides f.name) (all-Decides is_value_byte f.raw))

fields-Decides : (fs : List Field) → Decides (list_all is_field fs) (All IsField fs)
fields-Decides = Decides-by_and is_field IsField (list_all is_field) field-Decides refl (λ x xs. refl)

request-Decides : (h : RequestHead) → Decides (is_request h) (IsRequestHead h)
request-Decides h =
    Decides-like (is_request h)
    (λ p. record { method = p.0; target = (p.1.0, p.1.1.0); target_text = p.1.1.1.0; minor = p.1.1.1.1.0; fields = p.1.1.1.1.1 })
    (λ is. (is.method, (is.target.0, (is.target.1, (is.target_text, (is.minor, is.fields))))))
    (Decides-and _ _ (token-Decides h.method) (Decides-and _ _ (Decides-ltb 0 (length h.target)) (Decides-and _ _ (all-Decides is_uri_byte h.target)
    (Decides-and _ _ (IsUtf8-from_is_utf8 h.target, is_utf8-from_IsUtf8 h.target) (Decides-and _ _ (nat_le-Decides h.minor 1) (fields-Decides h.fields))))))

response-Decides : (h : ResponseHead) → Decides (is_response h) (IsResponseHead h)
response-Decides h =
    Decides-like (is_response h)
    (λ p. record { minor = p.0; digits = (p.1.0, p.1.1.0); reason = p.1.1.1.0; fields = p.1.1.1.1 })
    (λ is. (is.minor, (is.digits.0, (is.digits.1, (is.reason, is.fields)))))
    (Decides-and _ _ (nat_le-Decides h.minor 1) (Decides-and _ _ (Decides-eqb (length h.digits) 3) (Decides-and _ _ (all-Decides is_ascii_digit h.digits)
    (Decides-and _ _ (all-Decides is_value_byte (reason_phrase h.reason)) (fields-Decides h.fields)))))

pub take-front : (front rest : List ℕ) → take (length front) (front ++ rest) ≡ front
take-front [] rest = refl
take-front (x ∷ front) rest = ap (λ (t : List ℕ). x ∷ t) (take-front front rest)

pub drop-front : (front rest : List ℕ) → drop (length front) (front ++ rest) ≡ rest
drop-front [] rest = refl
drop-front (x ∷ front) rest = drop-front front rest

-- what the test of the limits and of the front says
record Fits (front : List ℕ) (fields : List Field) (bytes : List ℕ) : Type 0 where
  pub reads : bytes ≡ front ++ drop (length front) bytes
  pub short : length front ≤ head_limit
  pub few : length fields ≤ field_limit

front-Decides : (front bytes : List ℕ) → Decides (starts_with front bytes) (bytes ≡ front ++ drop (length front) bytes)
front-Decides front bytes = Decides-like (starts_with front bytes)
    (λ e. sym (take-append-drop (length front) bytes) ∙ ap (λ (t : List ℕ). t ++ drop (length front) bytes) e)
    (λ e. ap (take (length front)) e ∙ take-front front (drop (length front) bytes))
    (bytes_eq-Decides (take (length front) bytes) front)

fits-Decides : (front : List ℕ) (fields : List Field) (bytes : List ℕ) → Decides (fits front fields bytes) (Fits front fields bytes)
fits-Decides front fields bytes =
    Decides-like (fits front fields bytes) (λ p. record { reads = p.0; short = p.1.0; few = p.1.1 }) (λ f. (f.reads, (f.short, f.few)))
    (Decides-and _ _ (front-Decides front bytes) (Decides-and _ _ (nat_le-Decides (length front) head_limit) (nat_le-Decides (length fields) field_limit)))

module _ {A : Type 0} where
  -- what an answer by a test says of the test and of the value
  pub chosen : (t : Bool) (a b : A) → (if t then Some a else None) ≡ Some b → (t ≡ true) × (a ≡ b)
  chosen true a b e = (refl, cc)
  chosen false a b e = absurd (cc)

  pub choose : (t : Bool) (a : A) → t ≡ true → (if t then Some a else None) ≡ Some a
  choose true a e = refl
  choose false a e = absurd (false≢true e)

-- ---- requests

request_fits : (bytes : List ℕ) (h : RequestHead) → Decides (is_request h && fits (print_request h) h.fields bytes) (IsRequestHead h × Fits (print_request h) h.fields bytes)
request_fits bytes h = Decides-and _ _ (request-Decides h) (fits-Decides (print_request h) h.fields bytes)

pub request_of-says : (bytes : List ℕ) (h : RequestHead) → request_of bytes ≡ Some h
    → ReadsRequest bytes h (drop (length (print_request h)) bytes) × (length (print_request h) ≤ head_limit) × (length h.fields ≤ field_limit)
unfolding request_of
request_of-says bytes h e =
    let k = request_in field_limit bytes in
    let c = chosen (is_request k && fits (print_request k) k.fields bytes) k h e in
    let says = (request_fits bytes k).0 c.0 in
    let at_h : IsRequestHead h × Fits (print_request h) h.fields bytes = subst (λ (k : RequestHead). IsRequestHead k × Fits (print_request k) k.fields bytes) c.1 says in
    ((at_h.0, at_h.1.reads), at_h.1.short, at_h.1.few)

pub request_of-is : (bytes : List ℕ) (h : RequestHead) (rest : List ℕ) → ReadsRequest bytes h rest → length (print_request h) ≤ head_limit → length h.fields ≤ field_limit
    → request_of bytes ≡ Some h
unfolding request_of
request_of-is bytes h rest reads short few =
    let same : request_in field_limit bytes ≡ h = ap (request_in field_limit) reads.1 ∙ request_in-print field_limit h rest reads.0 few in
    let front : bytes ≡ print_request h ++ drop (length (print_request h)) bytes =
    reads.1 ∙ ap (λ (t : List ℕ). print_request h ++ t) (sym (ap (drop (length (print_request h))) reads.1 ∙ drop-front (print_request h) rest)) in
    ap (request_if bytes) same
    ∙ choose (is_request h && fits (print_request h) h.fields bytes) h ((request_fits bytes h).1 (reads.0, record { reads = front; short = short; few = few }))

-- ---- responses

response_fits : (bytes : List ℕ) (h : ResponseHead) → Decides (is_response h && fits (print_response h) h.fields bytes) (IsResponseHead h × Fits (print_response h) h.fields bytes)
response_fits bytes h = Decides-and _ _ (response-Decides h) (fits-Decides (print_response h) h.fields bytes)

pub response_of-says : (bytes : List ℕ) (h : ResponseHead) → response_of bytes ≡ Some h
    → ReadsResponse bytes h (drop (length (print_response h)) bytes) × (length (print_response h) ≤ head_limit) × (length h.fields ≤ field_limit)
unfolding response_of
response_of-says bytes h e =
    let k = response_in field_limit bytes in
    let c = chosen (is_response k && fits (print_response k) k.fields bytes) k h e in
    let says = (response_fits bytes k).0 c.0 in
    let at_h : IsResponseHead h × Fits (print_response h) h.fields bytes = subst (λ (k : ResponseHead). IsResponseHead k × Fits (print_response k) k.fields bytes) c.1 says in
    ((at_h.0, at_h.1.reads), at_h.1.short, at_h.1.few)

pub response_of-is : (bytes : List ℕ) (h : ResponseHead) (rest : List ℕ) → ReadsResponse bytes h rest → length (print_response h) ≤ head_limit → length h.fields ≤ field_limit
    → response_of bytes ≡ Some h
unfolding response_of
response_of-is bytes h rest reads short few =
    let same : response_in field_limit bytes ≡ h = ap (response_in field_limit) reads.1 ∙ response_in-print field_limit h rest reads.0 few in
    let front : bytes ≡ print_response h ++ drop (length (print_response h)) bytes =
    reads.1 ∙ ap (λ (t : List ℕ). print_response h ++ t) (sym (ap (drop (length (print_response h))) reads.1 ∙ drop-front (print_response h) rest)) in
    ap (response_if bytes) same
    ∙ choose (is_response h && fits (print_response h) h.fields bytes) h ((response_fits bytes h).1 (reads.0, record { reads = front; short = short; few = few }))

-- ---- what the parser answers

module _ {A : Type 0} where
  pub none_of : (o : Option A) → ((a : A) → o ≡ Some a → ⊥) → o ≡ None
  none_of None never = refl
  none_of (Some a) never = absurd (never a refl)

  if_some : (o : Option A) (P : A → Type 0) → ((a : A) → o ≡ Some a → P a) → IfSome o P
  if_some None P each = tt
  if_some (Some a) P each = each a refl

fits_whole : (bytes front rest : List ℕ) (n : ℕ) → bytes ≡ front ++ rest → length bytes ≤ n → length front ≤ n
fits_whole bytes front rest n e short = omega (arith, ap length e, length-append front rest)

counted : (bytes : List ℕ) (headers : List HeaderSpan) (count : ℕ) (fields : List Field) → AreFieldsAt bytes headers count fields → length fields ≤ length headers
counted bytes headers count fields are =
    omega (arith, ap length are, length-map (take count headers) (header_bytes bytes), length-map fields name_and_value, length-take count headers)

pub request_complete : (bytes : List ℕ) (headers : List HeaderSpan) (r : RequestSpans) (h : RequestHead) → IsRequestAt bytes headers r h
    → length headers ≤ field_limit → length bytes ≤ head_limit → request_of bytes ≡ Some h
request_complete bytes headers r h at room short =
    request_of-is bytes h _ at.reads (fits_whole bytes (print_request h) _ head_limit at.reads.1 short)
    (omega (arith, room, counted bytes headers r.headers h.fields at.fields))

pub request_refused : (room : ℕ) (bytes : List ℕ) → HasNoRequest bytes → IfSome (request_of bytes) (λ h. room < length h.fields)
request_refused room bytes never = if_some (request_of bytes) (λ h. room < length h.fields) (λ h e. absurd (never h _ (request_of-says bytes h e).0))

pub request_over : (room : ℕ) (bytes : List ℕ) → RequestOverflows room bytes → IfSome (request_of bytes) (λ h. room < length h.fields)
request_over room bytes over = if_some (request_of bytes) (λ h. room < length h.fields) λ h e.
    let says = request_of-says bytes h e in
    over [] h (drop (length (print_request h)) bytes) (says.0.0, append-nil bytes ∙ says.0.1)

pub response_complete : (bytes : List ℕ) (headers : List HeaderSpan) (r : ResponseSpans) (h : ResponseHead) → IsResponseAt bytes headers r h
    → length headers ≤ field_limit → length bytes ≤ head_limit → response_of bytes ≡ Some h
response_complete bytes headers r h at room short =
    response_of-is bytes h _ at.reads (fits_whole bytes (print_response h) _ head_limit at.reads.1 short)
    (omega (arith, room, counted bytes headers r.headers h.fields at.fields))

pub response_refused : (room : ℕ) (bytes : List ℕ) → HasNoResponse bytes → IfSome (response_of bytes) (λ h. room < length h.fields)
response_refused room bytes never = if_some (response_of bytes) (λ h. room < length h.fields) (λ h e. absurd (never h _ (response_of-says bytes h e).0))

pub response_over : (room : ℕ) (bytes : List ℕ) → ResponseOverflows room bytes → IfSome (response_of bytes) (λ h. room < length h.fields)
response_over room bytes over = if_some (response_of bytes) (λ h. room < length h.fields) λ h e.
    let says = response_of-says bytes h e in
    over [] h (drop (length (print_response h)) bytes) (says.0.0, append-nil bytes ∙ says.0.1)
