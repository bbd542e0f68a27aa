-- The parts that are read of a head's text are the head's.
use Rattle.std.proofs.Common.{◌≡◌, ℕ, suc, zero, ◌+◌, ◌-◌, ◌≤◌, true, false, List, [], ◌∷◌, ◌++◌, length, take, drop, length-append, refl, sym, ap, ◌∙◌, subst, arith, append_assoc, slice_index, Option, Some, None}
use Rattle.std.specs.Prelude.{All}
use Rattle.std.specs.List.{flat_map}
use Rattle.std.proofs.lemmas.Bool.{cond-true, cond-false}
use Rattle.std.proofs.lemmas.List.Elements.{All-head, All-tail}
use Rattle.httparse.specs.Grammar.{AllPass, LineEnd, crlf, lf, print_end, print_blank, print_version, print_field, print_section, print_reason, reason_phrase, Field, IsField, IsRequestHead, IsResponseHead, RequestHead, ResponseHead, print_request, print_response, is_token_byte, is_uri_byte, is_value_byte}
use Rattle.httparse.specs.Pieces.{Stops, is_newline}
use Rattle.httparse.proofs.PieceLemmas.{Stops_token, Stops_value, space_ends_token, colon_ends_token, print_field-append}
use Rattle.httparse.proofs.GrammarLemmas.{print_request-append, print_response-append}
use Rattle.stream_messages.specs.Heads.{run, behind, begins, end_in, behind_end, blank_in, start_at, value_at, field_in, behind_field, fields_in, behind_fields, target_at, version_at, request_section, request_in, reason_in, response_section, response_in}
use Rattle.stream_messages.proofs.RunLemmas.{run-append, behind-append, begins-append, end_in-print, behind_end-print}

-- ---- the empty lines

pub blank_in-print : (ends : List LineEnd) (r : List ℕ) → Stops is_newline r → blank_in false (print_blank ends ++ r) ≡ ends
blank_in-print [] [] stops = absurd stops
blank_in-print [] (b ∷ r) stops = no_blank b r stops
  where
    no_blank : (b : ℕ) (r : List ℕ) → is_newline b ≡ false → blank_in false (b ∷ r) ≡ []
    no_blank b r e = grind arith
blank_in-print (crlf ∷ ends) r stops = ap (λ (t : List LineEnd). crlf ∷ t) (blank_in-print ends r stops)
blank_in-print (lf ∷ ends) r stops = ap (λ (t : List LineEnd). lf ∷ t) (blank_in-print ends r stops)

pub start_at-print : (ends : List LineEnd) (r : List ℕ) → Stops is_newline r → start_at (print_blank ends ++ r) ≡ r
start_at-print [] [] stops = absurd stops
start_at-print [] (b ∷ r) stops = cond-false _ _ _ stops
start_at-print (crlf ∷ ends) r stops = start_at-print ends r stops
start_at-print (lf ∷ ends) r stops = start_at-print ends r stops

-- ---- field lines

end_is_no_token : (e : LineEnd) (r : List ℕ) → begins is_token_byte (print_end e ++ r) ≡ false
unfolding is_token_byte
end_is_no_token crlf r = refl
end_is_no_token lf r = refl

value_at-field : (f : Field) (r : List ℕ) → IsField f → value_at (print_field f ++ r) ≡ f.raw ++ (print_end f.end ++ r)
value_at-field f r is =
    ap value_at (print_field-append f r)
    ∙ ap (λ (t : List ℕ). drop 1 t) (behind-append is_token_byte f.name _ is.name.1 colon_ends_token)

field_in-field : (f : Field) (r : List ℕ) → IsField f → field_in (print_field f ++ r) ≡ f
field_in-field f r is =
    let value = value_at-field f r is in
    let name = ap (run is_token_byte) (print_field-append f r) ∙ run-append is_token_byte f.name _ is.name.1 colon_ends_token in
    let raw = ap (run is_value_byte) value ∙ run-append is_value_byte f.raw _ is.raw (Stops_value f.end r) in
    let end = ap (λ (t : List ℕ). end_in (behind is_value_byte t)) value
    ∙ ap end_in (behind-append is_value_byte f.raw _ is.raw (Stops_value f.end r)) ∙ end_in-print f.end r in
    λ i. record { name = name i; raw = raw i; end = end i }

behind_field-field : (f : Field) (r : List ℕ) → IsField f → behind_field (print_field f ++ r) ≡ r
behind_field-field f r is =
    ap (λ (t : List ℕ). behind_end (behind is_value_byte t)) (value_at-field f r is)
    ∙ ap behind_end (behind-append is_value_byte f.raw _ is.raw (Stops_value f.end r)) ∙ behind_end-print f.end r

begins_field : (f : Field) (r : List ℕ) → IsField f → begins is_token_byte (print_field f ++ r) ≡ true
begins_field f r is =
    ap (begins is_token_byte) (print_field-append f r) ∙ begins-append is_token_byte f.name _ is.name.0 is.name.1

pub section-cons : (f : Field) (fs : List Field) (last : LineEnd) (r : List ℕ) → print_section (f ∷ fs) last ++ r ≡ print_field f ++ (print_section fs last ++ r)
section-cons f fs last r =
    ap (λ (t : List ℕ). t ++ r) (append_assoc (print_field f) (flat_map print_field fs) (print_end last))
    ∙ append_assoc (print_field f) (flat_map print_field fs ++ print_end last) r

fields_in-none : (most : ℕ) (b : List ℕ) → begins is_token_byte b ≡ false → fields_in most b ≡ []
fields_in-none zero b other = refl
fields_in-none (suc most) b other = cond-false _ _ _ other

fields_in-some : (most : ℕ) (b : List ℕ) → begins is_token_byte b ≡ true → fields_in (suc most) b ≡ field_in b ∷ fields_in most (behind_field b)
fields_in-some most b token = cond-true _ _ _ token

behind_fields-none : (most : ℕ) (b : List ℕ) → begins is_token_byte b ≡ false → behind_fields most b ≡ b
behind_fields-none zero b other = refl
behind_fields-none (suc most) b other = cond-false _ _ _ other

behind_fields-some : (most : ℕ) (b : List ℕ) → begins is_token_byte b ≡ true → behind_fields (suc most) b ≡ behind_fields most (behind_field b)
behind_fields-some most b token = cond-true _ _ _ token

pub fields_in-section : (most : ℕ) (fs : List Field) (last : LineEnd) (r : List ℕ) → All IsField fs → length fs ≤ most
    → fields_in most (print_section fs last ++ r) ≡ fs
fields_in-section most [] last r all few = fields_in-none most _ (end_is_no_token last r)
fields_in-section zero (f ∷ fs) last r all few = absurd (omega arith)
fields_in-section (suc most) (f ∷ fs) last r all few =
    let is = All-head IsField f fs all in
    let tail = fields_in-section most fs last r (All-tail IsField f fs all) (omega arith) in
    ap (fields_in (suc most)) (section-cons f fs last r)
    ∙ fields_in-some most _ (begins_field f _ is)
    ∙ (λ i. field_in-field f (print_section fs last ++ r) is i ∷ fields_in most (behind_field-field f (print_section fs last ++ r) is i))
    ∙ ap (λ (t : List Field). f ∷ t) tail

pub behind_fields-section : (most : ℕ) (fs : List Field) (last : LineEnd) (r : List ℕ) → All IsField fs → length fs ≤ most
    → behind_fields most (print_section fs last ++ r) ≡ print_end last ++ r
behind_fields-section most [] last r all few = behind_fields-none most _ (end_is_no_token last r)
behind_fields-section zero (f ∷ fs) last r all few = absurd (omega arith)
behind_fields-section (suc most) (f ∷ fs) last r all few =
    let is = All-head IsField f fs all in
    ap (behind_fields (suc most)) (section-cons f fs last r)
    ∙ behind_fields-some most _ (begins_field f _ is)
    ∙ ap (behind_fields most) (behind_field-field f _ is)
    ∙ behind_fields-section most fs last r (All-tail IsField f fs all) (omega arith)

-- ---- requests

pub request_in-print : (most : ℕ) (h : RequestHead) (rest : List ℕ) → IsRequestHead h → length h.fields ≤ most
    → request_in most (print_request h ++ rest) ≡ h
request_in-print most h rest is few =
    let section = print_section h.fields h.last ++ rest in
    let line : List ℕ = print_version h.minor ++ (print_end h.line_end ++ section) in
    let target_on : List ℕ = h.target ++ 32 ∷ line in
    let start : List ℕ = h.method ++ 32 ∷ target_on in
    let stops = Stops_token h.method (32 ∷ target_on) is.method.0 is.method.1 in
    let whole = print_request-append h rest in
    let at_start : start_at (print_request h ++ rest) ≡ start = ap start_at whole ∙ start_at-print h.blank start stops in
    let at_target : target_at start ≡ target_on = ap (λ (t : List ℕ). drop 1 t) (behind-append is_token_byte h.method (32 ∷ target_on) is.method.1 space_ends_token) in
    let at_version : version_at start ≡ line = ap (λ (t : List ℕ). drop 1 (behind is_uri_byte t)) at_target
    ∙ ap (λ (t : List ℕ). drop 1 t) (behind-append is_uri_byte h.target (32 ∷ line) is.target.1 refl) in
    let at_end : drop 8 (version_at start) ≡ print_end h.line_end ++ section = ap (λ (t : List ℕ). drop 8 t) at_version in
    let at_section : request_section start ≡ section = ap behind_end at_end ∙ behind_end-print h.line_end section in
    let blank = ap (blank_in false) whole ∙ blank_in-print h.blank start stops in
    let method = ap (run is_token_byte) at_start ∙ run-append is_token_byte h.method (32 ∷ target_on) is.method.1 space_ends_token in
    let target = ap (λ (t : List ℕ). run is_uri_byte (target_at t)) at_start ∙ ap (run is_uri_byte) at_target
    ∙ run-append is_uri_byte h.target (32 ∷ line) is.target.1 refl in
    let digit : 48 + h.minor - 48 ≡ h.minor = omega arith in
    let minor = ap (λ (t : List ℕ). slice_index (version_at t) 7 - 48) at_start ∙ ap (λ (t : List ℕ). slice_index t 7 - 48) at_version ∙ digit in
    let line_end = ap (λ (t : List ℕ). end_in (drop 8 (version_at t))) at_start ∙ ap end_in at_end ∙ end_in-print h.line_end section in
    let fields = ap (λ (t : List ℕ). fields_in most (request_section t)) at_start ∙ ap (fields_in most) at_section
    ∙ fields_in-section most h.fields h.last rest is.fields few in
    let last = ap (λ (t : List ℕ). end_in (behind_fields most (request_section t))) at_start
    ∙ ap (λ (t : List ℕ). end_in (behind_fields most t)) at_section
    ∙ ap end_in (behind_fields-section most h.fields h.last rest is.fields few) ∙ end_in-print h.last rest in
    λ i. record { blank = blank i; method = method i; target = target i; minor = minor i; line_end = line_end i; fields = fields i; last = last i }

-- ---- responses

three : (ds r : List ℕ) → length ds ≡ 3 → (take 3 (ds ++ r) ≡ ds) × (drop 3 (ds ++ r) ≡ r)
three [] r e = absurd (omega arith)
three (a ∷ []) r e = absurd (omega arith)
three (a ∷ b ∷ []) r e = absurd (omega arith)
three (a ∷ b ∷ c ∷ []) r e = (refl, refl)
three (a ∷ b ∷ c ∷ d ∷ ds) r e = absurd (omega arith)

reason_in-print : (reason : Option (List ℕ)) (e : LineEnd) (r : List ℕ) → AllPass is_value_byte (reason_phrase reason)
    → reason_in (print_reason reason ++ (print_end e ++ r)) ≡ reason
reason_in-print None crlf r all = refl
reason_in-print None lf r all = refl
reason_in-print (Some phrase) e r all = ap Some (run-append is_value_byte phrase _ all (Stops_value e r))

behind-reason : (reason : Option (List ℕ)) (e : LineEnd) (r : List ℕ) → AllPass is_value_byte (reason_phrase reason)
    → behind is_value_byte (print_reason reason ++ (print_end e ++ r)) ≡ print_end e ++ r
behind-reason None crlf r all = refl
behind-reason None lf r all = refl
behind-reason (Some phrase) e r all = behind-append is_value_byte phrase _ all (Stops_value e r)

pub response_in-print : (most : ℕ) (h : ResponseHead) (rest : List ℕ) → IsResponseHead h → length h.fields ≤ most
    → response_in most (print_response h ++ rest) ≡ h
response_in-print most h rest is few =
    let section = print_section h.fields h.last ++ rest in
    let reason_on : List ℕ = print_reason h.reason ++ (print_end h.line_end ++ section) in
    let start : List ℕ = print_version h.minor ++ 32 ∷ (h.digits ++ reason_on) in
    let whole = print_response-append h rest in
    let at_start : start_at (print_response h ++ rest) ≡ start = ap start_at whole ∙ start_at-print h.blank start refl in
    let digits_are = three h.digits reason_on is.digits.0 in
    let at_reason : drop 12 start ≡ reason_on = digits_are.1 in
    let at_end : behind is_value_byte (drop 12 start) ≡ print_end h.line_end ++ section =
    ap (behind is_value_byte) at_reason ∙ behind-reason h.reason h.line_end section is.reason in
    let at_section : response_section start ≡ section = ap behind_end at_end ∙ behind_end-print h.line_end section in
    let blank = ap (blank_in false) whole ∙ blank_in-print h.blank start refl in
    let digit : 48 + h.minor - 48 ≡ h.minor = omega arith in
    let minor = ap (λ (t : List ℕ). slice_index t 7 - 48) at_start ∙ digit in
    let digits = ap (λ (t : List ℕ). take 3 (drop 9 t)) at_start ∙ digits_are.0 in
    let reason = ap (λ (t : List ℕ). reason_in (drop 12 t)) at_start ∙ ap reason_in at_reason ∙ reason_in-print h.reason h.line_end section is.reason in
    let line_end = ap (λ (t : List ℕ). end_in (behind is_value_byte (drop 12 t))) at_start ∙ ap end_in at_end ∙ end_in-print h.line_end section in
    let fields = ap (λ (t : List ℕ). fields_in most (response_section t)) at_start ∙ ap (fields_in most) at_section
    ∙ fields_in-section most h.fields h.last rest is.fields few in
    let last = ap (λ (t : List ℕ). end_in (behind_fields most (response_section t))) at_start
    ∙ ap (λ (t : List ℕ). end_in (behind_fields most t)) at_section
    ∙ ap end_in (behind_fields-section most h.fields h.last rest is.fields few) ∙ end_in-print h.last rest in
    λ i. record { blank = blank i; minor = minor i; digits = digits i; reason = reason i; line_end = line_end i; fields = fields i; last = last i }

-- ---- a start line has at least as many bytes as a response begins with

pub request_start : (h : RequestHead) (rest : List ℕ) → IsRequestHead h → 5 ≤ length (start_at (print_request h ++ rest))
request_start h rest is =
    let section = print_section h.fields h.last ++ rest in
    let line : List ℕ = print_version h.minor ++ (print_end h.line_end ++ section) in
    let start : List ℕ = h.method ++ 32 ∷ (h.target ++ 32 ∷ line) in
    let stops = Stops_token h.method (32 ∷ (h.target ++ 32 ∷ line)) is.method.0 is.method.1 in
    let at_start : start_at (print_request h ++ rest) ≡ start = ap start_at (print_request-append h rest) ∙ start_at-print h.blank start stops in
    subst (λ (t : List ℕ). 5 ≤ length t) (sym at_start)
    (omega (arith, length-append h.method (32 ∷ (h.target ++ 32 ∷ line)), length-append h.target (32 ∷ line), length-append (print_version h.minor) (print_end h.line_end ++ section)))

pub response_start : (h : ResponseHead) (rest : List ℕ) → 5 ≤ length (start_at (print_response h ++ rest))
response_start h rest =
    let tail : List ℕ = 32 ∷ (h.digits ++ (print_reason h.reason ++ (print_end h.line_end ++ (print_section h.fields h.last ++ rest)))) in
    let start : List ℕ = print_version h.minor ++ tail in
    let at_start : start_at (print_response h ++ rest) ≡ start = ap start_at (print_response-append h rest) ∙ start_at-print h.blank start refl in
    subst (λ (t : List ℕ). 5 ≤ length t) (sym at_start) (omega (arith, length-append (print_version h.minor) tail))
