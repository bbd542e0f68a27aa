-- Where the parts of a head stand: behind each part the head goes on with the next one.
use Rattle.std.proofs.Common.{◌≡◌, ℕ, ◌+◌, ◌-◌, ◌≤◌, Bool, true, false, List, [], ◌∷◌, ◌++◌, reverse, length, drop, refl, sym, ap, ap₂, ◌∙◌, arith, append_assoc, length-append, length-drop, drop-drop, Option, Some, None}
use Rattle.std.specs.Prelude.{All}
use Rattle.std.specs.List.{prefix_len}
use Rattle.std.proofs.lemmas.Bool.{cond-true, cond-false}
use Rattle.std.proofs.lemmas.List.{drop-append-le, reverse-append, reverse-reverse}
use Rattle.std.proofs.lemmas.List.Elements.{All-nil, All-cons, All-drop, All-head, All-push, All-tail}
use Rattle.httparse.specs.declared.spans.HeaderSpan.{HeaderSpan}
use Rattle.httparse.specs.declared.spans.RequestSpans.{RequestSpans}
use Rattle.httparse.specs.declared.spans.ResponseSpans.{ResponseSpans}
use Rattle.httparse.specs.declared.spans.Span.{Span}
use Rattle.httparse.specs.Grammar.{AllPass, Field, IsField, IsRequestHead, IsResponseHead, LineEnd, crlf, lf, RequestHead, ResponseHead, field_value, is_ows, is_value_byte, print_blank, print_end, print_field, print_reason, print_request, print_response, print_section, print_version, reason_phrase, skip_ows, trim_ows}
use Rattle.httparse.specs.Pieces.{is_newline}
use Rattle.httparse.specs.Spans.{IsHeaderWithin, IsWithin, IsRequestAt, IsRequestWithin, IsResponseAt, IsResponseWithin, header_bytes, name_and_value, span_bytes}
use Rattle.httparse.proofs.GrammarLemmas.{print_request-append, print_response-append}
use Rattle.httparse.proofs.PieceLemmas.{Stops_token, print_field-append}
use Rattle.httparse.proofs.RunLemmas.{length-slice_range}
use Rattle.stream_messages.specs.declared.places.FieldPlaces.{FieldPlaces}
use Rattle.stream_messages.specs.declared.places.StartLine.TheVariants.{Request as RequestLine, Response as StatusLine}
use Rattle.stream_messages.specs.Heads.{Request, Response, begins}
use Rattle.stream_messages.specs.Places.{IsHeadAt, behind_feed, field_places, is_in_line, method_place, part, section_place, target_place}
use Rattle.stream_messages.proofs.ChunkTextLemmas.{prefix_is}
use Rattle.stream_messages.proofs.HeadLemmas.{drop-front}
use Rattle.stream_messages.proofs.RunLemmas.{begins-stops, behind-append, behind_prefix}

-- ---- bytes from a place on

pub drop_on : (bytes : List ℕ) (at : ℕ) (a r : List ℕ) → drop at bytes ≡ a ++ r → drop (at + length a) bytes ≡ r
drop_on bytes at a r e = sym (drop-drop (length a) at bytes) ∙ ap (drop (length a)) e ∙ drop-front a r

pub drop_next : (bytes : List ℕ) (at b : ℕ) (r : List ℕ) → drop at bytes ≡ b ∷ r → drop (at + 1) bytes ≡ r
drop_next bytes at b r e = drop_on bytes at (b ∷ []) r e

place_of : (bytes : List ℕ) (at : ℕ) (rest : List ℕ) → at ≤ length bytes → drop at bytes ≡ rest → length bytes - length rest ≡ at
place_of bytes at rest inside e = omega (arith, inside, ap length e, length-drop at bytes)

span_is : (bytes : List ℕ) (n : ℕ) (s : Span) (text : List ℕ) → IsWithin n s → n ≤ length bytes → span_bytes bytes s ≡ text → s.end - s.start ≡ length text
span_is bytes n s text within short is =
    sym (length-slice_range bytes s.start s.end within.0 (omega (arith, within.1, short))) ∙ ap length is

wider : (n m : ℕ) → n ≤ m → (headers : List HeaderSpan) → All (IsHeaderWithin n) headers → All (IsHeaderWithin m) headers
wider n m less [] all = All-nil (IsHeaderWithin m)
wider n m less (h ∷ headers) all =
    let first = All-head (IsHeaderWithin n) h headers all in
    All-cons (IsHeaderWithin m) h headers ((first.0.0, omega (arith, first.0.1, less)), (first.1.0, omega (arith, first.1.1, less)))
    (wider n m less headers (All-tail (IsHeaderWithin n) h headers all))

line_on : (b : ℕ) → is_value_byte b ≡ true → is_in_line b ≡ true
line_on b e = grind arith

lines_on : (xs : List ℕ) → AllPass is_value_byte xs → AllPass is_in_line xs
lines_on [] pass = All-nil (λ v. is_in_line v ≡ true)
lines_on (x ∷ xs) pass =
    All-cons (λ v. is_in_line v ≡ true) x xs (line_on x (All-head (λ v. is_value_byte v ≡ true) x xs pass)) (lines_on xs (All-tail (λ v. is_value_byte v ≡ true) x xs pass))

-- behind what is left of a line and its end
feed_behind : (xs r : List ℕ) → AllPass is_in_line xs → behind_feed (xs ++ 10 ∷ r) ≡ r
feed_behind xs r pass = ap (drop 1) (behind_prefix is_in_line (xs ++ 10 ∷ r) ∙ behind-append is_in_line xs (10 ∷ r) pass refl)

feed_is : (xs : List ℕ) (e : LineEnd) (r : List ℕ) → AllPass is_value_byte xs → behind_feed (xs ++ (print_end e ++ r)) ≡ r
feed_is xs lf r pass = feed_behind xs r (lines_on xs pass)
feed_is xs crlf r pass =
    sym (ap behind_feed (append_assoc xs (13 ∷ []) (10 ∷ r))) ∙ feed_behind (xs ++ 13 ∷ []) r (All-push (λ v. is_in_line v ≡ true) xs 13 (lines_on xs pass) refl)

-- ---- white space around a value

record Skips (raw : List ℕ) : Type 0 where
  front : List ℕ
  whole : raw ≡ front ++ skip_ows raw

skips : (raw : List ℕ) → Skips raw
skips [] = record { front = []; whole = refl }
skips (b ∷ raw) = by (skips raw) (is_ows b) refl
  where
    by : Skips raw → (t : Bool) → is_ows b ≡ t → Skips (b ∷ raw)
    by s true e = record { front = b ∷ s.front; whole = ap (λ (t : List ℕ). b ∷ t) s.whole ∙ sym (ap (λ (t : List ℕ). b ∷ (s.front ++ t)) (cond-true _ _ _ e)) }
    by s false e = record { front = []; whole = sym (cond-false _ _ _ e) }

-- the value stands behind the white space before it
pub record ValueAt (raw : List ℕ) : Type 0 where
  pub trail : List ℕ
  pub on : drop (length raw - length (skip_ows raw)) raw ≡ trim_ows raw ++ trail

pub value_at : (raw : List ℕ) → ValueAt raw
unfolding trim_ows
value_at raw =
    let one = skips raw in
    let two = skips (reverse (skip_ows raw)) in
    let lead : length raw - length (skip_ows raw) ≡ length one.front = omega (arith, ap length one.whole, length-append one.front (skip_ows raw)) in
    record {
      trail = reverse two.front;
      on = ap₂ (λ (n : ℕ) (xs : List ℕ). drop n xs) lead one.whole ∙ drop-front one.front (skip_ows raw)
          ∙ sym (reverse-reverse (skip_ows raw)) ∙ ap reverse two.whole ∙ reverse-append two.front (skip_ows (reverse (skip_ows raw)));
    }

lead_is : (raw : List ℕ) (e : LineEnd) (r : List ℕ) → prefix_len is_ows (raw ++ (print_end e ++ r)) + length (skip_ows raw) ≡ length raw
lead_is [] crlf r = refl
lead_is [] lf r = refl
lead_is (b ∷ raw) e r = by (lead_is raw e r) (is_ows b) refl
  where
    by : prefix_len is_ows (raw ++ (print_end e ++ r)) + length (skip_ows raw) ≡ length raw → (t : Bool) → is_ows b ≡ t
        → prefix_len is_ows (b ∷ raw ++ (print_end e ++ r)) + length (skip_ows (b ∷ raw)) ≡ length (b ∷ raw)
    by go true white = omega (arith, go, cond-true (is_ows b) (1 + prefix_len is_ows (raw ++ (print_end e ++ r))) 0 white, ap length (cond-true (is_ows b) (skip_ows raw) (b ∷ raw) white))
    by go false other = omega (arith, cond-false (is_ows b) (1 + prefix_len is_ows (raw ++ (print_end e ++ r))) 0 other, ap length (cond-false (is_ows b) (skip_ows raw) (b ∷ raw) other))

-- ---- field lines

-- where the name, the raw value and the next line stand
pub record FieldAt (bytes : List ℕ) (at : ℕ) (f : Field) (r : List ℕ) : Type 0 where
  pub name : drop at bytes ≡ f.name ++ 58 ∷ (f.raw ++ (print_end f.end ++ r))
  pub raw : drop (at + length f.name + 1) bytes ≡ f.raw ++ (print_end f.end ++ r)
  pub next : drop (at + length (print_field f)) bytes ≡ r

pub field_at : (bytes : List ℕ) (at : ℕ) (f : Field) (r : List ℕ) → drop at bytes ≡ print_field f ++ r → FieldAt bytes at f r
field_at bytes at f r e =
    let name : drop at bytes ≡ f.name ++ 58 ∷ (f.raw ++ (print_end f.end ++ r)) = e ∙ print_field-append f r in
    record {
      name = name;
      raw = drop_next bytes (at + length f.name) 58 (f.raw ++ (print_end f.end ++ r)) (drop_on bytes at f.name (58 ∷ (f.raw ++ (print_end f.end ++ r))) name);
      next = drop_on bytes at (print_field f) r e;
    }

pub field_is : (bytes : List ℕ) (at : ℕ) (header : HeaderSpan) (name len lead : ℕ) (raw rest : List ℕ) → at ≤ length bytes → IsHeaderWithin (length bytes) header
    → name ≡ header.name.end - header.name.start → len ≡ header.value.end - header.value.start → raw ≡ drop (at + name + 1) bytes → lead ≡ prefix_len is_ows raw
    → rest ≡ behind_feed (drop (lead + len) raw) → (f : Field) (r : List ℕ) → IsField f → drop at bytes ≡ print_field f ++ r → header_bytes bytes header ≡ name_and_value f
    → ◌≡◌ {A = FieldPlaces} (record { name = part at name; value = part (at + name + 1 + lead) len; next = length bytes - length rest }) (field_places at f)
field_is bytes at header name len lead raw rest inside within name_e len_e raw_e lead_e rest_e f r is e cover =
    let behind_raw : List ℕ = print_end f.end ++ r in
    let name_is : name ≡ length f.name = name_e ∙ span_is bytes (length bytes) header.name f.name within.0 (omega arith) (ap (λ (p : List ℕ × List ℕ). p.0) cover) in
    let len_is : len ≡ length (field_value f) = len_e ∙ span_is bytes (length bytes) header.value (field_value f) within.1 (omega arith) (ap (λ (p : List ℕ × List ℕ). p.1) cover) in
    let parts = field_at bytes at f r e in
    let raw_is : raw ≡ f.raw ++ behind_raw = raw_e ∙ ap (λ (n : ℕ). drop (at + n + 1) bytes) name_is ∙ parts.raw in
    let lead_is : lead ≡ length f.raw - length (skip_ows f.raw) = omega (arith, lead_e ∙ ap (prefix_len is_ows) raw_is, lead_is f.raw f.end r) in
    let value = value_at f.raw in
    let inside_raw : lead + len ≤ length f.raw =
    omega (arith, lead_is, len_is, ap length value.on, length-append (field_value f) value.trail, length-drop (length f.raw - length (skip_ows f.raw)) f.raw) in
    let behind : rest ≡ r = rest_e ∙ ap (λ (t : List ℕ). behind_feed (drop (lead + len) t)) raw_is ∙ ap behind_feed (drop-append-le (lead + len) f.raw behind_raw inside_raw)
    ∙ feed_is (drop (lead + len) f.raw) f.end r (All-drop (λ v. is_value_byte v ≡ true) (lead + len) f.raw is.raw) in
    let within_next : at + length (print_field f) ≤ length bytes = omega (arith, inside, ap length e, length-drop at bytes, length-append (print_field f) r) in
    let next : length bytes - length rest ≡ at + length (print_field f) =
    ap (λ (t : List ℕ). length bytes - length t) behind ∙ place_of bytes (at + length (print_field f)) r within_next parts.next in
    λ i. record { name = part at (name_is i); value = part (at + name_is i + 1 + lead_is i) (len_is i); next = next i }

-- ---- the empty lines before a start line

blank_passes : (ends : List LineEnd) → AllPass is_newline (print_blank ends)
blank_passes [] = All-nil (λ v. is_newline v ≡ true)
blank_passes (crlf ∷ ends) =
    All-cons (λ v. is_newline v ≡ true) 13 (10 ∷ print_blank ends) refl (All-cons (λ v. is_newline v ≡ true) 10 (print_blank ends) refl (blank_passes ends))
blank_passes (lf ∷ ends) = All-cons (λ v. is_newline v ≡ true) 10 (print_blank ends) refl (blank_passes ends)

start_is : (bytes : List ℕ) (ends : List LineEnd) (r : List ℕ) → bytes ≡ print_blank ends ++ r → begins is_newline r ≡ false → prefix_len is_newline bytes ≡ length (print_blank ends)
start_is bytes ends r e stop = ap (prefix_len is_newline) e ∙ prefix_is is_newline (print_blank ends) r (blank_passes ends) stop

-- ---- requests

module _ (bytes : List ℕ) (h : RequestHead) (is : IsRequestHead h) (rest : List ℕ) (e : bytes ≡ print_request h ++ rest) where
  abbrev pub version_text : List ℕ
  version_text = print_version h.minor ++ (print_end h.line_end ++ (print_section h.fields h.last ++ rest))

  abbrev pub target_text : List ℕ
  target_text = h.target ++ 32 ∷ version_text

  method_whole : bytes ≡ print_blank h.blank ++ (h.method ++ 32 ∷ target_text)
  method_whole = e ∙ print_request-append h rest

  pub method_on : drop (method_place h) bytes ≡ h.method ++ 32 ∷ target_text
  method_on = ap (drop (method_place h)) method_whole ∙ drop-front (print_blank h.blank) (h.method ++ 32 ∷ target_text)

  pub target_on : drop (target_place h) bytes ≡ target_text
  target_on = drop_next bytes (method_place h + length h.method) 32 target_text (drop_on bytes (method_place h) h.method (32 ∷ target_text) method_on)

  version_end : drop (target_place h + length h.target + 1 + 8) bytes ≡ print_end h.line_end ++ (print_section h.fields h.last ++ rest)
  version_end =
      drop_on bytes (target_place h + length h.target + 1) (print_version h.minor) (print_end h.line_end ++ (print_section h.fields h.last ++ rest))
      (drop_next bytes (target_place h + length h.target) 32 version_text (drop_on bytes (target_place h) h.target (32 ∷ version_text) target_on))

  pub section_on : drop (section_place (Request h)) bytes ≡ print_section h.fields h.last ++ rest
  section_on = drop_on bytes (target_place h + length h.target + 1 + 8) (print_end h.line_end) (print_section h.fields h.last ++ rest) version_end

  request_inside : section_place (Request h) ≤ length bytes
  request_inside =
      let section : List ℕ = print_section h.fields h.last ++ rest in
      omega (arith, ap length method_whole, length-append (print_blank h.blank) (h.method ++ 32 ∷ target_text), length-append h.method (32 ∷ target_text), length-append h.target (32 ∷ version_text), length-append (print_version h.minor) (print_end h.line_end ++ section), length-append (print_end h.line_end) section)

  pub request_is : (headers : List HeaderSpan) (spans : RequestSpans) (at method len : ℕ) (behind : List ℕ) → IsRequestWithin bytes headers spans → IsRequestAt bytes headers spans h
      → at ≡ prefix_len is_newline bytes → method ≡ spans.method.end - spans.method.start → len ≡ spans.path.end - spans.path.start → behind ≡ behind_feed (drop (len + 1 + 8) (drop (at + method + 1) bytes))
      → IsHeadAt bytes headers (Request h) (record { line = RequestLine (part at method) (part (at + method + 1) len); minor = spans.version; next = length bytes - length behind; count = spans.headers })
  request_is headers spans at method len behind within finds at_e method_e len_e behind_e =
      let section : List ℕ = print_section h.fields h.last ++ rest in
      let short = within.section.len_fits in
      let stop : begins is_newline (h.method ++ 32 ∷ target_text) ≡ false = begins-stops is_newline (h.method ++ 32 ∷ target_text) (Stops_token h.method (32 ∷ target_text) is.method.0 is.method.1) in
      let at_is : at ≡ method_place h = at_e ∙ start_is bytes h.blank (h.method ++ 32 ∷ target_text) method_whole stop in
      let method_is : method ≡ length h.method = method_e ∙ span_is bytes spans.len spans.method h.method within.method short finds.method in
      let len_is : len ≡ length h.target = len_e ∙ span_is bytes spans.len spans.path h.target within.path short finds.path in
      let place : target_place h + (length h.target + 1 + 8) ≡ target_place h + length h.target + 1 + 8 = omega arith in
      let behind_is : behind ≡ section =
      behind_e ∙ ap behind_feed ((λ i. drop (len_is i + 1 + 8) (drop (at_is i + method_is i + 1) bytes)) ∙ drop-drop (length h.target + 1 + 8) (target_place h) bytes ∙ ap (λ (n : ℕ). drop n bytes) place ∙ version_end) ∙ feed_is [] h.line_end section (All-nil (λ v. is_value_byte v ≡ true)) in
      record {
        line = λ i. RequestLine (part (at_is i) (method_is i)) (part (at_is i + method_is i + 1) (len_is i));
        minor = finds.version;
        next = ap (λ (t : List ℕ). length bytes - length t) behind_is ∙ place_of bytes (section_place (Request h)) section request_inside section_on;
        lines = record { last = h.last; rest = rest; reads = (is.fields, section_on); cover = finds.fields };
        count = within.section.count_fits;
        within = wider spans.len (length bytes) short _ within.section.headers_fit;
      }

-- ---- responses

reason_passes : (reason : Option (List ℕ)) → AllPass is_value_byte (reason_phrase reason) → AllPass is_value_byte (print_reason reason)
reason_passes None pass = pass
reason_passes (Some phrase) pass = All-cons (λ v. is_value_byte v ≡ true) 32 phrase refl pass

module _ (bytes : List ℕ) (h : ResponseHead) (is : IsResponseHead h) (rest : List ℕ) (e : bytes ≡ print_response h ++ rest) where
  abbrev pub reason_text : List ℕ
  reason_text = print_reason h.reason ++ (print_end h.line_end ++ (print_section h.fields h.last ++ rest))

  abbrev pub status_text : List ℕ
  status_text = print_version h.minor ++ 32 ∷ (h.digits ++ reason_text)

  status_whole : bytes ≡ print_blank h.blank ++ status_text
  status_whole = e ∙ print_response-append h rest

  status_on : drop (length (print_blank h.blank)) bytes ≡ status_text
  status_on = ap (drop (length (print_blank h.blank))) status_whole ∙ drop-front (print_blank h.blank) status_text

  -- behind the code
  abbrev pub code_end : ℕ
  code_end = length (print_blank h.blank) + length (print_version h.minor) + 1 + length h.digits

  pub reason_on : drop code_end bytes ≡ reason_text
  reason_on =
      let at : ℕ = length (print_blank h.blank) in
      let version : drop (at + length (print_version h.minor)) bytes ≡ 32 ∷ (h.digits ++ reason_text) = drop_on bytes at (print_version h.minor) (32 ∷ (h.digits ++ reason_text)) status_on in
      drop_on bytes (at + length (print_version h.minor) + 1) h.digits reason_text (drop_next bytes (at + length (print_version h.minor)) 32 (h.digits ++ reason_text) version)

  pub status_section_on : drop (section_place (Response h)) bytes ≡ print_section h.fields h.last ++ rest
  status_section_on =
      let section : List ℕ = print_section h.fields h.last ++ rest in
      drop_on bytes (code_end + length (print_reason h.reason)) (print_end h.line_end) section (drop_on bytes code_end (print_reason h.reason) (print_end h.line_end ++ section) reason_on)

  response_inside : section_place (Response h) ≤ length bytes
  response_inside =
      let section : List ℕ = print_section h.fields h.last ++ rest in
      omega (arith, ap length status_whole, length-append (print_blank h.blank) status_text, length-append (print_version h.minor) (32 ∷ (h.digits ++ reason_text)), length-append h.digits reason_text, length-append (print_reason h.reason) (print_end h.line_end ++ section), length-append (print_end h.line_end) section)

  pub response_is : (headers : List HeaderSpan) (spans : ResponseSpans) (at len : ℕ) (behind : List ℕ) → IsResponseWithin bytes headers spans → IsResponseAt bytes headers spans h
      → at ≡ prefix_len is_newline bytes → len ≡ spans.reason.end - spans.reason.start → behind ≡ behind_feed (drop (at + 12) bytes)
      → IsHeadAt bytes headers (Response h) (record { line = StatusLine spans.code (part (at + 12 + 1) len); minor = spans.version; next = length bytes - length behind; count = spans.headers })
  response_is headers spans at len behind within finds at_e len_e behind_e =
      let section : List ℕ = print_section h.fields h.last ++ rest in
      let short = within.section.len_fits in
      let at_is : at ≡ length (print_blank h.blank) = at_e ∙ start_is bytes h.blank status_text status_whole refl in
      let len_is : len ≡ length (reason_phrase h.reason) = len_e ∙ span_is bytes spans.len spans.reason (reason_phrase h.reason) within.reason short finds.reason in
      let code : at + 12 ≡ code_end = omega (arith, at_is, is.digits.0) in
      let behind_is : behind ≡ section =
      behind_e ∙ ap behind_feed (ap (λ (n : ℕ). drop n bytes) code ∙ reason_on) ∙ feed_is (print_reason h.reason) h.line_end section (reason_passes h.reason is.reason) in
      record {
        line = λ i. StatusLine (finds.code i) (part (code i + 1) (len_is i));
        minor = finds.version;
        next = ap (λ (t : List ℕ). length bytes - length t) behind_is ∙ place_of bytes (section_place (Response h)) section response_inside status_section_on;
        lines = record { last = h.last; rest = rest; reads = (is.fields, status_section_on); cover = finds.fields };
        count = within.section.count_fits;
        within = wider spans.len (length bytes) short _ within.section.headers_fit;
      }
