-- The rows that are made of a head's places are those of the grammar; what they tell stands there, and none leaves the message.
use Rattle.std.proofs.Common.{◌≡◌, ℕ, ◌+◌, ◌-◌, ◌<◌, ◌≤◌, true, false, Bool, List, [], ◌∷◌, ◌++◌, map, length, take, drop, get_or, refl, sym, ap, ap₂, ◌∙◌, subst, arith, append-nil, append_assoc, length-drop, length-take, drop-drop, Option, Some, None}
use Rattle.std.specs.Prelude.{◌==◌, nat_le, All, OnOk, Result, Ok, Err}
use Rattle.std.proofs.lemmas.Bool.{cond-true, cond-false}
use Rattle.std.proofs.lemmas.List.{map-append, drop_more, drop-append-le}
use Rattle.std.proofs.lemmas.List.Elements.{All-nil, All-cons, All-head, All-tail, All-append}
use Rattle.httparse.specs.declared.spans.HeaderSpan.{HeaderSpan}
use Rattle.httparse.specs.Grammar.{Field, IsField, LineEnd, field_value, print_end, print_field, print_reason, print_section, print_version, reason_phrase, skip_ows, status_code}
use Rattle.httparse.specs.Spans.{header_bytes, name_and_value, span_bytes}
use Rattle.stream_messages.specs.declared.places.FieldPlaces.{FieldPlaces}
use Rattle.stream_messages.specs.declared.places.HeadPlaces.{HeadPlaces}
use Rattle.stream_messages.specs.ChunkedBodies.{StandsAt}
use Rattle.stream_messages.specs.Heads.{Head, Request, Response, fields_of, head_of, print_head}
use Rattle.stream_messages.specs.Places.{AreLinesAt, IsHeadAt, field_places, method_place, minor_of, part, section_place, start_line, target_place, value_place}
use Rattle.stream_messages.proofs.ChunkTextLemmas.{front_by}
use Rattle.stream_messages.proofs.HeadLawProofs.{head_of-says}
use Rattle.stream_messages.proofs.PlaceLemmas.{drop_next, drop_on, field_at, method_on, reason_on, section_on, status_section_on, target_on, target_text, value_at, version_text, code_end}
use Rattle.stream_messages.proofs.SplitLemmas.{section-cons}
use Rattle.pk_fields.specs.Ids.{HTTP_REQUEST, HTTP_REQUEST_METHOD, HTTP_REQUEST_URI, HTTP_REQUEST_VERSION, HTTP_RESPONSE, HTTP_RESPONSE_VERSION, HTTP_RESPONSE_CODE, HTTP_HEADER_NAME, HTTP_HEADER_VALUE}
use Rattle.pk_tree.specs.declared.layout.Step.{Step}
use Rattle.pk_tree.specs.declared.layout.Step.TheVariants.{Part, Made}
use Rattle.pk_base.specs.declared.value.Value.TheVariants.{Uint, Bool as Truth, Text}
use Rattle.pk_tree.specs.declared.layout.Reach.TheVariants.{All as Whole}
use Rattle.pk_tree.specs.Layouts.{step_reach, reach, reach_after}
use Rattle.dis_http.specs.Heads.{Told, told_step, value_field, value_told, field_told, fields_told, method_told, target_told, request_fields, reason_told, response_fields, head_told, head_steps, head_rows}
use Rattle.dis_http.specs.Rows.{IsIn}
use Rattle.dis_http.specs.Steps.{field_steps, line_steps, value_steps}

pub on_ok : {A E : Type 0} {P Q : Type 0} (r : Result A E) → (P → Q) → OnOk r P → OnOk r Q
on_ok (Ok a) go is = go is
on_ok (Err e) go is = is

-- ---- rows by places

steps_told : (field : Option ℕ) (at : ℕ) (value : List ℕ) → value_steps field (part at (length value)) ≡ map told_step (value_told field at value)
steps_told None at value = refl
steps_told (Some field) at value = refl

rows_told : (at : ℕ) (f : Field) → field_steps f.name (field_places at f) ≡ map told_step (field_told at f)
rows_told at f =
    ap (λ (steps : List Step). Part HTTP_HEADER_NAME at (length f.name) ∷ Part HTTP_HEADER_VALUE (value_place at f) (length (field_value f)) ∷ steps)
    (steps_told (value_field f.name) (value_place at f) (field_value f))

-- with the rows of the lines that are left the steps come to the goal
pub record Going (head : List ℕ) (place : ℕ) (headers : List HeaderSpan) (steps goal : List Step) : Type 0 where
  pub left : List Field
  pub lines : AreLinesAt head place headers left
  pub same : steps ++ map told_step (fields_told place left) ≡ goal

going_on : (head : List ℕ) (place : ℕ) (header : HeaderSpan) (headers : List HeaderSpan) (steps more goal : List Step) (r : FieldPlaces) → Going head place (header ∷ headers) steps goal
    → ((f : Field) (rest : List ℕ) → IsField f → drop place head ≡ print_field f ++ rest → header_bytes head header ≡ name_and_value f → r ≡ field_places place f)
    → more ≡ steps ++ field_steps (span_bytes head header.name) r → Going head r.next headers more goal
going_on head place header headers steps more goal r g value e = by g.left g.lines g.same
  where
    by : (left : List Field) → AreLinesAt head place (header ∷ headers) left → steps ++ map told_step (fields_told place left) ≡ goal → Going head r.next headers more goal
    by [] lines same = let none = lines.cover in absurd (cc)
    by (f ∷ left) lines same =
        let section : List ℕ = print_section left lines.last ++ lines.rest in
        let whole : drop place head ≡ print_field f ++ section = lines.reads.1 ∙ section-cons f left lines.last lines.rest in
        let all = lines.cover in
        let cover : header_bytes head header ≡ name_and_value f = cc in
        let r_is : r ≡ field_places place f = value f section (All-head IsField f left lines.reads.0) whole cover in
        let next : r.next ≡ place + length (print_field f) = ap (λ (p : FieldPlaces). p.next) r_is in
        let one : List Step = map told_step (field_told place f) in
        let rest : List Step = map told_step (fields_told (place + length (print_field f)) left) in
        let rows : field_steps (span_bytes head header.name) r ≡ one =
        ap₂ (λ (name : List ℕ) (p : FieldPlaces). field_steps name p) (ap (λ (p : List ℕ × List ℕ). p.0) cover) r_is ∙ rows_told place f in
        record {
          left = left;
          lines = record {
            last = lines.last;
            rest = lines.rest;
            reads = (All-tail IsField f left lines.reads.0, ap (λ (n : ℕ). drop n head) next ∙ (field_at head place f section whole).next);
            cover = ap (drop 1) all;
          };
          same = ap₂ (λ (t : List Step) (n : ℕ). t ++ map told_step (fields_told n left)) (e ∙ ap (λ (t : List Step). steps ++ t) rows) next
              ∙ append_assoc steps one rest ∙ ap (λ (t : List Step). steps ++ t) (sym (map-append told_step (field_told place f) (fields_told (place + length (print_field f)) left))) ∙ same;
        }

pub going_at : (head : List ℕ) (place i : ℕ) (d : HeaderSpan) (headers : List HeaderSpan) (steps more goal : List Step) (r : FieldPlaces) → i < length headers → Going head place (drop i headers) steps goal
    → ((f : Field) (rest : List ℕ) → IsField f → drop place head ≡ print_field f ++ rest → header_bytes head (get_or headers i d) ≡ name_and_value f → r ≡ field_places place f)
    → more ≡ steps ++ field_steps (span_bytes head (get_or headers i d).name) r → Going head r.next (drop (i + 1) headers) more goal
going_at head place i d headers steps more goal r inside g value e =
    going_on head place (get_or headers i d) (drop (i + 1) headers) steps more goal r (subst (λ (hs : List HeaderSpan). Going head place hs steps goal) (drop_more headers i d inside) g) value e

pub going_done : (head : List ℕ) (place : ℕ) (steps goal : List Step) → Going head place [] steps goal → steps ≡ goal
going_done head place steps goal g = by g.left g.lines g.same
  where
    by : (left : List Field) → AreLinesAt head place [] left → steps ++ map told_step (fields_told place left) ≡ goal → steps ≡ goal
    by [] lines same = sym (append-nil steps) ∙ same
    by (f ∷ left) lines same = let none = lines.cover in absurd (cc)

steps_are : (h : Head) → line_steps (minor_of h) (start_line h) ++ map told_step (fields_told (section_place h) (fields_of h)) ≡ head_steps h
steps_are (Request h) = refl
steps_are (Response h) = refl

pub head_rows_are : (head : List ℕ) (headers : List HeaderSpan) (h : Head) (places : HeadPlaces) (old line new : List Step) → head_of head ≡ Some h → IsHeadAt head headers h places
    → line ≡ old ++ line_steps places.minor places.line
    → ((fields : List Field) → AreLinesAt head places.next (take places.count headers) fields → new ≡ line ++ map told_step (fields_told places.next fields))
    → new ≡ old ++ head_rows (head_of head)
head_rows_are head headers h places old line new found is line_e fields_e =
    let lines : AreLinesAt head places.next (take places.count headers) (fields_of h) = subst (λ (n : ℕ). AreLinesAt head n (take places.count headers) (fields_of h)) (sym is.next) is.lines in
    let first : List Step = line_steps places.minor places.line in
    let rest : List Step = map told_step (fields_told places.next (fields_of h)) in
    let made : first ++ rest ≡ head_steps h =
    (λ i. line_steps (is.minor i) (is.line i) ++ map told_step (fields_told (is.next i) (fields_of h))) ∙ steps_are h in
    fields_e (fields_of h) lines ∙ ap (λ (t : List Step). t ++ rest) line_e ∙ append_assoc old first rest
    ∙ ap (λ (t : List Step). old ++ t) (made ∙ sym (ap head_rows found))

-- ---- what a row tells stands there

pub text_in : (bytes : List ℕ) (field at : ℕ) (text r : List ℕ) → drop at bytes ≡ text ++ r → IsIn bytes (record { field = field; at = at; text = text })
text_in bytes field at text r e = front_by text r (drop at bytes) e

value_in : (bytes : List ℕ) (at : ℕ) (f : Field) (r : List ℕ) → drop (at + length f.name + 1) bytes ≡ f.raw ++ r
    → (rest : List ℕ) × (drop (value_place at f) bytes ≡ field_value f ++ rest)
value_in bytes at f r e =
    let lead : ℕ = length f.raw - length (skip_ows f.raw) in
    let few : lead ≤ length f.raw = omega arith in
    let value = value_at f.raw in (
      value.trail ++ r,
      sym (drop-drop lead (at + length f.name + 1) bytes) ∙ ap (drop lead) e ∙ drop-append-le lead f.raw r few
          ∙ ap (λ (t : List ℕ). t ++ r) value.on ∙ append_assoc (field_value f) value.trail r,
    )

further_in : (bytes : List ℕ) (field : Option ℕ) (at : ℕ) (value r : List ℕ) → drop at bytes ≡ value ++ r → All (IsIn bytes) (value_told field at value)
further_in bytes None at value r e = All-nil (IsIn bytes)
further_in bytes (Some field) at value r e =
    All-cons (IsIn bytes) (record { field = field; at = at; text = value }) [] (text_in bytes field at value r e) (All-nil (IsIn bytes))

field_in : (bytes : List ℕ) (at : ℕ) (f : Field) (r : List ℕ) → drop at bytes ≡ print_field f ++ r → All (IsIn bytes) (field_told at f)
field_in bytes at f r e =
    let parts = field_at bytes at f r e in
    let value = value_in bytes at f (print_end f.end ++ r) parts.raw in
    let further : List Told = value_told (value_field f.name) (value_place at f) (field_value f) in
    All-cons (IsIn bytes) (record { field = HTTP_HEADER_NAME; at = at; text = f.name }) (record { field = HTTP_HEADER_VALUE; at = value_place at f; text = field_value f } ∷ further)
    (text_in bytes HTTP_HEADER_NAME at f.name (58 ∷ (f.raw ++ (print_end f.end ++ r))) parts.name)
    (All-cons (IsIn bytes) (record { field = HTTP_HEADER_VALUE; at = value_place at f; text = field_value f }) further
    (text_in bytes HTTP_HEADER_VALUE (value_place at f) (field_value f) value.0 value.1)
    (further_in bytes (value_field f.name) (value_place at f) (field_value f) value.0 value.1))

pub lines_in : (bytes : List ℕ) (at : ℕ) (fields : List Field) (last : LineEnd) (r : List ℕ) → drop at bytes ≡ print_section fields last ++ r → All (IsIn bytes) (fields_told at fields)
lines_in bytes at [] last r e = All-nil (IsIn bytes)
lines_in bytes at (f ∷ fields) last r e =
    let whole : drop at bytes ≡ print_field f ++ (print_section fields last ++ r) = e ∙ section-cons f fields last r in
    let next : ℕ = at + length (print_field f) in
    All-append (IsIn bytes) (field_told at f) (fields_told next fields) (field_in bytes at f (print_section fields last ++ r) whole)
    (lines_in bytes next fields last r (drop_on bytes at (print_field f) (print_section fields last ++ r) whole))

-- the phrase stands behind its space
pub phrase_in : (bytes : List ℕ) (at : ℕ) (reason : Option (List ℕ)) (r : List ℕ) → drop at bytes ≡ print_reason reason ++ r → StandsAt (at + 1) (reason_phrase reason) bytes
phrase_in bytes at None r is = refl
phrase_in bytes at (Some phrase) r is = front_by phrase r (drop (at + 1) bytes) (drop_next bytes at 32 (phrase ++ r) is)

pub head_in : (bytes : List ℕ) (h : Head) → head_of bytes ≡ Some h → All (IsIn bytes) (head_told h)
head_in bytes (Request h) found =
    let reads = (head_of-says bytes (Request h) found).reads.1 in
    let rest : List ℕ = drop (length (print_head (Request h))) bytes in
    All-cons (IsIn bytes) (method_told h) (target_told h ∷ request_fields h)
    (text_in bytes HTTP_REQUEST_METHOD (method_place h) h.method (32 ∷ target_text bytes h reads.0 rest reads.1) (method_on bytes h reads.0 rest reads.1))
    (All-cons (IsIn bytes) (target_told h) (request_fields h)
    (text_in bytes HTTP_REQUEST_URI (target_place h) h.target (32 ∷ version_text bytes h reads.0 rest reads.1) (target_on bytes h reads.0 rest reads.1))
    (lines_in bytes (section_place (Request h)) h.fields h.last rest (section_on bytes h reads.0 rest reads.1)))
head_in bytes (Response h) found =
    let reads = (head_of-says bytes (Response h) found).reads.1 in
    let rest : List ℕ = drop (length (print_head (Response h))) bytes in
    All-cons (IsIn bytes) (reason_told h) (response_fields h)
    (phrase_in bytes (code_end bytes h reads.0 rest reads.1) h.reason (print_end h.line_end ++ (print_section h.fields h.last ++ rest)) (reason_on bytes h reads.0 rest reads.1))
    (lines_in bytes (section_place (Response h)) h.fields h.last rest (status_section_on bytes h reads.0 rest reads.1))

-- ---- no row of a head leaves the message

fits_in : (at len end : ℕ) → (len == 0) ≡ false → len ≤ end - at → nat_le (at + len) end ≡ true
fits_in at len end some less = grind arith

pub part_fits_in : (field at len end : ℕ) → len ≤ end - at → step_reach end (Part field at len) ≡ Whole
unfolding step_reach
part_fits_in field at len end less = by (len == 0) refl
  where
    by : (t : Bool) → (len == 0) ≡ t → step_reach end (Part field at len) ≡ Whole
    by true none = cond-true _ _ _ none
    by false some = cond-false _ _ _ some ∙ cond-true _ _ _ (fits_in at len end some less)

told_fits : (bytes : List ℕ) (told : Told) → IsIn bytes told → step_reach (length bytes) (told_step told) ≡ Whole
told_fits bytes told is =
    part_fits_in told.field told.at (length told.text) (length bytes)
    (omega (arith, ap length is, length-take (length told.text) (drop told.at bytes), length-drop told.at bytes))

pub step_fits : (end : ℕ) (step : Step) (steps : List Step) → step_reach end step ≡ Whole → reach end steps ≡ Whole → reach end (step ∷ steps) ≡ Whole
unfolding reach
step_fits end step steps first rest = ap₂ reach_after first rest

pub all_fit : (bytes : List ℕ) (list : List Told) → All (IsIn bytes) list → reach (length bytes) (map told_step list) ≡ Whole
unfolding reach
all_fit bytes [] all = refl
all_fit bytes (told ∷ list) all =
    step_fits (length bytes) (told_step told) (map told_step list) (told_fits bytes told (All-head (IsIn bytes) told list all)) (all_fit bytes list (All-tail (IsIn bytes) told list all))

pub head_fits : (bytes : List ℕ) (h : Head) → All (IsIn bytes) (head_told h) → reach (length bytes) (head_steps h) ≡ Whole
unfolding step_reach
head_fits bytes (Request h) all =
    let end : ℕ = length bytes in
    let fields : List Step = map told_step (request_fields h) in
    let version : Step = Made HTTP_REQUEST_VERSION (Text (print_version h.minor)) in
    let later = All-tail (IsIn bytes) (method_told h) (target_told h ∷ request_fields h) all in
    let rest = step_fits end version fields refl (all_fit bytes (request_fields h) (All-tail (IsIn bytes) (target_told h) (request_fields h) later)) in
    let target = step_fits end (told_step (target_told h)) (version ∷ fields) (told_fits bytes (target_told h) (All-head (IsIn bytes) (target_told h) (request_fields h) later)) rest in
    step_fits end (Made HTTP_REQUEST (Truth true)) (told_step (method_told h) ∷ told_step (target_told h) ∷ version ∷ fields) refl
    (step_fits end (told_step (method_told h)) (told_step (target_told h) ∷ version ∷ fields)
    (told_fits bytes (method_told h) (All-head (IsIn bytes) (method_told h) (target_told h ∷ request_fields h) all)) target)
head_fits bytes (Response h) all =
    let end : ℕ = length bytes in
    let fields : List Step = map told_step (response_fields h) in
    let code : Step = Made HTTP_RESPONSE_CODE (Uint (status_code h)) in
    let version : Step = Made HTTP_RESPONSE_VERSION (Text (print_version h.minor)) in
    let rest = all_fit bytes (response_fields h) (All-tail (IsIn bytes) (reason_told h) (response_fields h) all) in
    let reason = step_fits end (told_step (reason_told h)) fields (told_fits bytes (reason_told h) (All-head (IsIn bytes) (reason_told h) (response_fields h) all)) rest in
    step_fits end (Made HTTP_RESPONSE (Truth true)) (version ∷ code ∷ told_step (reason_told h) ∷ fields) refl
    (step_fits end version (code ∷ told_step (reason_told h) ∷ fields) refl
    (step_fits end code (told_step (reason_told h) ∷ fields) refl reason))
