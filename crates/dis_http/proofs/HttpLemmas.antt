-- The steps of an HTTP message are of the protocol's own fields, and its chunks are short.
use Rattle.std.proofs.Common.{◌≡◌, ℕ, zero, suc, ◌+◌, ◌^◌, ◌<◌, ◌≤◌, true, List, [], ◌∷◌, ◌++◌, length, map, take, drop, refl, sym, ap, ◌∙◌, subst, arith, rules, get_or, append_assoc, length-append, length-take, take-append-drop, Option, Some, None, if◌then◌else◌}
use Rattle.std.specs.Prelude.{IsTrue, is_none, ◌&&◌, codes}
use Rattle.std.specs.Char.{digit_value, is_ascii_digit}
use Rattle.std.specs.Str.{str_eq_ignore_ascii_case}
use Rattle.std.specs.Str.Parse.{AllDigits}
use Rattle.std.proofs.lemmas.Int.Digits.{digits_value-lt}
use Rattle.std.proofs.lemmas.List.{map-append}
use Rattle.std.proofs.lemmas.List.Elements.{All-head, All-tail}
use Rattle.httparse.specs.Grammar.{AllPass, Field, IsResponseHead, RequestHead, ResponseHead, field_value, print_field, status_code}
use Rattle.pk_fields.specs.Fields.{row_of}
use Rattle.pk_fields.specs.Ids.{HTTP, HTTP_REQUEST, HTTP_REQUEST_METHOD, HTTP_REQUEST_URI, HTTP_REQUEST_VERSION, HTTP_RESPONSE, HTTP_RESPONSE_VERSION, HTTP_RESPONSE_CODE, HTTP_RESPONSE_PHRASE, HTTP_HEADER_NAME, HTTP_HEADER_VALUE, HTTP_FILE_DATA, HTTP_HOST, HTTP_USER_AGENT, HTTP_CONTENT_TYPE, HTTP_CONTENT_LENGTH_HEADER, HTTP_TRANSFER_ENCODING, HTTP_CONTENT_ENCODING, HTTP_SERVER, HTTP_LOCATION, HTTP_CONNECTION, HTTP_COOKIE, HTTP_SET_COOKIE, HTTP_REFERER, HTTP_ACCEPT, HTTP_DATE}
use Rattle.pk_fields.specs.Table.{rows}
use Rattle.pk_tree.specs.declared.layout.Step.{Step}
use Rattle.pk_tree.specs.declared.layout.Step.TheVariants.{Part, Made}
use Rattle.pk_tree.specs.Layouts.{StepsFit, belongs}
use Rattle.pk_tree.specs.Values.{is_read, IsOfKind}
use Rattle.pk_base.specs.declared.value.Value.{Value}
use Rattle.stream_messages.specs.declared.shape.Shape.{Shape}
use Rattle.stream_messages.specs.declared.shape.Body.{Body}
use Rattle.stream_messages.specs.declared.shape.Body.TheVariants.{None as Bodiless, Plain, Chunked, NotShown}
use Rattle.stream_messages.proofs.HttpMessageLemmas.{first_short}
use Rattle.stream_messages.specs.declared.shape.Piece.{Piece}
use Rattle.stream_messages.specs.Sizes.{size_of_pieces}
use Rattle.dis_http.specs.Http.{joined, piece_bytes, body_steps, http_layout, IsShape, plain_read, chunked_read, body_read}
use Rattle.std.proofs.lemmas.List.{get_or_push, take_more, flat_map_more}
use Rattle.std.specs.List.{flat_map}
use Rattle.std.proofs.lemmas.Bool.{cond_both}
use Rattle.pk_base.specs.declared.span.Span.{Span}
use Rattle.pk_tree.specs.Buffers.{IsInside, buffer_of}
use Rattle.pk_tree.specs.Trees.{TreeShown}
use Rattle.pk_tree.proofs.EntryLemmas.{fit_append}
use Rattle.stream_messages.specs.Heads.{Head, Request, Response, head_of, print_head}
use Rattle.stream_messages.specs.Limits.{body_limit, head_limit}
use Rattle.stream_messages.specs.Places.{value_place}
use Rattle.stream_messages.specs.Plans.{start_of}
use Rattle.stream_messages.proofs.ChunkLemmas.{IsStarted}
use Rattle.stream_messages.proofs.HeadLawProofs.{head_of-says, head_of-shrinks}
use Rattle.stream_messages.proofs.HttpMessageLemmas.{first_head}
use Rattle.dis_http.specs.Heads.{told_step, value_field, value_told, field_told, fields_told, head_steps, head_rows}

length_take_most : (n : ℕ) (xs : List ℕ) → length (take n xs) ≤ n
length_take_most zero xs = omega arith
length_take_most (suc n) [] = omega arith
length_take_most (suc n) (x ∷ xs) = omega (arith, length_take_most n xs)

pub joined_short : (bytes : List ℕ) (pieces : List Piece) → length (joined bytes pieces) ≤ size_of_pieces pieces
unfolding joined
joined_short bytes [] = omega arith
joined_short bytes (piece ∷ pieces) =
    omega (arith, length_take_most piece.len (drop piece.start bytes), joined_short bytes pieces, length-append (piece_bytes bytes piece) (joined bytes pieces))

-- ---- the steps

none_fit : StepsFit HTTP []
unfolding StepsFit
none_fit = tt

part_fits : (field at len : ℕ) (steps : List Step) → IsTrue (belongs HTTP field && is_read (row_of field) && is_none (row_of field).bits) → StepsFit HTTP steps → StepsFit HTTP (Part field at len ∷ steps)
unfolding StepsFit
part_fits field at len steps own rest = (own, rest)

made_fits : (field : ℕ) (value : Value) (steps : List Step) → IsTrue (belongs HTTP field) → IsOfKind (row_of field).kind value → StepsFit HTTP steps → StepsFit HTTP (Made field value ∷ steps)
unfolding StepsFit
made_fits field value steps own kind rest = ((own, kind), rest)

record ValueFits (o : Option ℕ) : Type 0 where
  pub fits : (at : ℕ) (value : List ℕ) → StepsFit HTTP (map told_step (value_told o at value))

abbrev IsOwn : ℕ → Type 0
IsOwn field = IsTrue (belongs HTTP field && is_read (row_of field) && is_none (row_of field).bits)

value_fits : (field : ℕ) → IsOwn field → ValueFits (Some field)
value_fits field own = record { fits = λ at value. part_fits field at (length value) [] own none_fit }

-- names and their fields, one after the other
abbrev named : List (List ℕ × ℕ) → List ℕ → Option ℕ → Option ℕ
named [] name other = other
named (known ∷ table) name other = if str_eq_ignore_ascii_case name known.0 then Some known.1 else named table name other

abbrev AreOwn : List (List ℕ × ℕ) → Type 0
AreOwn [] = Unit {0}
AreOwn (known ∷ table) = IsOwn known.1 × AreOwn table

named_fits : (table : List (List ℕ × ℕ)) (name : List ℕ) (other : Option ℕ) → AreOwn table → ValueFits other → ValueFits (named table name other)
named_fits [] name other own rest = rest
named_fits (known ∷ table) name other own rest =
    cond_both (str_eq_ignore_ascii_case name known.0) (Some known.1) (named table name other) ValueFits
    (λ _. value_fits known.1 own.0) (λ _. named_fits table name other own.1 rest)

abbrev first_names : List (List ℕ × ℕ)
first_names = (codes "host", HTTP_HOST) ∷ (codes "user-agent", HTTP_USER_AGENT) ∷ (codes "content-type", HTTP_CONTENT_TYPE) ∷ (codes "content-length", HTTP_CONTENT_LENGTH_HEADER) ∷ (codes "transfer-encoding", HTTP_TRANSFER_ENCODING) ∷ (codes "content-encoding", HTTP_CONTENT_ENCODING) ∷ (codes "server", HTTP_SERVER) ∷ []

abbrev further_names : List (List ℕ × ℕ)
further_names = (codes "location", HTTP_LOCATION) ∷ (codes "connection", HTTP_CONNECTION) ∷ (codes "cookie", HTTP_COOKIE) ∷ (codes "set-cookie", HTTP_SET_COOKIE) ∷ (codes "referer", HTTP_REFERER) ∷ (codes "accept", HTTP_ACCEPT) ∷ (codes "date", HTTP_DATE) ∷ []

first_own : AreOwn first_names
unfolding row_of rows
first_own = (search rules, (search rules, (search rules, (search rules, (search rules, (search rules, (search rules, tt)))))))

further_own : AreOwn further_names
unfolding row_of rows
further_own = (search rules, (search rules, (search rules, (search rules, (search rules, (search rules, (search rules, tt)))))))

name_fits : (name : List ℕ) → ValueFits (value_field name)
unfolding value_field
name_fits name =
    named_fits first_names name (named further_names name None) first_own
    (named_fits further_names name None further_own (record { fits = λ at value. none_fit }))

field_fits : (at : ℕ) (f : Field) → StepsFit HTTP (map told_step (field_told at f))
unfolding row_of rows
field_fits at f =
    part_fits HTTP_HEADER_NAME at (length f.name) _ (search rules)
    (part_fits HTTP_HEADER_VALUE (value_place at f) (length (field_value f)) _ (search rules)
    ((name_fits f.name).fits (value_place at f) (field_value f)))

fields_fit : (at : ℕ) (fields : List Field) → StepsFit HTTP (map told_step (fields_told at fields))
fields_fit at [] = none_fit
fields_fit at (f ∷ fields) =
    let next : ℕ = at + length (print_field f) in
    subst (StepsFit HTTP) (sym (map-append told_step (field_told at f) (fields_told next fields)))
    (fit_append HTTP (map told_step (field_told at f)) (map told_step (fields_told next fields)) (field_fits at f) (fields_fit next fields))

digit_is : (b : ℕ) → is_ascii_digit b ≡ true → digit_value b < 10
digit_is b e = grind arith

digits_are : (ds : List ℕ) → AllPass is_ascii_digit ds → AllDigits 10 ds
digits_are [] pass = tt
digits_are (d ∷ ds) pass = (digit_is d (All-head (λ v. is_ascii_digit v ≡ true) d ds pass), digits_are ds (All-tail (λ v. is_ascii_digit v ≡ true) d ds pass))

code_short : (h : ResponseHead) → IsResponseHead h → status_code h < 2 ^ 16
code_short h is =
    let less : status_code h < 10 ^ length h.digits = digits_value-lt 10 h.digits (digits_are h.digits is.digits.1) in
    let three : 10 ^ length h.digits ≡ 1000 = ap (λ (n : ℕ). 10 ^ n) is.digits.0 in
    omega (arith, less, three)

request_fits : (h : RequestHead) → StepsFit HTTP (head_steps (Request h))
unfolding row_of rows
request_fits h =
    made_fits HTTP_REQUEST _ _ (search rules) (search rules)
    (part_fits HTTP_REQUEST_METHOD _ _ _ (search rules)
    (part_fits HTTP_REQUEST_URI _ _ _ (search rules)
    (made_fits HTTP_REQUEST_VERSION _ _ (search rules) (search rules) (fields_fit _ h.fields))))

response_fits : (h : ResponseHead) → IsResponseHead h → StepsFit HTTP (head_steps (Response h))
unfolding row_of rows
response_fits h is =
    made_fits HTTP_RESPONSE _ _ (search rules) (search rules)
    (made_fits HTTP_RESPONSE_VERSION _ _ (search rules) (search rules)
    (made_fits HTTP_RESPONSE_CODE _ _ (search rules) (code_short h is)
    (part_fits HTTP_RESPONSE_PHRASE _ _ _ (search rules) (fields_fit _ h.fields))))

head_fits : (bytes : List ℕ) (o : Option Head) → head_of bytes ≡ o → StepsFit HTTP (head_rows o)
head_fits bytes None found = none_fit
head_fits bytes (Some (Request h)) found = request_fits h
head_fits bytes (Some (Response h)) found = response_fits h (head_of-says bytes (Response h) found).reads.1.0

body_fits : (head : ℕ) (body : Body) → StepsFit HTTP (body_steps head body)
unfolding row_of rows
body_fits head Bodiless = none_fit
body_fits head (Plain len) = part_fits HTTP_FILE_DATA head len [] (search rules) none_fit
body_fits head (Chunked pieces) = none_fit
body_fits head NotShown = none_fit

pub layout_fits : (shape : Shape) (bytes : List ℕ) → StepsFit HTTP (http_layout shape bytes)
unfolding http_layout
layout_fits shape bytes =
    fit_append HTTP (head_rows (head_of bytes)) (body_steps shape.head shape.body) (head_fits bytes (head_of bytes) refl) (body_fits shape.head shape.body)

-- ---- the head of a message

pub head_is : (shape : Shape) (h : Head) → IsStarted (start_of h) shape → shape.head ≡ length (print_head h)
head_is shape (Request h) is = is.head
head_is shape (Response h) is = is.head

-- the bytes of a message's head begin with that head, and are no more than one may have
pub record HeadOf (shape : Shape) (bytes : List ℕ) : Type 0 where
  pub same : head_of (take shape.head bytes) ≡ head_of bytes
  pub short : length (take shape.head bytes) ≤ head_limit

head_inside : (bytes : List ℕ) (h : Head) → head_of bytes ≡ Some h → length (print_head h) ≤ length bytes
head_inside bytes (Request h) found = let reads = (head_of-says bytes (Request h) found).reads.1 in omega (arith, ap length reads.1, length-append (print_head (Request h)) (drop (length (print_head (Request h))) bytes))
head_inside bytes (Response h) found = let reads = (head_of-says bytes (Response h) found).reads.1 in omega (arith, ap length reads.1, length-append (print_head (Response h)) (drop (length (print_head (Response h))) bytes))

pub message_head : (shape : Shape) (bytes : List ℕ) → IsShape shape bytes → HeadOf shape bytes
message_head shape bytes is =
    let first = first_head is.0 bytes shape is.1 in
    let starts = head_of-says bytes first.head first.found in
    let len : shape.head ≡ length (print_head first.head) = head_is shape first.head first.is in
    let inside : length (print_head first.head) ≤ length bytes = head_inside bytes first.head first.found in
    let whole : head_of (take shape.head bytes ++ drop shape.head bytes) ≡ Some first.head = ap head_of (take-append-drop shape.head bytes) ∙ first.found in
    record {
      same = head_of-shrinks (take shape.head bytes) (drop shape.head bytes) first.head whole (omega (arith, length-take shape.head bytes, len, inside)) ∙ sym first.found;
      short = omega (arith, length-take shape.head bytes, len, starts.short);
    }

pub layout_is : (shape : Shape) (bytes : List ℕ) (old mid new : List Step) → IsShape shape bytes → mid ≡ old ++ head_rows (head_of (take shape.head bytes)) → new ≡ mid ++ body_steps shape.head shape.body
    → new ≡ old ++ http_layout shape bytes
unfolding http_layout
layout_is shape bytes old mid new is head body =
    body ∙ ap (λ (t : List Step). t ++ body_steps shape.head shape.body) (head ∙ ap (λ (o : Option Head). old ++ head_rows o) (message_head shape bytes is).same)
    ∙ append_assoc old (head_rows (head_of bytes)) (body_steps shape.head shape.body)

-- ---- the chunks of a message's shape

pub pieces_short : (shape : Shape) (bytes : List ℕ) (pieces : List Piece) → IsShape shape bytes → shape.body ≡ Chunked pieces → size_of_pieces pieces < 2 ^ 32
unfolding body_limit
pieces_short shape bytes pieces is body =
    let few : size_of_pieces pieces ≤ body_limit = first_short is.0 bytes shape pieces is.1 body in omega arith

-- ---- the buffer of joined chunks

pub inside_last : (buffers : List (List ℕ)) (bytes : List ℕ) (number len : ℕ) → number ≡ length buffers → len ≡ length bytes
    → IsInside (buffers ++ bytes ∷ []) (record { buffer = number; start = 0; len = len })
inside_last buffers bytes number len last whole =
    let same : buffer_of (buffers ++ bytes ∷ []) number ≡ bytes = get_or_push buffers bytes [] number (sym last) in
    (omega (arith, length-append buffers (bytes ∷ [])), omega (arith, ap length same))

pub joined_fits : (bytes : List ℕ) (pieces : List Piece) (all : List ℕ) → all ≡ joined bytes pieces → size_of_pieces pieces < 2 ^ 32 → length all < 2 ^ 32
joined_fits bytes pieces all is few = omega (arith, ap length is, joined_short bytes pieces)

-- ---- a message by its body

module _ (t : TreeShown) (span : Span) (steps : List Step) (bytes : List ℕ) (body : Body) where
  pub plain_bodiless : body ≡ Bodiless → plain_read t span steps ≡ body_read t span steps bytes body
  plain_bodiless is = sym (ap (body_read t span steps bytes) is)

  pub plain_plain : (len : ℕ) → body ≡ Plain len → plain_read t span steps ≡ body_read t span steps bytes body
  plain_plain len is = sym (ap (body_read t span steps bytes) is)

  pub plain_hidden : body ≡ NotShown → plain_read t span steps ≡ body_read t span steps bytes body
  plain_hidden is = sym (ap (body_read t span steps bytes) is)

  pub chunked_chunked : (pieces : List Piece) → body ≡ Chunked pieces → chunked_read t span steps (joined bytes pieces) ≡ body_read t span steps bytes body
  chunked_chunked pieces is = sym (ap (body_read t span steps bytes) is)

pub joined_next : (bytes : List ℕ) (pieces : List Piece) (i : ℕ) (d piece : Piece) (before after part : List ℕ) → i < length pieces → piece ≡ get_or pieces i d
    → before ≡ joined bytes (take i pieces) → part ≡ piece_bytes bytes piece → after ≡ before ++ part → after ≡ joined bytes (take (i + 1) pieces)
unfolding joined
joined_next bytes pieces i d piece before after part inside is so_far this more =
    more ∙ ap (λ (t : List ℕ). t ++ part) so_far ∙ ap (λ (t : List ℕ). flat_map (piece_bytes bytes) (take i pieces) ++ t) (this ∙ ap (piece_bytes bytes) is)
    ∙ flat_map_more (piece_bytes bytes) [] (take i pieces) (get_or pieces i d)
    ∙ sym (ap (flat_map (piece_bytes bytes)) (take_more pieces i d inside))
