-- The head at the front of a stream's bytes (RFC 9112, 2.1), as the grammar of `httparse` has it: its parts are read one
-- behind the other by what ends each, and what was read is the head where it is valid and its text stands at the front.
use Rattle.std.specs.Prelude.{◌≡◌, ◌↔◌, ◌≤◌, ◌-◌, ℕ, zero, suc, if◌then◌else◌, Bool, true, false, ◌&&◌, ◌==◌, List, [], ◌∷◌, ◌++◌, length, take, drop, nat_le, nat_lt, slice_index, codes, Option, Some, None}
use Rattle.std.specs.List.{list_all}
use Rattle.std.specs.Option.{option_map}
use Rattle.std.specs.Str.{bytes_eq, is_utf8}
use Rattle.std.specs.Char.{is_ascii_digit}
use Rattle.httparse.specs.Ascii.{line_feed, carriage_return, space}
use Rattle.httparse.specs.Grammar.{is_token_byte, is_uri_byte, is_value_byte, is_token, LineEnd, crlf, lf, Field, RequestHead, print_request, ReadsRequest, ResponseHead, print_response, ReadsResponse, reason_phrase}
use Rattle.httparse.specs.Pieces.{is_newline}
use Rattle.stream_messages.specs.Limits.{head_limit, field_limit}

-- the head of a request or of a response
pub data Head : Type 0 where
  Request : RequestHead → Head
  Response : ResponseHead → Head

-- the bytes of a head
abbrev pub print_head : Head → List ℕ
print_head (Request h) = print_request h
print_head (Response h) = print_response h

abbrev pub fields_of : Head → List Field
fields_of (Request h) = h.fields
fields_of (Response h) = h.fields

-- the bytes at the front that pass a test, and those behind them
abbrev pub run : (ℕ → Bool) → List ℕ → List ℕ
run test [] = []
run test (b ∷ bytes) = if test b then b ∷ run test bytes else []

abbrev pub behind : (ℕ → Bool) → List ℕ → List ℕ
behind test [] = []
behind test (b ∷ bytes) = if test b then behind test bytes else b ∷ bytes

abbrev pub begins : (ℕ → Bool) → List ℕ → Bool
begins test [] = false
begins test (b ∷ bytes) = test b

-- a line's end, and the bytes behind it
abbrev pub end_in : List ℕ → LineEnd
end_in bytes = if begins (λ b. b == carriage_return) bytes then crlf else lf

abbrev pub behind_end : List ℕ → List ℕ
behind_end bytes = if begins (λ b. b == carriage_return) bytes then drop 2 bytes else drop 1 bytes

-- the empty lines before a start line; the first argument says whether a carriage return stands before
abbrev pub blank_in : Bool → List ℕ → List LineEnd
blank_in cr [] = []
blank_in cr (b ∷ bytes) =
    if b == carriage_return then blank_in true bytes
    else (if b == line_feed then (if cr then crlf else lf) ∷ blank_in false bytes else [])

-- the bytes from the start line on
abbrev pub start_at : List ℕ → List ℕ
start_at bytes = behind is_newline bytes

-- field lines, at most so many, and the bytes behind them
abbrev pub value_at : List ℕ → List ℕ
value_at bytes = drop 1 (behind is_token_byte bytes)

abbrev pub field_in : List ℕ → Field
field_in bytes = record {
  name = run is_token_byte bytes;
  raw = run is_value_byte (value_at bytes);
  end = end_in (behind is_value_byte (value_at bytes));
}

abbrev pub behind_field : List ℕ → List ℕ
behind_field bytes = behind_end (behind is_value_byte (value_at bytes))

abbrev pub fields_in : ℕ → List ℕ → List Field
fields_in zero bytes = []
fields_in (suc most) bytes =
    if begins is_token_byte bytes then field_in bytes ∷ fields_in most (behind_field bytes) else []

abbrev pub behind_fields : ℕ → List ℕ → List ℕ
behind_fields zero bytes = bytes
behind_fields (suc most) bytes =
    if begins is_token_byte bytes then behind_fields most (behind_field bytes) else bytes

-- a request's parts, from its start line on
abbrev pub target_at : List ℕ → List ℕ
target_at start = drop 1 (behind is_token_byte start)

abbrev pub version_at : List ℕ → List ℕ
version_at start = drop 1 (behind is_uri_byte (target_at start))

abbrev pub request_section : List ℕ → List ℕ
request_section start = behind_end (drop 8 (version_at start))

abbrev pub request_in : ℕ → List ℕ → RequestHead
request_in most bytes = record {
  blank = blank_in false bytes;
  method = run is_token_byte (start_at bytes);
  target = run is_uri_byte (target_at (start_at bytes));
  minor = slice_index (version_at (start_at bytes)) 7 - 48;
  line_end = end_in (drop 8 (version_at (start_at bytes)));
  fields = fields_in most (request_section (start_at bytes));
  last = end_in (behind_fields most (request_section (start_at bytes)));
}

-- a response's parts, from its start line on
abbrev pub reason_in : List ℕ → Option (List ℕ)
reason_in bytes =
    if begins (λ b. b == space) bytes then Some (run is_value_byte (drop 1 bytes)) else None

abbrev pub response_section : List ℕ → List ℕ
response_section start = behind_end (behind is_value_byte (drop 12 start))

abbrev pub response_in : ℕ → List ℕ → ResponseHead
response_in most bytes = record {
  blank = blank_in false bytes;
  minor = slice_index (start_at bytes) 7 - 48;
  digits = take 3 (drop 9 (start_at bytes));
  reason = reason_in (drop 12 (start_at bytes));
  line_end = end_in (behind is_value_byte (drop 12 (start_at bytes)));
  fields = fields_in most (response_section (start_at bytes));
  last = end_in (behind_fields most (response_section (start_at bytes)));
}

-- whether each part is of its class
abbrev pub is_field : Field → Bool
is_field f = is_token f.name && list_all is_value_byte f.raw

abbrev pub is_request : RequestHead → Bool
is_request h =
    is_token h.method && (nat_lt 0 (length h.target) && (list_all is_uri_byte h.target
    && (is_utf8 h.target && (nat_le h.minor 1 && list_all is_field h.fields))))

abbrev pub is_response : ResponseHead → Bool
is_response h =
    nat_le h.minor 1 && (length h.digits == 3 && (list_all is_ascii_digit h.digits
    && (list_all is_value_byte (reason_phrase h.reason) && list_all is_field h.fields)))

-- a text stands at the front, and it and its fields are within the limits
abbrev pub starts_with : List ℕ → List ℕ → Bool
starts_with front bytes = bytes_eq (take (length front) bytes) front

abbrev pub fits : List ℕ → List Field → List ℕ → Bool
fits front fields bytes =
    starts_with front bytes && (nat_le (length front) head_limit
    && nat_le (length fields) field_limit)

abbrev pub request_if : List ℕ → RequestHead → Option RequestHead
request_if bytes h = if is_request h && fits (print_request h) h.fields bytes then Some h else None

abbrev pub response_if : List ℕ → ResponseHead → Option ResponseHead
response_if bytes h =
    if is_response h && fits (print_response h) h.fields bytes then Some h else None

-- the request's head and the response's head at the front
unfoldable pub request_of : List ℕ → Option RequestHead
request_of bytes = request_if bytes (request_in field_limit bytes)

unfoldable pub response_of : List ℕ → Option ResponseHead
response_of bytes = response_if bytes (response_in field_limit bytes)

-- whether the bytes differ from a response's first ones; unknown while they are a shorter prefix
abbrev pub kind_by : List ℕ → List ℕ → Option Bool
kind_by [] bytes = Some false
kind_by (p ∷ front) [] = None
kind_by (p ∷ front) (b ∷ bytes) = if b == p then kind_by front bytes else Some true

-- whether the bytes behind any leading CR and LF begin a request
unfoldable pub is_request_at : List ℕ → Option Bool
is_request_at bytes = kind_by (codes "HTTP/") (start_at bytes)

abbrev pub head_by : Option Bool → List ℕ → Option Head
head_by None bytes = None
head_by (Some true) bytes = option_map Request (request_of bytes)
head_by (Some false) bytes = option_map Response (response_of bytes)

-- the head at the front of bytes
unfoldable pub head_of : List ℕ → Option Head
head_of bytes = head_by (is_request_at bytes) bytes

-- bytes that are a head and then a rest, by the grammar
abbrev pub ReadsHead : List ℕ → Head → List ℕ → Type 0
ReadsHead bytes (Request h) rest = (is_request_at bytes ≡ Some true) × ReadsRequest bytes h rest
ReadsHead bytes (Response h) rest = (is_request_at bytes ≡ Some false) × ReadsResponse bytes h rest

-- the same within the limits
pub record StartsWith (bytes : List ℕ) (head : Head) (rest : List ℕ) : Type 0 where
  pub reads : ReadsHead bytes head rest
  pub short : length (print_head head) ≤ head_limit
  pub few : length (fields_of head) ≤ field_limit

-- the head that is found is exactly the one that there is, and nothing that stands behind a head changes it
pub record HeadLaws : Type 0 where
  pub exact : (bytes : List ℕ) (h : Head)
      → (head_of bytes ≡ Some h) ↔ StartsWith bytes h (drop (length (print_head h)) bytes)
  pub stays : (bytes more : List ℕ) (h : Head) → head_of bytes ≡ Some h
      → head_of (bytes ++ more) ≡ Some h
  pub shrinks : (bytes more : List ℕ) (h : Head) → head_of (bytes ++ more) ≡ Some h
      → length (print_head h) ≤ length bytes → head_of bytes ≡ Some h
