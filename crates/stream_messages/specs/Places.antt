-- Where the parts of a head stand (RFC 9112, 2.1 to 5), as places from the first byte on. Empty lines may stand before it.
--
--    request-line = method SP request-target SP HTTP-version
--    status-line  = HTTP-version SP status-code [ SP reason-phrase ]
--    field-line   = field-name ":" OWS field-value OWS
use Rattle.std.specs.Prelude.{◌≡◌, ◌==◌, ◌≤◌, ℕ, ◌+◌, ◌-◌, Bool, not, List, length, map, take, drop, All}
use Rattle.std.specs.List.{prefix_len}
use Rattle.httparse.specs.declared.spans.HeaderSpan.{HeaderSpan}
use Rattle.httparse.specs.Ascii.{line_feed}
use Rattle.httparse.specs.Grammar.{Field, LineEnd, RequestHead, ResponseHead, ReadsSection, field_value, skip_ows, print_blank, print_version, print_end, print_field, print_reason, reason_phrase, status_code}
use Rattle.httparse.specs.Spans.{IsHeaderWithin, header_bytes, name_and_value}
use Rattle.stream_messages.specs.declared.places.Part.{Part}
use Rattle.stream_messages.specs.declared.places.StartLine.{StartLine}
use Rattle.stream_messages.specs.declared.places.StartLine.TheVariants.{Request as RequestLine, Response as StatusLine}
use Rattle.stream_messages.specs.declared.places.FieldPlaces.{FieldPlaces}
use Rattle.stream_messages.specs.declared.places.HeadPlaces.{HeadPlaces}
use Rattle.stream_messages.specs.Heads.{Head, Request, Response, fields_of}

abbrev pub part : ℕ → ℕ → Part
part at len = record { at = at; len = len }

-- ---- start lines

abbrev pub method_place : RequestHead → ℕ
method_place h = length (print_blank h.blank)

abbrev pub target_place : RequestHead → ℕ
target_place h = method_place h + length h.method + 1

abbrev pub reason_place : ResponseHead → ℕ
reason_place h =
    length (print_blank h.blank) + length (print_version h.minor) + 1 + length h.digits + 1

abbrev pub start_line : Head → StartLine
start_line (Request h) =
    RequestLine (part (method_place h) (length h.method)) (part (target_place h) (length h.target))
start_line (Response h) =
    StatusLine (status_code h) (part (reason_place h) (length (reason_phrase h.reason)))

abbrev pub minor_of : Head → ℕ
minor_of (Request h) = h.minor
minor_of (Response h) = h.minor

-- the bytes behind the next line feed
abbrev pub is_in_line : ℕ → Bool
is_in_line b = not (b == line_feed)

abbrev pub behind_feed : List ℕ → List ℕ
behind_feed bytes = drop 1 (drop (prefix_len is_in_line bytes) bytes)

-- behind the start line
abbrev pub section_place : Head → ℕ
section_place (Request h) =
    target_place h + length h.target + 1 + length (print_version h.minor)
    + length (print_end h.line_end)
section_place (Response h) =
    length (print_blank h.blank) + length (print_version h.minor) + 1 + length h.digits
    + length (print_reason h.reason) + length (print_end h.line_end)

-- ---- field lines

-- behind the name, the colon and the white space before the value
abbrev pub value_place : ℕ → Field → ℕ
value_place at f = at + length f.name + 1 + (length f.raw - length (skip_ows f.raw))

-- the field line at a place
abbrev pub field_places : ℕ → Field → FieldPlaces
field_places at f = record {
  name = part at (length f.name);
  value = part (value_place at f) (length (field_value f));
  next = at + length (print_field f);
}

-- from a place on stand these field lines and the empty line behind them, and the spans cover their names and values
pub record AreLinesAt (bytes : List ℕ) (at : ℕ) (headers : List HeaderSpan) (fields : List Field) : Type 0 where
  pub last : LineEnd
  pub rest : List ℕ
  pub reads : ReadsSection (drop at bytes) fields last rest
  pub cover : map (header_bytes bytes) headers ≡ map name_and_value fields

-- the places of a head at the front of bytes, and the spans of its field lines
pub record IsHeadAt (bytes : List ℕ) (headers : List HeaderSpan) (h : Head) (places : HeadPlaces) : Type 0 where
  pub line : places.line ≡ start_line h
  pub minor : places.minor ≡ minor_of h
  pub next : places.next ≡ section_place h
  pub lines : AreLinesAt bytes (section_place h) (take places.count headers) (fields_of h)
  pub count : places.count ≤ length headers
  pub within : All (IsHeaderWithin (length bytes)) (take places.count headers)
