-- The rows of a message's head by the grammar that `httparse` reads it by (RFC 9112, 3 to 5): which bytes of the head each row
-- tells, and where they stand.
--
--    request  = method SP target SP version *field-line
--    response = version SP code [ SP reason ] *field-line
use Rattle.std.specs.Prelude.{ℕ, ◌+◌, true, Option, Some, None, if◌then◌else◌, List, [], ◌∷◌, ◌++◌, length, map, codes}
use Rattle.std.specs.Str.{str_eq_ignore_ascii_case}
use Rattle.httparse.specs.Grammar.{Field, field_value, print_field, print_version, reason_phrase, status_code, RequestHead, ResponseHead}
use Rattle.stream_messages.specs.Heads.{Head, Request, Response}
use Rattle.stream_messages.specs.Places.{method_place, target_place, reason_place, section_place, value_place}
use Rattle.pk_fields.specs.Ids.{HTTP_REQUEST, HTTP_REQUEST_METHOD, HTTP_REQUEST_URI, HTTP_REQUEST_VERSION, HTTP_RESPONSE, HTTP_RESPONSE_VERSION, HTTP_RESPONSE_CODE, HTTP_RESPONSE_PHRASE, HTTP_HEADER_NAME, HTTP_HEADER_VALUE, HTTP_HOST, HTTP_USER_AGENT, HTTP_CONTENT_TYPE, HTTP_CONTENT_LENGTH_HEADER, HTTP_TRANSFER_ENCODING, HTTP_CONTENT_ENCODING, HTTP_SERVER, HTTP_LOCATION, HTTP_CONNECTION, HTTP_COOKIE, HTTP_SET_COOKIE, HTTP_REFERER, HTTP_ACCEPT, HTTP_DATE}
use Rattle.pk_tree.specs.declared.layout.Step.{Step}
use Rattle.pk_tree.specs.declared.layout.Step.TheVariants.{Part, Made}
use Rattle.pk_base.specs.declared.value.Value.TheVariants.{Uint, Bool, Text}

-- bytes of the message that a row tells, and their place
pub record Told : Type 0 where
  pub field : ℕ
  pub at : ℕ
  pub text : List ℕ

abbrev pub told_step : Told → Step
told_step told = Part told.field told.at (length told.text)

-- ---- field lines

-- the item that a field's value has besides, by the field's name, whose case is ignored (RFC 9110, 5.1)
abbrev pub further_field : List ℕ → Option ℕ
further_field name =
    if str_eq_ignore_ascii_case name (codes "location") then Some HTTP_LOCATION
    else (if str_eq_ignore_ascii_case name (codes "connection") then Some HTTP_CONNECTION
    else (if str_eq_ignore_ascii_case name (codes "cookie") then Some HTTP_COOKIE
    else (if str_eq_ignore_ascii_case name (codes "set-cookie") then Some HTTP_SET_COOKIE
    else (if str_eq_ignore_ascii_case name (codes "referer") then Some HTTP_REFERER
    else (if str_eq_ignore_ascii_case name (codes "accept") then Some HTTP_ACCEPT
    else (if str_eq_ignore_ascii_case name (codes "date") then Some HTTP_DATE
    else None))))))

unfoldable pub value_field : List ℕ → Option ℕ
value_field name =
    if str_eq_ignore_ascii_case name (codes "host") then Some HTTP_HOST
    else (if str_eq_ignore_ascii_case name (codes "user-agent") then Some HTTP_USER_AGENT
    else (if str_eq_ignore_ascii_case name (codes "content-type") then Some HTTP_CONTENT_TYPE
    else (if str_eq_ignore_ascii_case name (codes "content-length")
    then Some HTTP_CONTENT_LENGTH_HEADER
    else (if str_eq_ignore_ascii_case name (codes "transfer-encoding")
    then Some HTTP_TRANSFER_ENCODING
    else (if str_eq_ignore_ascii_case name (codes "content-encoding")
    then Some HTTP_CONTENT_ENCODING
    else (if str_eq_ignore_ascii_case name (codes "server") then Some HTTP_SERVER
    else further_field name))))))

-- some names have an item of their own for the value besides
abbrev pub value_told : Option ℕ → ℕ → List ℕ → List Told
value_told (Some field) at value = record { field = field; at = at; text = value } ∷ []
value_told None at value = []

-- the field line at a place: its name, and its value without the white space around it
abbrev pub field_told : ℕ → Field → List Told
field_told at f =
    record { field = HTTP_HEADER_NAME; at = at; text = f.name } ∷
    record { field = HTTP_HEADER_VALUE; at = value_place at f; text = field_value f } ∷
    value_told (value_field f.name) (value_place at f) (field_value f)

-- the field lines from a place on
abbrev pub fields_told : ℕ → List Field → List Told
fields_told at [] = []
fields_told at (f ∷ fields) = field_told at f ++ fields_told (at + length (print_field f)) fields

-- ---- requests

abbrev pub method_told : RequestHead → Told
method_told h =
    record { field = HTTP_REQUEST_METHOD; at = method_place h; text = h.method }

abbrev pub target_told : RequestHead → Told
target_told h = record { field = HTTP_REQUEST_URI; at = target_place h; text = h.target }

abbrev pub request_fields : RequestHead → List Told
request_fields h = fields_told (section_place (Request h)) h.fields

-- ---- responses

abbrev pub reason_told : ResponseHead → Told
reason_told h =
    record { field = HTTP_RESPONSE_PHRASE; at = reason_place h; text = reason_phrase h.reason }

abbrev pub response_fields : ResponseHead → List Told
response_fields h = fields_told (section_place (Response h)) h.fields

-- ---- heads

abbrev pub head_told : Head → List Told
head_told (Request h) = method_told h ∷ target_told h ∷ request_fields h
head_told (Response h) = reason_told h ∷ response_fields h

abbrev pub head_steps : Head → List Step
head_steps (Request h) =
    Made HTTP_REQUEST (Bool true) ∷
    told_step (method_told h) ∷
    told_step (target_told h) ∷
    Made HTTP_REQUEST_VERSION (Text (print_version h.minor)) ∷
    map told_step (request_fields h)
head_steps (Response h) =
    Made HTTP_RESPONSE (Bool true) ∷
    Made HTTP_RESPONSE_VERSION (Text (print_version h.minor)) ∷
    Made HTTP_RESPONSE_CODE (Uint (status_code h)) ∷
    told_step (reason_told h) ∷
    map told_step (response_fields h)

-- the rows of a head, where there is one
abbrev pub head_rows : Option Head → List Step
head_rows None = []
head_rows (Some h) = head_steps h
