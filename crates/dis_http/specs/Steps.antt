-- The rows of a start line and of a field line whose parts have places.
use Rattle.std.specs.Prelude.{ℕ, true, Option, Some, None, List, [], ◌∷◌}
use Rattle.httparse.specs.Grammar.{print_version}
use Rattle.stream_messages.specs.declared.places.FieldPlaces.{FieldPlaces}
use Rattle.stream_messages.specs.declared.places.Part.{Part as Place}
use Rattle.stream_messages.specs.declared.places.StartLine.{StartLine}
use Rattle.stream_messages.specs.declared.places.StartLine.TheVariants.{Request as RequestLine, Response as StatusLine}
use Rattle.pk_fields.specs.Ids.{HTTP_REQUEST, HTTP_REQUEST_METHOD, HTTP_REQUEST_URI, HTTP_REQUEST_VERSION, HTTP_RESPONSE, HTTP_RESPONSE_VERSION, HTTP_RESPONSE_CODE, HTTP_RESPONSE_PHRASE, HTTP_HEADER_NAME, HTTP_HEADER_VALUE}
use Rattle.pk_tree.specs.declared.layout.Step.{Step}
use Rattle.pk_tree.specs.declared.layout.Step.TheVariants.{Part, Made}
use Rattle.pk_base.specs.declared.value.Value.TheVariants.{Uint, Bool, Text}
use Rattle.dis_http.specs.Heads.{value_field}

abbrev pub part_step : ℕ → Place → Step
part_step field place = Part field place.at place.len

abbrev pub line_steps : ℕ → StartLine → List Step
line_steps minor (RequestLine method target) =
    Made HTTP_REQUEST (Bool true) ∷
    part_step HTTP_REQUEST_METHOD method ∷
    part_step HTTP_REQUEST_URI target ∷
    Made HTTP_REQUEST_VERSION (Text (print_version minor)) ∷
    []
line_steps minor (StatusLine code phrase) =
    Made HTTP_RESPONSE (Bool true) ∷
    Made HTTP_RESPONSE_VERSION (Text (print_version minor)) ∷
    Made HTTP_RESPONSE_CODE (Uint code) ∷
    part_step HTTP_RESPONSE_PHRASE phrase ∷
    []

abbrev pub value_steps : Option ℕ → Place → List Step
value_steps (Some field) value = part_step field value ∷ []
value_steps None value = []

abbrev pub field_steps : List ℕ → FieldPlaces → List Step
field_steps name field =
    part_step HTTP_HEADER_NAME field.name ∷
    part_step HTTP_HEADER_VALUE field.value ∷
    value_steps (value_field name) field.value
