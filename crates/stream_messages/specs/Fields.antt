-- What the field lines of a head say of the body (RFC 9112, 6).
use Rattle.std.specs.Prelude.{◌==◌, ℕ, if◌then◌else◌, Bool, not, ◌&&◌, List, [], ◌∷◌, ◌++◌, length, nat_le, codes, Option, Some, None}
use Rattle.std.specs.List.{fold, list_all}
use Rattle.std.specs.Char.{is_ascii_digit}
use Rattle.std.specs.Str.{str_eq_ignore_ascii_case}
use Rattle.std.specs.Str.Parse.{digits_value}
use Rattle.httparse.specs.Ascii.{comma}
use Rattle.httparse.specs.Grammar.{trim_ows}
use Rattle.stream_messages.specs.declared.lengths.Lengths.{Lengths}
use Rattle.stream_messages.specs.declared.lengths.Lengths.TheVariants.{Absent, Same, Bad}

-- the value of the last field of a name; names ignore the case of letters (RFC 9110, 5.1)
abbrev pub newer_value : List ℕ → Option (List ℕ) → List ℕ × List ℕ → Option (List ℕ)
newer_value name found field = if str_eq_ignore_ascii_case field.0 name then Some field.1 else found

abbrev pub last_of_name : List ℕ → List (List ℕ × List ℕ) → Option (List ℕ)
last_of_name name fields = fold (newer_value name) None fields

-- the element behind the last comma of a list
abbrev pub last_element : List ℕ → List ℕ
last_element value = fold (λ part b. if b == comma then [] else part ++ b ∷ []) [] value

-- the last transfer coding is chunked (RFC 9112, 6.1)
unfoldable pub is_chunked : List ℕ → Bool
is_chunked value = str_eq_ignore_ascii_case (trim_ows (last_element value)) (codes "chunked")

-- a Content-Length of 1 to 18 digits (RFC 9110, 8.6)
abbrev pub is_length : List ℕ → Bool
is_length value =
    not (length value == 0) && (nat_le (length value) 18 && list_all is_ascii_digit value)

unfoldable pub length_in : List ℕ → Option ℕ
length_in value = if is_length value then Some (digits_value 10 value) else None

-- one more Content-Length beside those before it: all are the same number
abbrev pub merged : Lengths → Option ℕ → Lengths
merged Absent None = Bad
merged Absent (Some n) = Same n
merged (Same m) None = Bad
merged (Same m) (Some n) = if m == n then Same m else Bad
merged Bad more = Bad

-- all Content-Lengths of a head
abbrev pub with_field : Lengths → List ℕ × List ℕ → Lengths
with_field before field =
    if str_eq_ignore_ascii_case field.0 (codes "content-length")
    then merged before (length_in field.1) else before

abbrev pub lengths_of : List (List ℕ × List ℕ) → Lengths
lengths_of fields = fold with_field Absent fields
