-- The columns: the fields of the names after `-e`.
use Rattle.std.specs.Prelude.{◌≡◌, ℕ, List, [], ◌∷◌, Option, Some, None, Result, Ok, Err}
use Rattle.pk_fields.specs.Fields.{field_named}
use Rattle.run_words.specs.declared.refused.Refused.{Refused}
use Rattle.run_words.specs.declared.refused.Refused.TheVariants as refused

-- the field of a name, or the refusal of a name that isn't known
abbrev pub known : List ℕ → Option ℕ → Result ℕ Refused
known name None = Err (refused.Field name)
known name (Some field) = Ok field

abbrev pub field_or_refusal : List ℕ → Result ℕ Refused
field_or_refusal name = known name (field_named name)

abbrev pub with_others : ℕ → Result (List ℕ) Refused → Result (List ℕ) Refused
with_others field (Err refused) = Err refused
with_others field (Ok fields) = Ok (field ∷ fields)

abbrev pub with_first : Result ℕ Refused → Result (List ℕ) Refused → Result (List ℕ) Refused
with_first (Err refused) others = Err refused
with_first (Ok field) others = with_others field others

-- the fields of names, in order, or the refusal of the first that isn't known
abbrev pub fields_named : List (List ℕ) → Result (List ℕ) Refused
fields_named [] = Ok []
fields_named (name ∷ names) = with_first (field_or_refusal name) (fields_named names)

-- why names are refused: for the first that isn't known
abbrev pub IsNameRefused : List (List ℕ) → Refused → Type 0
IsNameRefused names reason = fields_named names ≡ Err reason
