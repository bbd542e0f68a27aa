-- What is added to a set with a list of fields.
use Rattle.std.specs.Prelude.{◌==◌, ◌||◌, ℕ, Bool, false, List, [], ◌∷◌}
use Rattle.pk_fields.specs.Fields.{row_of}

-- whether a field is added with these: it is one of them, or the protocol of one
abbrev pub adds : List ℕ → ℕ → Bool
adds [] f = false
adds (field ∷ fields) f = (f == field || f == (row_of field).proto) || adds fields f
