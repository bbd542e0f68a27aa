use Rattle.std.proofs.Common.{◌≡◌, ℕ, ◌++◌, ◌∷◌, drop}
use Rattle.std.specs.List.{flat_map}
use Rattle.pk_fields.specs.Fields.{row_of}
use Rattle.out_lines.proofs.lines.put_further_names.Given as goal

abbrev pub invariant-loop-field : goal.invariant-loop-field
invariant-loop-field l =
    l.line.items ++ flat_map (λ (field : ℕ). l.separator ∷ (row_of field).name) (drop l.field-index l.fields)
    ≡ l.initial.line.items ++ flat_map (λ (field : ℕ). l.separator ∷ (row_of field).name) l.fields
