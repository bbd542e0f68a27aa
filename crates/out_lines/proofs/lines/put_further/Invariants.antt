use Rattle.std.proofs.Common.{◌≡◌, ℕ, ◌++◌, ◌∷◌, drop}
use Rattle.std.specs.List.{flat_map}
use Rattle.out_lines.specs.Columns.{written}
use Rattle.out_lines.specs.Places.{column_in}
use Rattle.out_lines.proofs.lines.put_further.Given as goal

abbrev pub invariant-loop-field : goal.invariant-loop-field
invariant-loop-field l =
    l.line ++ flat_map (λ (field : ℕ). l.style.separator ∷ written l.style.quote (column_in l.columns l.places field)) (drop l.field-index l.fields)
    ≡ l.initial.line ++ flat_map (λ (field : ℕ). l.style.separator ∷ written l.style.quote (column_in l.columns l.places field)) l.fields
