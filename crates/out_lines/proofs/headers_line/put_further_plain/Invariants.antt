use Rattle.std.proofs.Common.{◌≡◌, ℕ, ◌++◌, ◌∷◌, drop}
use Rattle.std.specs.List.{flat_map}
use Rattle.out_lines.specs.Lines.{column_text}
use Rattle.out_lines.proofs.headers_line.put_further_plain.Given as goal

abbrev pub invariant-loop-field : goal.invariant-loop-field
invariant-loop-field l =
    (l.line ++ flat_map (λ (field : ℕ). l.style.separator ∷ column_text l.outline l.style field) (drop l.field-index l.fields)
    ≡ l.initial.line ++ flat_map (λ (field : ℕ). l.style.separator ∷ column_text l.outline l.style field) l.fields)
    × (l.reader ≡ l.outline)
