use Rattle.std.proofs.Common.{List, ℕ, ◌++◌, ◌∷◌, [], ap, ◌∙◌, append_assoc}
use Rattle.std.proofs.lemmas.Result.{on_ok_weaker}
use Rattle.out_lines.proofs.PlaceLemmas.{line_written}
use Rattle.out_lines.proofs.lines.put_line.Goals as goal

pub returns : goal.returns
returns c =
    on_ok_weaker c.put_byte.result (λ put t are.
    put ∙ ap (λ (items : List ℕ). items ++ 10 ∷ []) c.in_ok-put_columns.ensures
    ∙ append_assoc c.args.line.now _ (10 ∷ [])
    ∙ ap (λ (line : List ℕ). c.args.line.now ++ line) (line_written c.args.style.now t c.args.fields.now _ c.args.places.now c.args.columns.now c.requires are)) c.put_byte.ensures
