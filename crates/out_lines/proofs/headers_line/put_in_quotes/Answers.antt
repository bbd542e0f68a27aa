use Rattle.std.proofs.Common.{◌++◌, List, ℕ, ap, sym, ◌∙◌}
use Rattle.std.proofs.lemmas.Result.{on_ok_weaker}
use Rattle.out_lines.specs.Joined.{all_values, joined}
use Rattle.out_lines.specs.Lines.{chosen, column_text, in_quotes}
use Rattle.out_lines.proofs.JoinedLemmas.{full_column}
use Rattle.out_lines.proofs.headers_line.put_in_quotes.Goals as goal

pub returns : goal.returns
unfolding column_text
returns c =
    let style = c.args.style.now in
    let all = all_values c.args.outline.now c.args.field in
    let text = joined style.aggregator c.args.field (chosen style.occurrence all) in
    on_ok_weaker c.put_quoted.result (λ put.
    put
    ∙ ap (λ (inside : List ℕ). c.args.line.now ++ in_quotes style.quote inside) (c.text.ensures ∙ c.in_ok-put_chosen.ensures ∙ ap (λ (front : List ℕ). front ++ text) c.clear.ensures)
    ∙ ap (λ (column : List ℕ). c.args.line.now ++ column) (sym (full_column style c.args.field all (sym c.if-not-has.false ∙ c.has.ensures)))) c.put_quoted.ensures
