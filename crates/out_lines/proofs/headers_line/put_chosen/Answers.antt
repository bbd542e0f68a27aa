use Rattle.std.proofs.Common.{◌++◌, List, ℕ, ap, sym, ◌∙◌}
use Rattle.std.proofs.lemmas.Result.{on_ok_weaker}
use Rattle.out_lines.specs.declared.style.Occurrence.{Occurrence}
use Rattle.out_lines.specs.Joined.{all_values, joined}
use Rattle.out_lines.specs.Lines.{chosen}
use Rattle.out_lines.proofs.JoinedLemmas.{first_joined, first_shown, last_joined}
use Rattle.out_lines.proofs.headers_line.put_chosen.Goals as goal

pub returns-in-Last : goal.returns-in-Last
returns-in-Last c =
    let all = all_values c.args.outline.now c.args.field in
    on_ok_weaker c.put_last.result (λ put.
    put
    ∙ ap (λ (text : List ℕ). c.args.line.now ++ text)
    (last_joined c.args.style.now.aggregator c.args.field all
    ∙ ap (λ (occurrence : Occurrence). joined c.args.style.now.aggregator c.args.field (chosen occurrence all)) (sym c.in-Last.is))) c.put_last.ensures

pub returns-in-First : goal.returns-in-First
returns-in-First c =
    let all = all_values c.args.outline.now c.args.field in
    on_ok_weaker c.put_first.result (λ put.
    put
    ∙ ap (λ (text : List ℕ). c.args.line.now ++ text)
    (first_shown c.args.field c.first_and_more.result.first all c.first_and_more.ensures.first
    ∙ first_joined c.args.style.now.aggregator c.args.field all
    ∙ ap (λ (occurrence : Occurrence). joined c.args.style.now.aggregator c.args.field (chosen occurrence all)) (sym c.in-First.is))) c.put_first.ensures
