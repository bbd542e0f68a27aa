use Rattle.std.proofs.Common.{◌++◌, List, ℕ, ap, sym, ◌∙◌, append_assoc}
use Rattle.std.proofs.lemmas.Result.{on_ok_weaker}
use Rattle.out_lines.specs.Joined.{all_values, further, shown_at}
use Rattle.out_lines.proofs.JoinedLemmas.{all_joined, first_shown, one_joined}
use Rattle.out_lines.proofs.headers_line.put_all.Goals as goal

pub returns-then-found : goal.returns-then-found
returns-then-found c =
    let all = all_values c.args.outline.now c.args.field in
    let agg = c.args.aggregator in
    let field = c.args.field in
    on_ok_weaker c.put_more.result (λ put.
    put
    ∙ ap (λ (line : List ℕ). line ++ further agg field all 1) (c.in_ok-put_first.ensures ∙ ap (λ (text : List ℕ). c.args.line.now ++ text) (first_shown field c.first_and_more-found.result.first all c.first_and_more-found.ensures.first))
    ∙ append_assoc c.args.line.now (shown_at field all 0) (further agg field all 1)
    ∙ ap (λ (text : List ℕ). c.args.line.now ++ text) (all_joined agg field all)) c.put_more.ensures

pub returns-else-found : goal.returns-else-found
returns-else-found c =
    let all = all_values c.args.outline.now c.args.field in
    let agg = c.args.aggregator in
    let field = c.args.field in
    c.in_ok-put_first.ensures
    ∙ ap (λ (text : List ℕ). c.args.line.now ++ text)
    (first_shown field c.first_and_more-found.result.first all c.first_and_more-found.ensures.first ∙ one_joined agg field all (sym c.if-found.false ∙ c.first_and_more-found.ensures.more))
