use Rattle.std.proofs.Common.{◌+◌, ◌++◌, ℕ, List, [], slice_get, ap, sym, ◌∙◌, append_assoc}
use Rattle.std.specs.Option.{option_map, unwrap_or}
use Rattle.out_lines.specs.Joined.{all_values, behind, further}
use Rattle.out_lines.proofs.JoinedLemmas.{none_put, one_put}
use Rattle.out_lines.proofs.headers_line.put_more.Goals as goal

pub values-preserved : goal.values-preserved
values-preserved c =
    let all = all_values c.args.outline.now c.args.field in
    let put = c.in_ok-put_behind.ensures in
    let text = unwrap_or (option_map (behind c.args.aggregator c.args.field) (slice_get all c.values.k)) [] in
    ap (λ (k : ℕ). c.put_behind.new.line ++ further c.args.aggregator c.args.field all k) c.in_ok-k.ensures
    ∙ ap (λ (line : List ℕ). line ++ further c.args.aggregator c.args.field all (c.values.k + 1)) put.line
    ∙ append_assoc c.values.line text (further c.args.aggregator c.args.field all (c.values.k + 1))
    ∙ ap (λ (more : List ℕ). c.values.line ++ more) (sym (one_put c.args.aggregator c.args.field all c.values.k (sym c.if-branch.true ∙ put.told)))
    ∙ c.values.invariant

pub returns : goal.returns
returns c =
    let all = all_values c.args.outline.now c.args.field in
    let put = c.in_ok-put_behind.ensures in
    put.line
    ∙ ap (λ (more : List ℕ). c.values.line ++ more) (none_put c.args.aggregator c.args.field all c.values.k (sym c.if-branch.false ∙ put.told))
    ∙ c.values.invariant
