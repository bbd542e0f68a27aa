use Rattle.std.proofs.Common.{◌++◌, List, ℕ, ap, ◌∙◌}
use Rattle.std.proofs.lemmas.Result.{on_ok_weaker}
use Rattle.out_lines.proofs.HeadersLemmas.{none_named, some_named}
use Rattle.out_lines.proofs.headers_summary.put_last.Goals as goal

pub returns-in-Some : goal.returns-in-Some
returns-in-Some c =
    on_ok_weaker c.put_text.result (λ put.
    put ∙ ap (λ (text : List ℕ). c.args.line.now ++ text) (c.name.ensures.row ∙ some_named c.args.headers.now c.in-Some.header.now c.in-Some.ensures)) c.put_text.ensures

pub returns-in-None : goal.returns-in-None
returns-in-None c =
    on_ok_weaker c.put_text-in-None.result (λ put.
    put ∙ ap (λ (text : List ℕ). c.args.line.now ++ text) (none_named c.args.headers.now c.in-None.ensures)) c.put_text-in-None.ensures
