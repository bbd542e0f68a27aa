use Rattle.std.proofs.Common.{◌∷◌, [], ◌++◌, ap, ◌∙◌}
use Rattle.std.proofs.lemmas.Result.{on_ok_weaker}
use Rattle.pk_source.specs.declared.header.Header.{Header}
use Rattle.dissect.specs.Carried.{data_header}
use Rattle.dissect.proofs.OnWay.{all_tabled}
use Rattle.dissect.proofs.PlainHeads.{data_tabled}
use Rattle.dissect.proofs.heads.push_data.Goals as goal

pub returns-then-has_data-clause-tabled : goal.returns-then-has_data-clause-tabled
returns-then-has_data-clause-tabled c =
    let tables = c.args.tables.now in
    on_ok_weaker c.push_all.result
    (λ pushed. all_tabled tables c.args.headers.now.items c.push_all.new.headers.items (data_header tables c.args.carried.now.payload) c.requires.tabled (data_tabled tables c.args.carried.now.payload)
    (pushed ∙ ap (λ (h : Header). c.args.headers.now.items ++ h ∷ []) c.data_header.ensures))
    c.push_all.ensures
