use Rattle.dis_http.proofs.RowLemmas.{head_rows_are, on_ok}
use Rattle.dis_http.proofs.heads.push_places.Goals as goal

pub returns : goal.returns
returns c =
    let is = c.requires.is in
    on_ok c.push_fields.result (head_rows_are c.args.head.now c.args.headers.now is.0 c.args.places _ _ _ is.1 is.2 c.in_ok-push_line.ensures) c.push_fields.ensures
