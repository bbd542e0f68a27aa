use Rattle.dis_http.proofs.RowsLawProofs.{law_of_rows}
use Rattle.dis_http.proofs.http.rows_law.Goals as goal

pub returns : goal.returns
returns c = law_of_rows
