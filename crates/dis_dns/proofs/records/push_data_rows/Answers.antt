use Rattle.std.proofs.Common.{ℕ, ◌+◌, drop}
use Rattle.std.specs.List.{flat_map}
use Rattle.std.proofs.lemmas.List.{drop_all}
use Rattle.dis_dns.specs.Records.{data_row}
use Rattle.dis_dns.proofs.CollectedLemmas.{rows_cut, rows_done, rows_left}
use Rattle.dis_dns.proofs.records.push_data_rows.Goals as goal

pub loop-row-preserved : goal.loop-row-preserved
loop-row-preserved c =
    rows_left c.loop-row.steps c.push_row.new.steps _ (data_row c.args.message.now.base c.args.end c.row-item.result.0 (c.args.at + c.row-item.result.1) c.args.len)
    (flat_map (λ (row : ℕ × ℕ). data_row c.args.message.now.base c.args.end row.0 (c.args.at + row.1) c.args.len) (drop (c.loop-row.row-index + 1) c.args.rows.now))
    (rw c.from.ensures at c.push_row.ensures)
    (rw (rows_cut c.args.rows.now c.loop-row.row-index c.row-item.result c.loop-row-test.true c.row-item.is) at c.loop-row.invariant)

pub returns : goal.returns
returns c = rows_done _ _ _ (rw (drop_all c.loop-row.row-index c.args.rows.now c.loop-row-test.false) at c.loop-row.invariant)
