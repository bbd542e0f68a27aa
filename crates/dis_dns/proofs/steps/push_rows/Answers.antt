use Rattle.std.proofs.Common.{ℕ, ◌+◌, [], ◌∷◌, map, drop}
use Rattle.std.proofs.lemmas.List.{drop_all}
use Rattle.pk_tree.specs.declared.layout.Step.TheVariants.{Row}
use Rattle.dis_dns.proofs.CollectedLemmas.{rows_cut, rows_done, rows_left}
use Rattle.dis_dns.proofs.steps.push_rows.Goals as goal

pub loop-row-preserved : goal.loop-row-preserved
loop-row-preserved c =
    rows_left c.loop-row.steps c.push.new.self _ (Row c.row-item.result.0 (c.args.place + c.row-item.result.1) ∷ [])
    (map (λ (row : ℕ × ℕ). Row row.0 (c.args.place + row.1)) (drop (c.loop-row.row-index + 1) c.args.rows.now))
    (rw c.from.ensures at c.push.ensures)
    (rw (rows_cut c.args.rows.now c.loop-row.row-index c.row-item.result c.loop-row-test.true c.row-item.is) at c.loop-row.invariant)

pub returns : goal.returns
returns c = rows_done _ _ _ (rw (drop_all c.loop-row.row-index c.args.rows.now c.loop-row-test.false) at c.loop-row.invariant)
