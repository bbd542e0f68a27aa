use Rattle.std.proofs.Common.{◌≡◌, false, ℕ, ◌+◌, drop}
use Rattle.std.specs.List.{flat_map}
use Rattle.dis_dns.specs.Collected.{with_steps}
use Rattle.dis_dns.specs.Records.{data_row}
use Rattle.dis_dns.proofs.records.push_data_rows.Given as goal

-- what is left of the rows leads where all of them do
abbrev pub invariant-loop-row : goal.invariant-loop-row
invariant-loop-row l =
    l.steps.spent ≡ false
    → with_steps l.steps (flat_map (λ (row : ℕ × ℕ). data_row l.message.base l.end row.0 (l.at + row.1) l.len) (drop l.row-index l.rows))
    ≡ with_steps l.initial.steps (flat_map (λ (row : ℕ × ℕ). data_row l.message.base l.end row.0 (l.at + row.1) l.len) l.rows)
