use Rattle.std.proofs.Common.{◌≡◌, ◌+◌, ℕ, false, drop, map}
use Rattle.pk_tree.specs.declared.layout.Step.TheVariants.{Row}
use Rattle.dis_dns.specs.Collected.{with_steps}
use Rattle.dis_dns.proofs.steps.push_rows.Given as goal

-- what is left of the rows leads where all of them do
abbrev pub invariant-loop-row : goal.invariant-loop-row
invariant-loop-row l =
    l.steps.spent ≡ false
    → with_steps l.steps (map (λ (row : ℕ × ℕ). Row row.0 (l.place + row.1)) (drop l.row-index l.rows))
    ≡ with_steps l.initial.steps (map (λ (row : ℕ × ℕ). Row row.0 (l.place + row.1)) l.rows)
