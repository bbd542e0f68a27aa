use Rattle.std.proofs.Common.{◌≡◌, ◌==◌, drop}
use Rattle.std.specs.List.{find}
use Rattle.pk_source.specs.declared.picks.Table.{Table}
use Rattle.pk_source.proofs.picks.picks_in.Given as goal

abbrev pub invariant-loop-table : goal.invariant-loop-table
invariant-loop-table l = find (λ (t : Table). t.proto == l.home) (drop l.table-index l.tables) ≡ find (λ (t : Table). t.proto == l.home) l.tables
