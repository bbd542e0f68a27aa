use Rattle.std.proofs.Common.{◌≡◌, ◌==◌, ℕ, Some, length}
use Rattle.std.specs.List.{find}
use Rattle.pk_fields.specs.Fields.{row_of}
use Rattle.pk_source.specs.Picks.{IsPicked, pick_at}
use Rattle.pk_source.specs.declared.picks.Table.{Table}
use Rattle.pk_source.proofs.picks.push_all.Given as goal

abbrev pub invariant-loop-number : goal.invariant-loop-number
invariant-loop-number l = record {
  count : length l.all.items ≡ l.number;
  picked : (field : ℕ) (table : Table) → find (λ (t : Table). t.proto == (row_of field).proto) l.tables ≡ Some table → IsPicked field table.slots.now (pick_at l.all.items field);
}
