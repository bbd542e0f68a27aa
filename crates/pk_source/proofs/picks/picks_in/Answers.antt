use Rattle.std.proofs.Common.{◌≡◌, ◌==◌, Some, sym, ◌∙◌, subst}
use Rattle.std.specs.List.{find}
use Rattle.std.proofs.lemmas.Option.{same_Some}
use Rattle.pk_source.specs.Picks.{IsPicked}
use Rattle.pk_source.specs.declared.picks.Table.{Table}
use Rattle.pk_source.proofs.PickLemmas.{find_here}
use Rattle.pk_source.proofs.picks.picks_in.Goals as goal

pub returns-then-eq : goal.returns-then-eq
returns-then-eq c = λ table is.
    let home = c.proto-home.result in
    let found : find (λ (t : Table). t.proto == home) c.args.tables.now ≡ Some table = rw c.proto-home.ensures.row is in
    let here = find_here (λ (t : Table). t.proto == home) c.args.tables.now c.loop-table.table-index c.table-item.result _ c.loop-table-test.true c.table-item.is (sym c.eq.ensures ∙ c.if-eq.true) c.loop-table.invariant in
    subst (λ (t : Table). IsPicked c.args.field t.slots.now c.picks_of.result) (same_Some c.table-item.result table (here ∙ found)) c.picks_of.ensures
