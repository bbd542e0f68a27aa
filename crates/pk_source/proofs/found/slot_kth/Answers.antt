use Rattle.std.proofs.Common.{◌≡◌, ◌≤◌, length, refl, arith}
use Rattle.std.proofs.lemmas.List.{get_or_past}
use Rattle.pk_source.specs.Found.{slot_told}
use Rattle.pk_source.specs.Picks.{slot_at}
use Rattle.pk_source.proofs.found.slot_kth.Goals as goal
use Rattle.pk_tree.specs.declared.table.Slot.TheVariants.{Check}

pub returns-else-place-header : goal.returns-else-place-header
unfolding slot_told
returns-else-place-header c =
    let table = c.args.header.now.slots.now in
    let past : length table ≤ c.args.number = omega (arith, c.from-place.ensures, c.if-place-header.false) in
    let none : slot_at table c.args.number ≡ Check 0 = get_or_past table c.args.number (Check 0) past in
    rw none refl
