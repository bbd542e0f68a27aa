use Rattle.std.proofs.Common.{◌≡◌, false, get_or, sym, ◌∙◌, ap}
use Rattle.std.proofs.lemmas.List.{get_or_default}
use Rattle.pk_source.specs.Picks.{is_of, picked_told, slot_at}
use Rattle.pk_source.proofs.PickLemmas.{other_slot}
use Rattle.pk_source.proofs.picks.with_slot.Goals as goal
use Rattle.pk_tree.specs.declared.table.Slot.TheVariants.{Check, Row}

pub returns-else-is_of : goal.returns-else-is_of
returns-else-is_of c = λ span sizes.
    let table = c.args.slots.now in
    let same : get_or table c.args.at (Row 0 0) ≡ slot_at table c.args.at = get_or_default table c.args.at (Row 0 0) (Check 0) c.requires in
    let other : is_of c.args.field (slot_at table c.args.at) ≡ false = ap (is_of c.args.field) (sym same) ∙ sym c.is_of.ensures ∙ c.if-is_of.false in
    other_slot span sizes c.args.field (slot_at table c.args.at) (picked_told span sizes c.args.field table c.args.picks) other
