use Rattle.std.proofs.Common.{◌<◌, length, ap, sym, ◌∙◌, ◌++◌, rules}
use Rattle.pk_source.specs.Found.{slot_told}
use Rattle.pk_source.specs.Picks.{slot_at}
use Rattle.pk_source.proofs.PickLemmas.{rows_more, rows_none}
use Rattle.pk_source.proofs.picks.picks_of.Goals as goal

pub loop-at-init : goal.loop-at-init
loop-at-init c = λ span sizes. sym (rows_none span sizes c.args.field)

pub loop-at-preserved : goal.loop-at-preserved
loop-at-preserved c = λ span sizes.
    let table = c.args.slots.now in
    let inside : c.loop-at.at < length table = search rules in
    c.in-Some.ensures span sizes
    ∙ ap (λ front. front ++ slot_told span sizes c.args.field (slot_at table c.loop-at.at)) (c.loop-at.invariant span sizes)
    ∙ sym (rows_more span sizes c.args.field table c.loop-at.at inside)
