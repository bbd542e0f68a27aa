use Rattle.std.proofs.Common.{◌≡◌, ◌==◌, true, sym, ◌∙◌, arith}
use Rattle.pk_base.specs.declared.chosen.Layers.TheVariants.{All as AllLayers}
use Rattle.pk_source.specs.Outlines.{sizes_of}
use Rattle.pk_source.proofs.FoundLemmas.{slots_known}
use Rattle.pk_source.proofs.SingleLemmas.{own_is}
use Rattle.pk_source.proofs.found.own_row.Goals as goal

pub row_in-requires-clause-known : goal.row_in-requires-clause-known
row_in-requires-clause-known c =
    let h = c.args.header.now in
    slots_known h.span.len c.requires.whole.1.holds (sizes_of h) h.slots.now c.requires.whole.1.whole

pub returns-then-eq : goal.returns-then-eq
returns-then-eq c =
    let h = c.args.header.now in
    let asked = c.args.asked.now in
    let mine : (h.proto == asked.home) ≡ true = sym c.eq.ensures ∙ c.if-eq.true in
    own_is asked.field asked.home c.in-Once.number asked.picks AllLayers h c.row_in.result c.requires.home c.in-Once.is (c.requires.picked (grind (arith, mine))) mine c.row_in.ensures
