use Rattle.std.proofs.Common.{◌≡◌, ◌==◌, true, sym, ◌∙◌, subst, arith}
use Rattle.pk_source.specs.Outlines.{IsReadWhole, sizes_of}
use Rattle.pk_source.specs.Picks.{IsPickedIn}
use Rattle.pk_source.proofs.FoundLemmas.{slots_known}
use Rattle.pk_source.proofs.SingleLemmas.{first_is, passed_header}
use Rattle.pk_source.proofs.found.first_row.Goals as goal

pub row_in-requires-clause-known : goal.row_in-requires-clause-known
row_in-requires-clause-known c =
    let h = c.header-item.result in
    let whole : IsReadWhole c.requires.whole.0 h = subst (IsReadWhole c.requires.whole.0) (sym c.header-item.is) (c.requires.whole.1 c.loop-header.header-index h c.loop-header-test.true) in
    slots_known h.span.len whole.holds (sizes_of h) h.slots.now whole.whole

pub returns-then-eq : goal.returns-then-eq
returns-then-eq c =
    let h = c.header-item.result in
    let asked = c.args.asked.now in
    let mine : (h.proto == asked.home) ≡ true = sym c.eq.ensures ∙ c.if-eq.true in
    let picked : IsPickedIn asked h = subst (IsPickedIn asked) (sym c.header-item.is) (c.requires.picked c.loop-header.header-index h c.loop-header-test.true) in
    first_is asked.field asked.home c.in-Once.number asked.picks c.args.layers.now c.args.headers.now c.loop-header.header-index h c.row_in.result c.requires.home c.in-Once.is
    (picked (grind (arith, mine))) mine c.loop-header-test.true c.header-item.is c.loop-header.invariant c.row_in.ensures

pub loop-header-preserved : goal.loop-header-preserved
loop-header-preserved c =
    passed_header c.args.asked.now.field c.args.asked.now.home c.args.headers.now c.loop-header.header-index c.header-item.result c.requires.home (sym c.eq.ensures ∙ c.if-eq.false)
    c.loop-header-test.true c.header-item.is c.loop-header.invariant
