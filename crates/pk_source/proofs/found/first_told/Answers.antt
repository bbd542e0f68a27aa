use Rattle.std.proofs.Common.{◌≡◌, true, ap, sym, ◌∙◌}
use Rattle.pk_base.specs.declared.chosen.Layers.TheVariants.{All as AllLayers}
use Rattle.pk_fields.specs.FieldSets.{is_in}
use Rattle.pk_source.specs.Found.{asked_told, there, told_in}
use Rattle.pk_source.proofs.FoundLemmas.{there-kth}
use Rattle.pk_source.proofs.found.first_told.Goals as goal

pub returns : goal.returns
unfolding told_in
returns c =
    let is : is_in c.args.wanted.now c.args.asked.now.field ≡ true = sym c.contains.ensures ∙ c.if-not-contains.false in
    rw is (c.there.ensures ∙ ap there c.asked_kth.ensures ∙ there-kth (asked_told c.args.asked.now.field AllLayers c.args.notes.now c.args.header.now) 0)
