use Rattle.std.proofs.Common.{◌≡◌, true, false, sym, subst, ◌∙◌}
use Rattle.pk_fields.specs.FieldSets.{is_in}
use Rattle.pk_fields.specs.Fields.{row_of}
use Rattle.pk_source.specs.Outlines.{IsReadWhole, sizes_of}
use Rattle.pk_source.proofs.FoundLemmas.{slots_known}
use Rattle.pk_source.proofs.OnlyLemmas.{only_row_told}
use Rattle.pk_source.proofs.found.only_row.Goals as goal
use Rattle.pk_tree.specs.Values.{is_proto}

pub row_in-requires-clause-known : goal.row_in-requires-clause-known
row_in-requires-clause-known c =
    let h = c.in-Some.header.now in
    let only = c.in-Some.ensures in
    let whole : IsReadWhole c.requires.whole.0 h = subst (IsReadWhole c.requires.whole.0) (sym only.at) (c.requires.whole.1 only.place h only.inside) in
    slots_known h.span.len whole.holds (sizes_of h) h.slots.now whole.whole

pub returns-in-Some : goal.returns-in-Some
returns-in-Some c =
    let asked = c.args.asked.now in
    let kind : is_proto (row_of asked.field).kind ≡ false = sym c.is_protocol.ensures ∙ c.if-is_protocol.false in
    let wants : is_in c.args.wanted.now asked.field ≡ true = sym c.contains.ensures ∙ c.if-not-contains.false in
    only_row_told c.args.wanted.now c.args.headers.now c.args.notes.now asked c.in-Some.header.now c.in-Once.number c.row_in.result c.requires.home c.in-Once.is
    kind wants (c.is_untold.ensures c.if-not-is_untold.false) c.requires.picked c.in-Some.ensures c.row_in.ensures
