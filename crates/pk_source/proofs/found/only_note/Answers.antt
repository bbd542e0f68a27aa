use Rattle.std.proofs.Common.{◌≡◌, true, false, sym, ◌∙◌}
use Rattle.pk_fields.specs.FieldSets.{is_in}
use Rattle.pk_fields.specs.Fields.{row_of}
use Rattle.pk_source.proofs.OnlyLemmas.{only_note_told}
use Rattle.pk_source.proofs.found.only_note.Goals as goal
use Rattle.pk_tree.specs.Values.{is_proto}

pub returns-in-Some : goal.returns-in-Some
returns-in-Some c =
    let asked = c.args.asked.now in
    let kind : is_proto (row_of asked.field).kind ≡ false = sym c.is_protocol.ensures ∙ c.if-is_protocol.false in
    let wants : is_in c.args.wanted.now asked.field ≡ true = sym c.contains.ensures ∙ c.if-not-contains.false in
    only_note_told c.args.wanted.now c.args.headers.now c.args.notes.now asked c.in-Some.field-0.now c.only_told.result c.requires.home c.in-Never.is
    kind wants c.requires.picked c.in-Some.ensures c.only_told.ensures
