use Rattle.std.proofs.Common.{◌≡◌, true, false, ap, sym, ◌∙◌}
use Rattle.pk_fields.specs.FieldSets.{is_in}
use Rattle.pk_fields.specs.Fields.{row_of}
use Rattle.pk_source.specs.Found.{all_told, fields_told, layers_told, there}
use Rattle.pk_source.proofs.FoundLemmas.{there-kth}
use Rattle.pk_source.proofs.found.find.Goals as goal
use Rattle.pk_tree.specs.Values.{is_proto}

pub returns-then-is_protocol : goal.returns-then-is_protocol
unfolding all_told
returns-then-is_protocol c =
    let is : is_proto (row_of c.args.asked.now.field).kind ≡ true = sym c.is_protocol.ensures ∙ c.if-is_protocol.true in
    rw is (c.there.ensures ∙ ap there c.kth_layer.ensures ∙ there-kth (layers_told c.args.asked.now.field c.args.layers.now c.args.headers.now) c.args.k)

pub returns : goal.returns
unfolding all_told
returns c =
    let none : is_proto (row_of c.args.asked.now.field).kind ≡ false = sym c.is_protocol.ensures ∙ c.if-is_protocol.false in
    let is : is_in c.args.wanted.now c.args.asked.now.field ≡ true = sym c.contains.ensures ∙ c.if-not-contains.false in
    rw (none, is) (c.there-2.ensures ∙ ap there c.kth_told.ensures ∙ there-kth (fields_told c.args.asked.now.field c.args.layers.now c.args.notes.now c.args.headers.now) c.args.k)
