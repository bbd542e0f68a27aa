use Rattle.std.proofs.Common.{◌≡◌, ◌==◌, append-nil, false, refl, sym, ◌∙◌, ap}
use Rattle.pk_fields.specs.Fields.{row_of}
use Rattle.pk_tree.specs.FieldValues.{layer_values}
use Rattle.pk_tree.specs.Values.{is_proto}
use Rattle.pk_tree.proofs.FieldLemmas.{no_items}
use Rattle.pk_tree.proofs.tree.push_values.Goals as goal

pub returns : goal.returns
unfolding layer_values
returns c =
    let layer = c.args.layer.now in
    let other : ((row_of c.args.field).proto == layer.proto) ≡ false =
    ap (λ p. p == layer.proto) (sym c.proto.ensures.row) ∙ sym c.eq.ensures ∙ c.if-eq.false in
    let field : is_proto (row_of c.args.field).kind ≡ false = sym c.is_protocol.ensures ∙ c.if-is_protocol.false in
    rw (field, no_items c.args.buffers.now layer.proto c.args.field layer.items c.requires.1.items other, append-nil c.args.values.now.items) refl
