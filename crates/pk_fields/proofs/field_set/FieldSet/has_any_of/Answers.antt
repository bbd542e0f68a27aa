use Rattle.std.proofs.Common.{sym, ◌∙◌}
use Rattle.pk_fields.proofs.FieldSetLemmas.{none_of}
use Rattle.pk_fields.proofs.field_set.FieldSet.has_any_of.Goals as goal

pub returns : goal.returns
returns c none f of =
    rw (← c.self.view_is) (none_of c.self.inside.words c.args.protocol f c.self.invariant (sym c.has_bit.ensures ∙ none) of)
