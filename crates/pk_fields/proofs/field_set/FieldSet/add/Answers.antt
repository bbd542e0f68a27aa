use Rattle.std.proofs.Common.{◌==◌, ◌||◌, ◌∙◌, ap}
use Rattle.pk_fields.proofs.FieldSetLemmas.{added_homes}
use Rattle.pk_fields.proofs.field_set.FieldSet.add.Goals as goal

pub invariant_of-self : goal.invariant_of-self
invariant_of-self c =
    added_homes c.self.inside.words c.set_bit-2.new.words c.args.field c.self.invariant (λ f. c.set_bit-2.ensures f ∙ ap (λ rest. f == c.args.field || rest) (rw (← c.proto-home.ensures.row) (c.set_bit.ensures f)))
