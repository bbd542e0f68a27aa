use Rattle.pk_fields.proofs.FieldSetLemmas.{every_homes}
use Rattle.pk_fields.proofs.field_set.FieldSet.all.Goals as goal

pub invariant_of-result : goal.invariant_of-result
invariant_of-result c = every_homes
