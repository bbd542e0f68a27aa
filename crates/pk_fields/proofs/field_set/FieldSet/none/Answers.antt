use Rattle.pk_fields.proofs.FieldSetLemmas.{least_homes}
use Rattle.pk_fields.proofs.field_set.FieldSet.none.Goals as goal

pub invariant_of-result : goal.invariant_of-result
invariant_of-result c = least_homes
