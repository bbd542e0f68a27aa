use Rattle.std.proofs.Common.{refl}
use Rattle.pk_fields.specs.Table.{rows}
use Rattle.pk_fields.proofs.registry.other_rows.Goals as goal

pub returns-clause-shown : goal.returns-clause-shown
unfolding rows
returns-clause-shown c = refl
