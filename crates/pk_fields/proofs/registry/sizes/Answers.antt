use Rattle.std.proofs.Common.{refl}
use Rattle.pk_fields.specs.Table.{rows}
use Rattle.pk_fields.proofs.registry.sizes.Goals as goal

pub returns-clause-sizes : goal.returns-clause-sizes
unfolding rows
returns-clause-sizes c = refl
