use Rattle.flt_types.proofs.HaveTypes.{clear_typed}
use Rattle.flt_types.proofs.laws.clear_trees_have_a_type.Goals as goal

pub returns : goal.returns
returns c = clear_typed
