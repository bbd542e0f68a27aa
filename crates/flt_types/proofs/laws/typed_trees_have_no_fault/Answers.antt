use Rattle.flt_types.proofs.Clear.{type_clear}
use Rattle.flt_types.proofs.laws.typed_trees_have_no_fault.Goals as goal

pub returns : goal.returns
returns c = type_clear
