use Rattle.flt_types.proofs.Unique.{one_fault_but_size}
use Rattle.flt_types.proofs.text_laws.faults_are_unique.Goals as goal

pub returns : goal.returns
returns c = one_fault_but_size
