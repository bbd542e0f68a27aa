use Rattle.flt_parse.proofs.Faults.{never_both}
use Rattle.flt_parse.proofs.laws.filters_have_no_fault.Goals as goal

pub returns : goal.returns
returns c = never_both
