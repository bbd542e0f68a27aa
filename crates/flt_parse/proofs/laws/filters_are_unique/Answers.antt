use Rattle.flt_parse.proofs.Faults.{one_filter}
use Rattle.flt_parse.proofs.laws.filters_are_unique.Goals as goal

pub returns : goal.returns
returns c = one_filter
