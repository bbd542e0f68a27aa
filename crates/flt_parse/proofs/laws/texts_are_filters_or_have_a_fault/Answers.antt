use Rattle.flt_parse.proofs.Every.{filter_or_fault}
use Rattle.flt_parse.proofs.laws.texts_are_filters_or_have_a_fault.Goals as goal

pub returns : goal.returns
returns c = filter_or_fault
