use Rattle.flt_code.proofs.CompileLemmas.{filters_programmed, texts_programmed}
use Rattle.flt_code.proofs.laws.filters_have_programs.Goals as goal

pub returns-clause-filters : goal.returns-clause-filters
returns-clause-filters c = filters_programmed

pub returns-clause-texts : goal.returns-clause-texts
returns-clause-texts c = texts_programmed
