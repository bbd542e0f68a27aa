use Rattle.flt_program.proofs.ToldLemmas.{listings_tell}
use Rattle.flt_program.proofs.laws.listings_tell_programs.Goals as goal

pub returns : goal.returns
returns c = listings_tell
