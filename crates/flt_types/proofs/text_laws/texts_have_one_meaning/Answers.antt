use Rattle.flt_types.proofs.OneMeaning.{one_meaning}
use Rattle.flt_types.proofs.text_laws.texts_have_one_meaning.Goals as goal

pub returns : goal.returns
returns c = one_meaning
