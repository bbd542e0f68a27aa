use Rattle.flt_types.proofs.Sure.{typed_or_refused}
use Rattle.flt_types.proofs.text_laws.texts_are_filters_or_refused.Goals as goal

pub returns : goal.returns
returns c = typed_or_refused
