use Rattle.flt_types.proofs.Unique.{typed_or_fault}
use Rattle.flt_types.proofs.text_laws.typed_texts_have_no_fault.Goals as goal

pub returns : goal.returns
returns c = typed_or_fault
