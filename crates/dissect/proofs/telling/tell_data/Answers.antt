use Rattle.std.proofs.Common.{Bool, [], ◌∷◌, if◌then◌else◌, ap, sym, ◌∙◌}
use Rattle.pk_fields.specs.Ids.{DATA_LEN}
use Rattle.dissect.specs.Carried.{data_notes, number_note}
use Rattle.dissect.proofs.PlainNotes.{none_told}
use Rattle.dissect.proofs.telling.tell_data.Goals as goal

pub returns-else-has_data-clause-notes : goal.returns-else-has_data-clause-notes
unfolding data_notes
returns-else-has_data-clause-notes c =
    none_told c.args.wanted.now c.args.notes.now.items (data_notes c.args.free c.args.span)
    (ap (λ (has : Bool). if has then number_note DATA_LEN c.args.span.len ∷ [] else []) (sym c.has_data.ensures ∙ c.if-has_data.false))
