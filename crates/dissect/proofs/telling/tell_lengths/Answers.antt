use Rattle.std.proofs.Common.{[], ◌∷◌}
use Rattle.std.proofs.lemmas.Result.{on_ok_weaker}
use Rattle.pk_fields.specs.Ids.{FRAME_CAP_LEN, FRAME_LEN}
use Rattle.dissect.specs.Carried.{number_note}
use Rattle.dissect.proofs.PlainNotes.{two_told}
use Rattle.dissect.proofs.telling.tell_lengths.Goals as goal

pub returns-clause-notes : goal.returns-clause-notes
returns-clause-notes c =
    on_ok_weaker c.tell_number-2.result
    (λ last. two_told c.args.wanted.now c.args.notes.now.items c.tell_number.new.notes.items c.tell_number-2.new.notes.items
    (number_note FRAME_LEN c.args.wire ∷ []) (number_note FRAME_CAP_LEN c.args.captured ∷ []) c.in_ok-tell_number.ensures.notes last)
    c.tell_number-2.ensures.notes
