use Rattle.std.proofs.Common.{◌==◌, [], ◌∷◌, if◌then◌else◌}
use Rattle.std.proofs.lemmas.Result.{on_ok_weaker}
use Rattle.pk_fields.specs.Ids.{TCP_LEN, TCP_PAYLOAD}
use Rattle.dissect.specs.Carried.{bytes_notes, number_note, read_note}
use Rattle.dissect.proofs.PlainNotes.{bytes_fit, two_told}
use Rattle.dissect.proofs.telling.tell_bytes.Goals as goal

pub returns-clause-notes : goal.returns-clause-notes
unfolding bytes_notes
returns-clause-notes c =
    let span = c.args.span in
    on_ok_weaker c.tell_payload.result
    (λ last. two_told c.args.wanted.now c.args.notes.now.items c.tell_number.new.notes.items c.tell_payload.new.notes.items
    (number_note TCP_LEN span.len ∷ []) (if span.len == 0 then [] else read_note TCP_PAYLOAD span ∷ []) c.in_ok-tell_number.ensures.notes last)
    c.tell_payload.ensures

pub returns-clause-fits : goal.returns-clause-fits
returns-clause-fits c =
    on_ok_weaker c.tell_payload.result (λ last buffers inside. bytes_fit buffers c.args.span c.tell_number.ensures.small inside) c.tell_payload.ensures
