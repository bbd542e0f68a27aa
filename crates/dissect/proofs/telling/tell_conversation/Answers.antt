use Rattle.std.proofs.Common.{◌==◌, [], ◌∷◌, if◌then◌else◌}
use Rattle.std.proofs.lemmas.Result.{on_ok_weaker}
use Rattle.pk_fields.specs.Ids.{UDP_PAYLOAD, UDP_STREAM}
use Rattle.dissect.specs.Carried.{conversation_notes, number_note, read_note}
use Rattle.dissect.proofs.PlainNotes.{conversation_fits, two_told}
use Rattle.dissect.proofs.telling.tell_conversation.Goals as goal

pub returns-clause-notes : goal.returns-clause-notes
unfolding conversation_notes
returns-clause-notes c =
    let span = c.args.span in
    on_ok_weaker c.tell_payload.result
    (λ last. two_told c.args.wanted.now c.args.notes.now.items c.tell_number.new.notes.items c.tell_payload.new.notes.items
    (number_note UDP_STREAM c.args.stream ∷ []) (if span.len == 0 then [] else read_note UDP_PAYLOAD span ∷ []) c.in_ok-tell_number.ensures.notes last)
    c.tell_payload.ensures

pub returns-clause-fits : goal.returns-clause-fits
returns-clause-fits c =
    on_ok_weaker c.tell_payload.result (λ last buffers inside. conversation_fits buffers c.args.stream c.args.span c.tell_number.ensures.small inside) c.tell_payload.ensures
