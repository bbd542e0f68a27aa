use Rattle.std.proofs.Common.{◌++◌, [], ◌∷◌, length, ap, ◌∙◌}
use Rattle.std.proofs.lemmas.Result.{on_ok_weaker}
use Rattle.pk_fields.specs.Ids.{FRAME_CAP_LEN, FRAME_LEN, FRAME_NUMBER}
use Rattle.pk_source.specs.Outlines.{wanted_notes}
use Rattle.dissect.specs.Carried.{frame_notes, number_note, time_notes}
use Rattle.dissect.proofs.PlainNotes.{frame_fits, three_told}
use Rattle.dissect.proofs.telling.tell_frame.Goals as goal

pub returns-clause-notes : goal.returns-clause-notes
unfolding frame_notes
returns-clause-notes c =
    let frame = c.args.frame.now in
    let wanted = c.args.wanted.now in
    let timed = c.tell_times.new.notes.items in
    on_ok_weaker c.tell_lengths.result
    (λ last. three_told wanted c.args.notes.now.items c.tell_number.new.notes.items timed c.tell_lengths.new.notes.items
    (number_note FRAME_NUMBER frame.number ∷ []) (time_notes c.args.before.now frame.time) (number_note FRAME_LEN frame.original ∷ number_note FRAME_CAP_LEN (length frame.bytes) ∷ [])
    c.in_ok-tell_number.ensures.notes c.in_ok-tell_times.ensures.notes
    (last ∙ ap (λ n. timed ++ wanted_notes wanted (number_note FRAME_LEN frame.original ∷ number_note FRAME_CAP_LEN n ∷ [])) c.captured.ensures))
    c.tell_lengths.ensures.notes

pub returns-clause-fits : goal.returns-clause-fits
returns-clause-fits c =
    on_ok_weaker c.tell_lengths.result
    (λ last buffers. frame_fits buffers c.args.before.now c.args.frame.now c.tell_number.ensures.small c.tell_lengths.ensures.small.0 c.requires.bytes)
    c.tell_lengths.ensures.notes
