use Rattle.std.proofs.Common.{◌++◌, List, ap, ◌∙◌}
use Rattle.std.proofs.lemmas.Result.{on_ok_weaker}
use Rattle.pk_source.specs.Outlines.{NoteFits, wanted_notes}
use Rattle.pk_source.specs.declared.header.Note.{Note}
use Rattle.dissect.specs.Carried.{carrier_notes, data_notes, frame_notes, notes_of}
use Rattle.dissect.proofs.PlainNotes.{each-append, three_told}
use Rattle.dissect.proofs.telling.push_notes.Goals as goal

pub returns-clause-notes : goal.returns-clause-notes
unfolding notes_of
returns-clause-notes c =
    let carried = c.args.carried.now in
    let payload = carried.payload in
    on_ok_weaker c.tell_data.result
    (λ last. three_told c.args.wanted.now c.args.notes.now.items c.tell_frame.new.notes.items c.tell_carrier.new.notes.items c.tell_data.new.notes.items
    (frame_notes c.args.before.now c.args.frame.now) (carrier_notes carried.carrier payload) (data_notes carried.free payload)
    c.in_ok-tell_frame.ensures.notes c.in_ok-tell_carrier.ensures.notes last
    ∙ ap (λ (old : List Note). old ++ wanted_notes c.args.wanted.now (frame_notes c.args.before.now c.args.frame.now ++ (carrier_notes carried.carrier payload ++ data_notes carried.free payload))) c.requires.none)
    c.tell_data.ensures.notes

pub returns-clause-fits : goal.returns-clause-fits
unfolding notes_of
returns-clause-fits c =
    let carried = c.args.carried.now in
    let payload = carried.payload in
    on_ok_weaker c.tell_data.result
    (λ last buffers inside. each-append (NoteFits buffers) (frame_notes c.args.before.now c.args.frame.now) (carrier_notes carried.carrier payload ++ data_notes carried.free payload) (c.in_ok-tell_frame.ensures.fits buffers)
    (each-append (NoteFits buffers) (carrier_notes carried.carrier payload) (data_notes carried.free payload) (c.in_ok-tell_carrier.ensures.fits buffers inside) (last buffers)))
    c.tell_data.ensures.fits
