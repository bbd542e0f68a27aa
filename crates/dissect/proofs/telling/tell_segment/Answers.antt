use Rattle.std.proofs.Common.{◌++◌}
use Rattle.std.proofs.lemmas.Result.{on_ok_weaker}
use Rattle.pk_source.specs.Outlines.{NoteFits}
use Rattle.dissect.specs.Carried.{bytes_notes, lost_notes, place_notes}
use Rattle.dissect.proofs.PlainNotes.{each-append, three_told}
use Rattle.dissect.proofs.telling.tell_segment.Goals as goal

pub returns-clause-notes : goal.returns-clause-notes
returns-clause-notes c =
    let place = c.args.place.now in
    on_ok_weaker c.tell_lost.result
    (λ last. three_told c.args.wanted.now c.args.notes.now.items c.tell_place.new.notes.items c.tell_bytes.new.notes.items c.tell_lost.new.notes.items (place_notes place) (bytes_notes c.args.span) (lost_notes place)
    c.in_ok-tell_place.ensures.notes c.in_ok-tell_bytes.ensures.notes last)
    c.tell_lost.ensures.notes

pub returns-clause-fits : goal.returns-clause-fits
returns-clause-fits c =
    let place = c.args.place.now in
    on_ok_weaker c.tell_lost.result
    (λ last buffers inside. each-append (NoteFits buffers) (place_notes place) (bytes_notes c.args.span ++ lost_notes place) (c.in_ok-tell_place.ensures.fits buffers)
    (each-append (NoteFits buffers) (bytes_notes c.args.span) (lost_notes place) (c.in_ok-tell_bytes.ensures.fits buffers inside) (last buffers)))
    c.tell_lost.ensures.fits
