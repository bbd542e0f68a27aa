use Rattle.std.proofs.Common.{Option, [], ◌∷◌, ◌++◌, ap, subst, sym, ◌∙◌}
use Rattle.std.specs.List.{AllByRecursion as Each}
use Rattle.std.proofs.lemmas.Result.{on_ok_weaker}
use Rattle.pk_fields.specs.Fields.{row_of}
use Rattle.pk_fields.specs.Ids.{TCP_SEQ, TCP_STREAM}
use Rattle.pk_fields.specs.Table.{rows}
use Rattle.pk_source.specs.Outlines.{NoteFits, wanted_notes}
use Rattle.dissect.specs.Carried.{ack_notes, number_note, place_notes}
use Rattle.dissect.specs.declared.carried.Place.{Place}
use Rattle.dissect.proofs.PlainNotes.{none_placed, none_told, three_told}
use Rattle.dissect.proofs.telling.tell_place.Goals as goal

pub returns-in_default-clause-notes : goal.returns-in_default-clause-notes
returns-in_default-clause-notes c =
    none_told c.args.wanted.now c.args.notes.now.items (place_notes c.args.place.now) (ap place_notes c.in_default.is ∙ none_placed)

pub returns-clause-notes : goal.returns-clause-notes
unfolding place_notes
returns-clause-notes c =
    let wanted = c.args.wanted.now in
    let old = c.args.notes.now.items in
    let place = c.in-Some.place in
    on_ok_weaker c.tell_ack.result
    (λ last. three_told wanted old c.tell_number.new.notes.items c.tell_number-2.new.notes.items c.tell_ack.new.notes.items
    (number_note TCP_STREAM place.stream ∷ []) (number_note TCP_SEQ place.seq ∷ []) (ack_notes place.ack) c.in_ok-tell_number.ensures.notes c.in_ok-tell_number-2.ensures.notes last
    ∙ ap (λ (place : Option Place). old ++ wanted_notes wanted (place_notes place)) (sym c.in-Some.is))
    c.tell_ack.ensures.notes

pub returns-clause-fits : goal.returns-clause-fits
unfolding place_notes row_of rows
returns-clause-fits c =
    on_ok_weaker c.tell_ack.result
    (λ last buffers. subst (λ (place : Option Place). Each (NoteFits buffers) (place_notes place)) (sym c.in-Some.is) (c.tell_number.ensures.small, (c.tell_number-2.ensures.small, c.tell_ack.ensures.fits buffers)))
    c.tell_ack.ensures.notes
