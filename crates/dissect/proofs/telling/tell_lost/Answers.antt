use Rattle.std.proofs.Common.{ap, ◌∙◌}
use Rattle.dissect.specs.Carried.{lost_notes}
use Rattle.dissect.proofs.PlainNotes.{none_lost, none_told, nothing_lost}
use Rattle.dissect.proofs.telling.tell_lost.Goals as goal

pub returns-in_default-clause-notes : goal.returns-in_default-clause-notes
returns-in_default-clause-notes c =
    none_told c.args.wanted.now c.args.notes.now.items (lost_notes c.args.place.now) (ap lost_notes c.in-Some.is ∙ nothing_lost c.in-Some.place c.if-place-ne0.false)

pub returns-in_default-2-clause-notes : goal.returns-in_default-2-clause-notes
returns-in_default-2-clause-notes c =
    none_told c.args.wanted.now c.args.notes.now.items (lost_notes c.args.place.now) (ap lost_notes c.in_default.is ∙ none_lost)
