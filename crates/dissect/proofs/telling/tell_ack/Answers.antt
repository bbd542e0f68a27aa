use Rattle.std.proofs.Common.{ap}
use Rattle.dissect.specs.Carried.{ack_notes}
use Rattle.dissect.proofs.PlainNotes.{none_told}
use Rattle.dissect.proofs.telling.tell_ack.Goals as goal

pub returns-in-None-clause-notes : goal.returns-in-None-clause-notes
returns-in-None-clause-notes c = none_told c.args.wanted.now c.args.notes.now.items (ack_notes c.args.ack) (ap ack_notes c.in-None.is)
