use Rattle.message_links.proofs.NoteLemmas.{part_fits}
use Rattle.message_links.proofs.segment_notes.message_note.Goals as goal

pub part-requires : goal.part-requires
part-requires c =
    part_fits c.args.payload.now c.args.message.now c.in-Segment.place c.end.result c.in-Segment.is c.requires.whole c.end.ensures
