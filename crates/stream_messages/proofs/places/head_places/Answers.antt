use Rattle.std.proofs.Common.{length}
use Rattle.stream_messages.proofs.HeadLawProofs.{missed_in_room}
use Rattle.stream_messages.proofs.places.head_places.Goals as goal

pub returns-clause-none : goal.returns-clause-none
returns-clause-none c =
    missed_in_room c.args.bytes.now (length c.args.headers.now) c.head_places_within.result c.requires.room c.head_places_within.ensures.none
