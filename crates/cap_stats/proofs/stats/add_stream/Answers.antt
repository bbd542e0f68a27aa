use Rattle.std.proofs.Common.{sym, ◌∙◌}
use Rattle.cap_stats.proofs.FewLemmas.{stream_room, stream_short}
use Rattle.cap_stats.proofs.stats.add_stream.Goals as goal

pub add-requires-clause-room : goal.add-requires-clause-room
add-requires-clause-room c = stream_room c.args.streams.now c.in-Some.number c.requires.few.0 c.requires.few.1 c.requires.few.2

pub add-requires-clause-short : goal.add-requires-clause-short
add-requires-clause-short c = stream_short c.args.source.now.layers (c.in-Some.number, c.in-Some.flight) (sym c.in-Some.is ∙ c.in_ok-number.ensures) c.requires.short
