use Rattle.std.proofs.Common.{Option, ap, sym, ◌∙◌}
use Rattle.std.specs.Option.{option_map}
use Rattle.cap_stats.specs.declared.party.Packet.{Packet}
use Rattle.cap_stats.specs.Steps.{packet_note}
use Rattle.cap_stats.specs.Told.{pair_of}
use Rattle.cap_stats.proofs.FewLemmas.{pair_room, packet_short}
use Rattle.cap_stats.proofs.stats.add_pair.Goals as goal

pub add-requires-clause-room : goal.add-requires-clause-room
add-requires-clause-room c =
    pair_room c.args.pairs.now (pair_of c.in-Some.packet.source c.in-Some.packet.target) c.requires.few.0 c.requires.few.1 c.requires.few.2

pub add-requires-clause-short : goal.add-requires-clause-short
add-requires-clause-short c =
    packet_short c.args.source.now.layers (packet_note c.in-Some.packet)
    (ap (λ (o : Option Packet). option_map packet_note o) (sym c.in-Some.is) ∙ c.in_ok-packet.ensures) c.requires.short
