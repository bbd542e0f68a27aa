use Rattle.std.proofs.Common.{sym, ◌∙◌}
use Rattle.cap_stats.proofs.PlaceLemmas.{no_packet, packet_is}
use Rattle.cap_stats.proofs.headers.packet_in.Goals as goal

pub returns-in_default : goal.returns-in_default
returns-in_default c = no_packet c.args.outline.now.layers (sym c.in_default.is ∙ c.in_ok-source.ensures)

pub returns : goal.returns
returns c =
    packet_is c.args.outline.now.layers (c.in-Some.source, c.in-Some.target) c.in_ok-bytes.bytes (sym c.in-Some.is ∙ c.in_ok-source.ensures) c.in_ok-bytes.ensures
