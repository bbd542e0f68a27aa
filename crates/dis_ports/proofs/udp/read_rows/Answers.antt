use Rattle.dis_ports.specs.Udp.{udp_layout}
use Rattle.dis_ports.proofs.UdpLemmas.{layout_fits}
use Rattle.dis_ports.proofs.udp.read_rows.Goals as goal

pub returns-then-not-asks-clause-layer : goal.returns-then-not-asks-clause-layer
returns-then-not-asks-clause-layer c bytes is =
    c.in_ok-pass_layer.ensures.layer (udp_layout bytes) (layout_fits bytes) (c.rows_reach-reach.ensures.reach bytes is)
