use Rattle.dis_icmp.specs.Neigh.{neigh_layout}
use Rattle.dis_icmp.proofs.NeighLemmas.{layout_fits}
use Rattle.dis_icmp.proofs.neigh.neigh_steps.Goals as goal

pub returns-clause-fits : goal.returns-clause-fits
unfolding neigh_layout
returns-clause-fits c =
    rw (c.in_ok-push_options.ensures, c.in_ok-reserve.ensures.items, c.in_ok-steps.ensures, c.options_start.ensures.start)
    (layout_fits c.args.kind c.args.bytes.now)
