use Rattle.std.proofs.Common.{refl}
use Rattle.dissect.proofs.state.State.link_all.Goals as goal

pub returns-clause-links : goal.returns-clause-links
returns-clause-links c = record {
  found = c.in_ok-self.ensures.links;
  links = c.in_ok-self.ensures.stands;
}

pub returns-clause-same : goal.returns-clause-same
returns-clause-same c = record { joins = refl; udp = refl; keeps = refl; places = refl; streams = refl }
