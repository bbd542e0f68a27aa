use Rattle.std.proofs.Common.{◌≡◌}
use Rattle.message_links.specs.Linked.{layer_linked}
use Rattle.message_links.proofs.LinkedLemmas.{upto}
use Rattle.message_links.proofs.linking.link_messages.Given as goal

-- the layers so far have their links
abbrev pub invariant-loop-at : goal.invariant-loop-at
invariant-loop-at l = l.tree ≡ record l.initial.tree { layers = upto (layer_linked l.wanted l.fn.links) l.at l.initial.tree.layers }
