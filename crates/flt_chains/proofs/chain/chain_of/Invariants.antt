use Rattle.flt_chains.specs.Chains.{Stands}
use Rattle.flt_chains.proofs.chain.chain_of.Given as goal

abbrev pub invariant-signs : goal.invariant-signs
invariant-signs g l = Stands g.T.Chained.left_of l.fn.whole l.above.items l.first

abbrev pub decreases-signs : goal.decreases-signs
decreases-signs g l = g.T.Chained.size l.first
