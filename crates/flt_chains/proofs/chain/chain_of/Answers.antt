use Rattle.std.proofs.Common.{sym}
use Rattle.flt_chains.proofs.ChainLemmas.{stands_push}
use Rattle.flt_chains.proofs.chain.chain_of.Goals as goal

pub signs-preserved : goal.signs-preserved
signs-preserved g c =
    stands_push g.T.Chained.left_of c.args.whole.now c.signs.above.items c.push.new.self.items c.signs.first c.in-Some.left.now c.signs.invariant
    (sym c.in-Some.ensures.left) c.in_ok-push.ensures.items
