use Rattle.std.proofs.Common.{[], ◌∷◌, arith}
use Rattle.std.proofs.lemmas.List.{length-append}
use Rattle.dis_dns.proofs.ChainLemmas.{ends_grow}
use Rattle.dis_dns.proofs.chains.chain_ends.Goals as goal

pub loop-place-preserved : goal.loop-place-preserved
loop-place-preserved c = rw c.in_ok-push.ensures.items (record {
  size = omega (arith, c.loop-place.invariant.size, length-append c.loop-place.ends.items (c.chain_end-end.result ∷ []));
  each = ends_grow c.args.bytes.now c.loop-place.ends.items c.loop-place.place c.chain_end-end.result c.loop-place.invariant.size c.loop-place.invariant.each c.chain_end-end.ensures;
})
