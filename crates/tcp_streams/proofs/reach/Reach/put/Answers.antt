use Rattle.std.proofs.Common.{arith}
use Rattle.tcp_streams.proofs.ReachLemmas.{high_small}
use Rattle.tcp_streams.proofs.reach.Reach.put.Goals as goal

pub overflow_add-self : goal.overflow_add-self
overflow_add-self c = omega (arith, c.requires.room, c.run_high-high.ensures, high_small c.args.ahead c.args.count)

pub overflow_add-self-3 : goal.overflow_add-self-3
overflow_add-self-3 c = omega (arith, c.requires.room, c.run_high-high.ensures, high_small c.args.ahead c.args.count)
