use Rattle.std.proofs.Common.{arith}
use Rattle.ip_join.specs.KeyOrder.{four_cmp, wide_cmp}
use Rattle.ip_join.specs.Waiting.{bytes_waiting}
use Rattle.ip_join.proofs.WaitingLemmas.{waiting_more}
use Rattle.ip_join.proofs.joins.Joins.put.Goals as goal

pub returns-in-Ok-clause-waiting : goal.returns-in-Ok-clause-waiting
unfolding bytes_waiting
returns-in-Ok-clause-waiting c =
    omega (arith, waiting_more four_cmp c.args.self.now.four c.insert.new.self c.in-Four.key c.args.kept c.in-Ok.ensures.entries)

pub returns-in-Ok-insert-clause-waiting : goal.returns-in-Ok-insert-clause-waiting
unfolding bytes_waiting
returns-in-Ok-insert-clause-waiting c =
    omega (arith, waiting_more wide_cmp c.args.self.now.wide c.insert-in-Wide.new.self c.in-Wide.key c.args.kept c.in-Ok-insert.ensures.entries)
