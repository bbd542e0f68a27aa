use Rattle.std.proofs.Common.{arith}
use Rattle.ip_join.specs.Waiting.{bytes_waiting}
use Rattle.ip_join.proofs.WaitingLemmas.{waiting_less}
use Rattle.ip_join.proofs.joins.Joins.remove.Goals as goal

pub returns-in-Four-clause-waiting : goal.returns-in-Four-clause-waiting
unfolding bytes_waiting
returns-in-Four-clause-waiting c =
    omega (arith, waiting_less _ c.args.self.now.four c.remove.new.self c.remove.result c.remove.ensures.entries c.remove.ensures.value)

pub returns-in-Wide-clause-waiting : goal.returns-in-Wide-clause-waiting
unfolding bytes_waiting
returns-in-Wide-clause-waiting c =
    omega (arith, waiting_less _ c.args.self.now.wide c.remove-in-Wide.new.self c.remove-in-Wide.result c.remove-in-Wide.ensures.entries c.remove-in-Wide.ensures.value)
