use Rattle.range_bytes.proofs.LettingGo.{letting_more}
use Rattle.range_bytes.proofs.waiting.Waiting.let_go.Goals as goal

pub loop-from-preserved-in-Some : goal.loop-from-preserved-in-Some
loop-from-preserved-in-Some c =
    letting_more c.args.self.now c.loop-from.self c.take_from.new.self c.args.below c.loop-from.from c.in-Some.piece c.loop-from.invariant c.in-Some.ensures.some

pub loop-from-preserved : goal.loop-from-preserved
loop-from-preserved c =
    letting_more c.args.self.now c.loop-from.self c.take_from.new.self c.args.below c.loop-from.from c.in-Some.piece c.loop-from.invariant c.in-Some.ensures.some
