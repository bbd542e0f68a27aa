use Rattle.std.proofs.Common.{arith, eqb}
use Rattle.tcp_messages.proofs.Bridging.{part_holds_from}
use Rattle.tcp_messages.proofs.Sources.{not_free}
use Rattle.tcp_messages.proofs.locating.frames_of.Goals as goal

pub origins-requires-clause-held : goal.origins-requires-clause-held
origins-requires-clause-held c = λ p low high. c.requires.run.run p (omega (arith, low, c.requires.from.0)) (omega (arith, high, c.if-to-run.true))

pub returns-else-to-run : goal.returns-else-to-run
returns-else-to-run c = λ past stands. absurd (not_free _ c.args.run.from c.args.run.to c.args.from c.args.to c.requires.run c.requires.from.1 (omega (arith, c.if-to-run.false))
    (part_holds_from past c.args.streams.now c.args.taken.now.stream c.args.taken.now.side c.args.from c.args.to (c.requires.ready.ways c.args.taken.now.stream (eqb c.args.taken.now.side 1)) stands c.requires.stream c.requires.lies))
