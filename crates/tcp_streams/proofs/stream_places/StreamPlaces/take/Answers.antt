use Rattle.std.proofs.Common.{arith}
use Rattle.tcp_streams.proofs.stream_places.StreamPlaces.take.Goals as goal

pub invariant_of-kept-2 : goal.invariant_of-kept-2
invariant_of-kept-2 c = record {
  count = omega (arith, c.take_next.ensures.count, c.args.self.now.kept.count);
  few = omega (arith, c.take_next.ensures.count, c.args.self.now.kept.count, c.requires.taken);
  sound = λ _. c.in_ok-taken.ensures.sound c.args.self.now.kept.taken (c.args.self.now.kept.sound c.if-kept.false);
}
