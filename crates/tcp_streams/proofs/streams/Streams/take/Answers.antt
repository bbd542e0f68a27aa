use Rattle.std.proofs.Common.{◌≡◌, ℕ, ◌+◌, ◌^◌, ◌<◌, List, length, ap, arith, refl}
use Rattle.tcp_streams.proofs.Isolating.{is_isolated}
use Rattle.tcp_streams.proofs.Filling.{are_filled}
use Rattle.tcp_streams.proofs.Stepping.{are_ready, ways_sound}
use Rattle.tcp_streams.proofs.streams.Streams.take.Goals as goal

-- src/streams.rt:69:9
pub invariant_of-kept-2 : goal.invariant_of-kept-2
invariant_of-kept-2 c = record {
  count = omega (arith, c.take_next.ensures.count, c.args.self.now.kept.count);
  few = omega (arith, c.take_next.ensures.count, c.args.self.now.kept.count, c.requires.taken);
  sound = λ _. c.in_ok-taken.ensures.sound c.args.self.now.kept.taken (c.args.self.now.kept.sound c.if-kept.false);
  filled = λ _. are_filled c.args.self.now.kept.bytes _ c.args.s.now c.in_ok-taken.taken c.args.self.now.kept.streams.items _
      (ways_sound c.args.self.now.kept.newest c.args.self.now.kept.streams.items c.args.self.now.kept.taken (c.args.self.now.kept.sound c.if-kept.false) (omega (arith, c.requires.taken)))
      (c.args.self.now.kept.filled c.if-kept.false) c.in_ok-taken.ensures.stepped (ap (λ (bytes : List ℕ). c.args.self.now.kept.bytes + length bytes) c.bytes.ensures);
}

pub returns-clause-isolated : goal.returns-clause-isolated
returns-clause-isolated c = is_isolated c.args.s.now

pub returns-then-kept-clause-isolated : goal.returns-then-kept-clause-isolated
returns-then-kept-clause-isolated c = is_isolated c.args.s.now

pub returns-in_err-taken-clause-isolated : goal.returns-in_err-taken-clause-isolated
returns-in_err-taken-clause-isolated c = is_isolated c.args.s.now

pub returns-clause-ready : goal.returns-clause-ready
returns-clause-ready c =
    let size : length c.bytes.result.now ≡ length c.args.s.now.payload = ap length c.bytes.ensures in
    let few : c.args.self.now.kept.bytes + length c.bytes.result.now < 2 ^ 32 = omega (arith, c.requires.bytes, size) in
    are_ready _ refl (c.in_ok-taken.ensures.sound c.args.self.now.kept.taken (c.args.self.now.kept.sound c.if-kept.false))
    (are_filled c.args.self.now.kept.bytes (c.args.self.now.kept.bytes + length c.bytes.result.now) c.args.s.now c.in_ok-taken.taken c.args.self.now.kept.streams.items _
    (ways_sound c.args.self.now.kept.newest c.args.self.now.kept.streams.items c.args.self.now.kept.taken (c.args.self.now.kept.sound c.if-kept.false) (omega (arith, c.requires.taken)))
    (c.args.self.now.kept.filled c.if-kept.false) c.in_ok-taken.ensures.stepped (ap (λ (bytes : List ℕ). c.args.self.now.kept.bytes + length bytes) c.bytes.ensures))
    (omega (arith, c.requires.taken)) few
