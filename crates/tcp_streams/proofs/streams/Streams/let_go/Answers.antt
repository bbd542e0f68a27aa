use Rattle.std.proofs.Common.{eqb, refl, arith}
use Rattle.tcp_streams.specs.Labels.{labels}
use Rattle.tcp_streams.specs.LetGo.{StandsFrom}
use Rattle.tcp_streams.proofs.LetGoLemmas.{agrees_let_go, filled_let_go, ready_let_go, sound_let_go, ways_let_go}
use Rattle.tcp_streams.proofs.streams.Streams.let_go.Goals as goal

pub let_go_in-requires-clause-sound : goal.let_go_in-requires-clause-sound
let_go_in-requires-clause-sound c = (c.args.self.now.kept.taken, λ old there. (c.args.self.now.kept.sound c.if-kept.false).each c.args.stream old there)

pub invariant_of-kept-2 : goal.invariant_of-kept-2
invariant_of-kept-2 c =
    let kept = c.args.self.now.kept in
    record {
      count = omega (arith, c.let_go_in.ensures.count, kept.count);
      few = omega (arith, c.let_go_in.ensures.count, kept.few);
      sound = λ _. sound_let_go kept.taken kept.newest kept.streams.items c.let_go_in.new.streams.items c.args.stream (eqb c.args.side 1) c.args.to c.requires.stream c.in_ok-let_go_in.ensures.let_go (kept.sound c.if-kept.false);
      filled = λ _. filled_let_go kept.bytes kept.streams.items c.let_go_in.new.streams.items c.args.stream (eqb c.args.side 1) c.args.to c.requires.stream c.in_ok-let_go_in.ensures.let_go (kept.filled c.if-kept.false);
    }

pub returns-clause-stands : goal.returns-clause-stands
unfolding StandsFrom
returns-clause-stands c = λ past stands.
    let kept = c.args.self.now.kept in
    record {
      fresh = refl;
      taken = stands.taken;
      agrees = agrees_let_go (labels past) kept.newest kept.streams.items c.let_go_in.new.streams.items c.args.stream (eqb c.args.side 1) c.args.to c.requires.stream c.in_ok-let_go_in.ensures.let_go stands.agrees;
    }

pub returns-clause-ways : goal.returns-clause-ways
returns-clause-ways c =
    ways_let_go c.args.self.now.kept.streams.items c.let_go_in.new.streams.items c.args.stream (eqb c.args.side 1) c.args.to c.requires.stream c.in_ok-let_go_in.ensures.let_go

pub returns-clause-ready : goal.returns-clause-ready
returns-clause-ready c = λ ready.
    let kept = c.args.self.now.kept in
    ready_let_go c.args.self.now _ c.args.stream (eqb c.args.side 1) c.args.to ready (returns-clause-ways c) refl refl
    (filled_let_go kept.bytes kept.streams.items c.let_go_in.new.streams.items c.args.stream (eqb c.args.side 1) c.args.to c.requires.stream c.in_ok-let_go_in.ensures.let_go (kept.filled c.if-kept.false))
