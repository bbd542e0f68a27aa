use Rattle.std.proofs.Common.{refl}
use Rattle.tcp_messages.specs.Standing.{ReadsFrom}
use Rattle.tcp_messages.proofs.Whole.{ready_in}
use Rattle.tcp_messages.proofs.message_streams.MessageStreams.let_go.Goals as goal

pub let_go-requires-clause-ready : goal.let_go-requires-clause-ready
let_go-requires-clause-ready c = ready_in c.args.self.now (c.args.self.now.kept.sound c.if-kept.false) c.requires.taken c.requires.bytes

pub returns-clause-stands : goal.returns-clause-stands
unfolding ReadsFrom
returns-clause-stands c = λ framer_of past reads. record {
  streams = c.in_ok-let_go.ensures.stands past reads.streams;
  fresh = refl;
  readers = c.in_ok-let_go.ensures.reads framer_of past reads.streams reads.readers;
}
