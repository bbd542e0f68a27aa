use Rattle.tcp_streams.proofs.TakeLemmas.{followed, at_here}
use Rattle.tcp_streams.proofs.streams.follow.Goals as goal

-- src/streams.rt:106:1
pub returns-clause-followed : goal.returns-clause-followed
returns-clause-followed c = followed c.args.streams.now.items c.args.number c.side_of-side.result c.args.s.now c.index_mut-stream.result.now c.take.new.self c.take.result
    (at_here c.args.streams.now.items c.args.number c.index_mut-stream.result.now c.requires.within c.index_mut-stream.ensures.value) c.side_of-side.ensures c.take.ensures.told c.take.ensures.first c.take.ensures.zero c.take.ensures.one
