use Rattle.tcp_streams.proofs.LetGoLemmas.{let_go_followed}
use Rattle.tcp_streams.proofs.TakeLemmas.{at_here}
use Rattle.tcp_streams.proofs.letting_go.let_go_in.Goals as goal

pub returns-clause-let_go : goal.returns-clause-let_go
returns-clause-let_go c = let_go_followed c.args.streams.now.items c.args.number c.args.side c.args.to c.index_mut-stream.result.now c.let_go.new.self c.let_go.result
    (at_here c.args.streams.now.items c.args.number c.index_mut-stream.result.now c.requires.within c.index_mut-stream.ensures.value) c.let_go.ensures
