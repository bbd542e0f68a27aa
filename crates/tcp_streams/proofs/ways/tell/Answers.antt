use Rattle.tcp_streams.specs.Reaches.{numbers_of}
use Rattle.tcp_streams.proofs.ReachLemmas.{other_taken}
use Rattle.tcp_streams.proofs.ways.tell.Goals as goal

pub returns-clause-other : goal.returns-clause-other
returns-clause-other c = λ w is.
    other_taken w c.args.s.now (numbers_of c.args.other.now) (numbers_of c.note.new.self) is c.note.ensures.origin c.note.ensures.end c.note.ensures.acked c.note.ensures.ahead
