use Rattle.dissect.proofs.Told.{walked_joined}
use Rattle.dissect.proofs.state.State.behind_piece.Goals as goal

pub returns-in-Whole-clause-walked : goal.returns-in-Whole-clause-walked
returns-in-Whole-clause-walked c =
    walked_joined c.args.self.now c.args.joined c.in-Whole.datagram c.args.head c.args.span c.args.tree.now c.begin_datagram.new.tree c.begin_datagram.result c.in-Whole.is
    c.begin_datagram.ensures.tree c.begin_datagram.ensures.todo
