use Rattle.std.proofs.Common.{◌+◌, subst, ℕ}
use Rattle.tcp_streams.specs.Standing.{way_in}
use Rattle.tcp_messages.specs.LetGo.{IsMovedOn}
use Rattle.tcp_messages.proofs.LettingGo.{moved_on}
use Rattle.tcp_messages.proofs.readers.Reader.let_go.Goals as goal

pub returns-clause-let_go : goal.returns-clause-let_go
returns-clause-let_go c = record {
  to = (way_in c.args.streams.now c.args.stream c.args.side).start + c.settle-spare.result;
  streams = c.in_ok-gone.ensures.let_go;
  reader = subst (λ (gone : ℕ). IsMovedOn gone c.args.self.now c.move_on.new.self) c.in_ok-gone.ensures.gone.1
      (moved_on c.in_ok-gone.gone _ c.settle-spare.result c.args.self.now c.settle-spare.new.self c.move_on.new.self c.settle-spare.ensures.settled c.move_on.ensures);
}
