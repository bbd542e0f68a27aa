use Rattle.std.proofs.Common.{◌==◌, Option, Some, refl, subst, sym}
use Rattle.std.proofs.lemmas.Result.{IfOk-weaker}
use Rattle.tcp_messages.specs.declared.readers.Readers.{Readers}
use Rattle.tcp_messages.specs.LetGo.{IsMovedAt, gone_of}
use Rattle.tcp_messages.proofs.letting_go.let_go_of.Goals as goal

pub returns-in-Some-clause-let_go : goal.returns-in-Some-clause-let_go
returns-in-Some-clause-let_go c =
    IfOk-weaker c.let_go.result _ _
    (λ _ go. record {
      to = go.to;
      streams = go.streams;
      readers = subst (λ (old : Option Readers). IsMovedAt (c.args.side == 1) (gone_of c.args.stream (c.args.side == 1) c.args.streams.now c.let_go.new.streams) old (Some c.let_go.new.self))
          (sym c.in-Some.is) (c.let_go.new.self, refl, go.readers);
    }) c.let_go.ensures.let_go
