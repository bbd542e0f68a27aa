use Rattle.std.proofs.Common.{length, ap}
use Rattle.pk_base.specs.declared.span.Span.{Span}
use Rattle.dissect.specs.Stands.{bytes_behind}
use Rattle.dissect.proofs.Opens.{adds-more}
use Rattle.dissect.proofs.Shrinking.{less-joined}
use Rattle.dissect.proofs.fragments.begin_datagram.Goals as goal

pub returns-in-Ok-clause-tree : goal.returns-in-Ok-clause-tree
returns-in-Ok-clause-tree c = c.in-Ok.ensures.tree c.args.datagram.next

pub returns-in-Ok-clause-adds : goal.returns-in-Ok-clause-adds
returns-in-Ok-clause-adds c = λ state.
    adds-more (bytes_behind c.carried_by-after.result) (length c.args.datagram.bytes) state state c.todo_by.result
    (less-joined c.carried_by-after.result _ _ c.in-Ok.span (length c.args.datagram.bytes) c.carried_by-after.ensures.after (ap (λ (s : Span). s.len) c.in-Ok.ensures.span))
    (c.todo_by.ensures.adds state)
