use Rattle.std.proofs.lemmas.Result.{on_ok_weaker}
use Rattle.pk_tree.proofs.KnownLemmas.{passed_known}
use Rattle.pk_tree.proofs.table.pass_known.Goals as goal

pub returns-clause-layer : goal.returns-clause-layer
returns-clause-layer c =
    on_ok_weaker c.open_with_room.result
    (λ ok steps mode cut fit known. passed_known c.args.tree.now c.open_with_room.new.self c.args.proto c.args.span steps mode cut c.requires.none ok c.open_with_room.ensures.buffers fit known)
    c.open_with_room.ensures.ok
