use Rattle.pk_tree.proofs.KeptLemmas.{passed}
use Rattle.pk_tree.proofs.table.pass_layer.Goals as goal

pub returns-clause-layer : goal.returns-clause-layer
returns-clause-layer c steps fit why =
    passed c.args.tree.now c.open_with_room.new.self c.close_layer.new.tree c.args.proto c.args.span steps c.args.mode c.args.cut c.args.reach c.requires.none c.in_ok-open_with_room.ensures.ok c.in_ok-open_with_room.ensures.buffers c.in_ok-close_layer.ensures.tree fit why
