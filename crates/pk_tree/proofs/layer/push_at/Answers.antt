use Rattle.pk_tree.proofs.LayersFit.{layer_gets_set}
use Rattle.pk_tree.proofs.layer.push_at.Goals as goal

pub returns-clause-ok : goal.returns-clause-ok
returns-clause-ok c =
    rw c.in_ok-push.ensures.ok (layer_gets_set c.args.layers.now.items c.args.at c.index_mut.result.now c.args.item c.index_mut.ensures.value)
