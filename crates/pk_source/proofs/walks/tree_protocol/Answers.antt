use Rattle.pk_source.proofs.LayerLaws.{proto_there}
use Rattle.pk_source.proofs.walks.tree_protocol.Goals as goal

pub returns : goal.returns
returns c = rw c.layers.ensures.layers (proto_there c.args.tree.now.layers c.args.place c.index-layers-place.result c.requires)
