use Rattle.dissect.proofs.LayerProtocols.{tree_has}
use Rattle.dissect.proofs.laws.layers_have_protocols.Goals as goal

pub returns : goal.returns
returns c = tree_has
