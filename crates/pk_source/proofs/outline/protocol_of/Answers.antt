use Rattle.pk_source.proofs.LayerLaws.{proto_shown}
use Rattle.pk_source.proofs.outline.protocol_of.Goals as goal

pub returns : goal.returns
returns c = λ bytes wanted notes. proto_shown bytes wanted c.args.headers.now notes c.args.place _ c.requires
