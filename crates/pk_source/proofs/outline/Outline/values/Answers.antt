use Rattle.pk_source.proofs.OutlineLaws.{tree_kind}
use Rattle.pk_source.proofs.outline.Outline.values.Goals as goal

pub returns-clause-kind : goal.returns-clause-kind
returns-clause-kind c = rw c.in_ok-push_all.ensures (tree_kind c.args.self.now c.args.field c.args.layers.now c.fits.ensures)
