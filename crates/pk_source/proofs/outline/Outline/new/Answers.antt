use Rattle.pk_source.proofs.FitLemmas.{outline_fits}
use Rattle.pk_source.proofs.outline.Outline.new.Goals as goal

pub returns-clause-fits : goal.returns-clause-fits
returns-clause-fits c = outline_fits c.args.bytes.now c.args.wanted.now c.args.headers.now c.args.notes.now c.requires.outline
