use Rattle.pk_source.proofs.FitLemmas.{outline_fits}
use Rattle.pk_source.proofs.outline.Outline.fits.Goals as goal

pub returns : goal.returns
returns c =
    let o = c.self.inside in
    rw (← c.self.view_is) (outline_fits o.bytes.now o.wanted.now o.headers.now o.notes.now c.self.invariant.0)
