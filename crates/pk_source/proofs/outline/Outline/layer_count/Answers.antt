use Rattle.pk_source.proofs.LayerLaws.{layers_shown}
use Rattle.pk_source.proofs.outline.Outline.layer_count.Goals as goal

pub returns : goal.returns
returns c =
    let o = c.self.inside in
    rw (← c.self.view_is) (layers_shown o.bytes.now o.wanted.now o.headers.now o.notes.now)
