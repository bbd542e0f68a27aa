use Rattle.pk_source.proofs.LayerLaws.{layers_shown}
use Rattle.pk_source.proofs.outline.Outline.protocol.Goals as goal

pub protocol_of-requires : goal.protocol_of-requires
protocol_of-requires c =
    let o = c.self.inside in
    let within = rw (← c.self.view_is) at c.requires in
    rw (layers_shown o.bytes.now o.wanted.now o.headers.now o.notes.now) within

pub returns : goal.returns
returns c =
    let o = c.self.inside in
    rw (← c.self.view_is) (c.protocol_of.ensures o.bytes.now o.wanted.now o.notes.now)
