use Rattle.std.proofs.Common.{◌∙◌, sym, ap}
use Rattle.app_layers.specs.MessageLayers.{app_of_segment}
use Rattle.tcp_streams.specs.declared.segment.Segment.{Segment}
use Rattle.dissect.specs.Segments.{segment_from}
use Rattle.dissect.proofs.state.State.take_segment.Goals as goal

pub take_in-requires-clause-payload : goal.take_in-requires-clause-payload
take_in-requires-clause-payload c = ap (λ (s : Segment). s.payload) c.segment_from-segment.ensures ∙ c.in_ok-part.ensures

pub returns-in-Ok-clause-walked : goal.returns-in-Ok-clause-walked
returns-in-Ok-clause-walked c = λ rules es app_is stands.
    c.in-Ok.ensures.walked rules c.args.packet c.args.head es
    (c.segment_from-segment.ensures ∙ ap (segment_from c.args.frame.now.number c.args.packet c.args.head) c.in_ok-part.ensures)
    (app_is ∙ sym (ap (app_of_segment rules) c.segment_from-segment.ensures))
    stands

pub returns-in-Ok-clause-adds : goal.returns-in-Ok-clause-adds
returns-in-Ok-clause-adds c = c.in-Ok.ensures.adds
