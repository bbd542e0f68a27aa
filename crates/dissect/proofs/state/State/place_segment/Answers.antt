use Rattle.std.proofs.Common.{◌≡◌, ◌∙◌, ◌∷◌, ap, refl, subst}
use Rattle.tcp_streams.specs.declared.segment.Segment.{Segment}
use Rattle.tcp_streams.specs.Labels.{taken_after}
use Rattle.tcp_streams.specs.PlacesStanding.{PlacesStandFor}
use Rattle.app_layers.specs.FrameLayer.{is_cut}
use Rattle.dissect.specs.Segments.{segment_from}
use Rattle.dissect.proofs.Passing.{placed-walked}
use Rattle.dissect.proofs.state.State.place_segment.Goals as goal

pub returns-in_ok-tell_place_alone-in-Ok-clause-walked : goal.returns-in_ok-tell_place_alone-in-Ok-clause-walked
returns-in_ok-tell_place_alone-in-Ok-clause-walked c = λ rules es app_is stands.
    let segment_is = c.segment_from-segment.ensures ∙ ap (segment_from c.args.frame.now.number c.args.packet c.args.head) c.in_ok-part.ensures in
    placed-walked rules c.args.frame.now c.args.packet c.args.head c.args.span c.args.app c.in-Ok.taken c.take-placed.new.self c.args.self.now _ c.args.tree.now c.tell_place_alone.new.tree
    app_is c.requires.places refl
    (λ past stood. subst (λ (s : Segment). c.in-Ok.taken ≡ taken_after past s) segment_is (c.in-Ok.ensures.taken past stood))
    (λ past stood. subst (λ (s : Segment). PlacesStandFor (s ∷ past) c.take-placed.new.self) segment_is (c.in-Ok.ensures.stands past stood))
    (c.in_ok-tell_place_alone-in-Ok.ensures.tree (is_cut c.args.frame.now))
    es stands
