use Rattle.std.proofs.Common.{sym, subst}
use Rattle.tcp_messages.specs.Standing.{ReadsFor}
use Rattle.app_layers.specs.MessageLayers.{framer_of_segment}
use Rattle.dissect.specs.Segments.{segments_of}
use Rattle.dissect.specs.Stands.{DissectorShown, IsKept, Stands, StandsWithin}
use Rattle.dissect.specs.Trees.{events_of}
use Rattle.dissect.proofs.KeepingLemmas.{all_asked, streams_of_all}
use Rattle.dissect.proofs.dissector.Dissector.streams.Goals as goal

pub returns-clause-streams : goal.returns-clause-streams
unfolding Stands
returns-clause-streams c = λ past stands.
    let d = c.args.self.now in
    c.streams.ensures.stands (framer_of_segment d.decode.rules) (segments_of (events_of past))
    (subst (λ (x : DissectorShown). ReadsFor (framer_of_segment d.decode.rules) (segments_of (events_of past)) x.state.streams) (sym c.self.view_is) (streams_of_all d past stands.0 stands.1 stands.2))

pub returns-clause-within : goal.returns-clause-within
unfolding StandsWithin
returns-clause-within c = λ asked unsparing past stands.
    let d = c.args.self.now in
    let kept : IsKept d = subst IsKept c.self.view_is c.self.invariant.0 in
    c.streams.ensures.stands (framer_of_segment d.decode.rules) (segments_of (events_of past))
    (subst (λ (x : DissectorShown). ReadsFor (framer_of_segment d.decode.rules) (segments_of (events_of past)) x.state.streams) (sym c.self.view_is)
    (streams_of_all d past stands (all_asked d kept asked unsparing) (kept.whole unsparing).bytes))

pub returns-clause-whole : goal.returns-clause-whole
unfolding Stands StandsWithin
returns-clause-whole c = λ asked unsparing past stands.
    let d = c.args.self.now in
    let kept : IsKept d = subst IsKept c.self.view_is c.self.invariant.0 in
    (stands, all_asked d kept asked unsparing, (kept.whole unsparing).bytes)
