use Rattle.std.proofs.Common.{◌<◌, length, refl, subst, IfSome, Option, arith}
use Rattle.std.specs.Vec.{with_item}
use Rattle.cap_stats.specs.declared.counts.Talk.{Talk}
use Rattle.cap_stats.specs.Few.{HasTalkRoom}
use Rattle.cap_stats.proofs.StreamLemmas.{first_at, first_raised}
use Rattle.cap_stats.proofs.streams.Streams.raise.Goals as goal

pub raise_talk-requires-clause-room : goal.raise_talk-requires-clause-room
raise_talk-requires-clause-room c =
    let streams = c.args.self.now in
    let within : c.args.number < length streams.first.items = omega (arith, c.if-place-len.true, c.len.ensures, streams.first.ok.0) in
    subst (λ (o : Option Talk). IfSome o HasTalkRoom) (first_at streams c.args.number c.index_mut.result.now within c.index_mut.ensures.value) c.requires.room

pub returns-then-place-len-clause-raised : goal.returns-then-place-len-clause-raised
returns-then-place-len-clause-raised c = λ e notes has.
    let streams = c.args.self.now in
    let talk = c.raise_talk.new.talk in
    let within : c.args.number < length streams.first.items = omega (arith, c.if-place-len.true, c.len.ensures, streams.first.ok.0) in
    first_raised streams (record { first = with_item streams.first c.args.number talk; rest = streams.rest }) c.args.number c.args.flight.now c.index_mut.result.now talk notes
    within c.index_mut.ensures.value c.raise_talk.ensures refl refl has
