use Rattle.std.proofs.Common.{refl, sym, subst, ◌∙◌, IfSome, Option, rules}
use Rattle.cap_stats.specs.declared.counts.Talk.{Talk}
use Rattle.cap_stats.specs.Few.{HasTalkRoom}
use Rattle.cap_stats.proofs.StreamLemmas.{rest_at, rest_raised}
use Rattle.cap_stats.proofs.streams.Streams.raise_rest.Goals as goal

pub raise_talk-requires-clause-room : goal.raise_talk-requires-clause-room
raise_talk-requires-clause-room c =
    subst (λ (o : Option Talk). IfSome o HasTalkRoom) (rest_at c.args.self.now c.args.number c.requires.behind ∙ sym c.in-Some.ensures.value) c.requires.room

pub returns-in-Some-clause-raised : goal.returns-in-Some-clause-raised
returns-in-Some-clause-raised c = λ e notes has.
    let talk = c.raise_talk.new.talk in
    rest_raised c.args.self.now (record { first = c.args.self.now.first; rest = c.get_mut.follows.lender talk }) c.args.number c.args.flight.now c.in-Some.talk.now talk notes
    c.requires.behind refl (sym c.in-Some.ensures.value) c.raise_talk.ensures (c.get_mut.follows.holds talk).1 ((c.get_mut.follows.holds talk).3 (search rules)) has
