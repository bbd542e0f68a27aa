use Rattle.std.proofs.Common.{length, refl, ap, ◌∙◌}
use Rattle.std.proofs.lemmas.Option.{slice_get_read}
use Rattle.std.specs.Vec.{with_item}
use Rattle.cap_stats.specs.declared.party.Party.{Party}
use Rattle.cap_stats.specs.Steps.{flight_of, talk_by}
use Rattle.cap_stats.proofs.MapLemmas.{pair_raised}
use Rattle.cap_stats.proofs.pairs.Pairs.raise.Goals as goal

pub returns : goal.returns
returns c = λ pair some notes has.
    let old = c.args.self.now in
    let was = c.index_mut.result.now in
    let talk = c.raise_talk.new.talk in
    pair_raised old (record old { talks = with_item old.talks c.args.place talk }) pair c.args.place (flight_of c.args.packet) was talk notes some
    (slice_get_read old.talks.items (length old.talks.items) c.args.place was refl c.requires.within c.index_mut.ensures.value)
    (c.raise_talk.ensures ∙ ap (λ (from : Party). talk_by was from c.args.packet.bytes) c.host.ensures) refl refl refl has
