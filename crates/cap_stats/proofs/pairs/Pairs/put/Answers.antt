use Rattle.std.proofs.Common.{ap, ◌∙◌}
use Rattle.cap_stats.specs.declared.party.Flight.{Flight}
use Rattle.cap_stats.specs.Steps.{first_talk, flight_of}
use Rattle.cap_stats.proofs.MapLemmas.{pair_put}
use Rattle.cap_stats.proofs.pairs.Pairs.put.Goals as goal

pub returns : goal.returns
returns c = λ notes has.
    let old = c.args.self.now in
    pair_put old (record { order = c.push.new.self; talks = c.push-2.new.self; all = c.insert.new.self; at_hand = c.fill_hand.new.hand }) c.args.pair c.len-place.result
    (flight_of c.args.packet) c.first_talk-talk.result notes c.requires (c.len-place.ensures ∙ old.talks.ok.0)
    (c.first_talk-talk.ensures ∙ ap (λ (flight : Flight). first_talk flight) c.flight_of.ensures)
    c.in_ok-push.ensures.items c.in_ok-push-2.ensures.items c.in_ok-insert.ensures.updates has
