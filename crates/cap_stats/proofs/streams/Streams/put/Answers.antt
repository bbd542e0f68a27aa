use Rattle.std.proofs.Common.{refl}
use Rattle.cap_stats.proofs.StreamLemmas.{next_put, rest_put}
use Rattle.cap_stats.proofs.streams.Streams.put.Goals as goal

pub returns-in_ok-push : goal.returns-in_ok-push
returns-in_ok-push c = λ notes has.
    let next = c.is_next.ensures c.if-is_next.true in
    next_put c.args.self.now (record { first = c.push.new.self; rest = c.args.self.now.rest }) c.args.number c.args.flight.now c.first_talk-talk.result notes
    c.requires c.first_talk-talk.ensures next.0 next.1 c.in_ok-push.ensures.items refl has

pub returns-in_ok-insert : goal.returns-in_ok-insert
returns-in_ok-insert c = λ notes has.
    rest_put c.args.self.now (record { first = c.args.self.now.first; rest = c.insert.new.self }) c.args.number c.args.flight.now c.first_talk-talk.result notes
    c.requires c.first_talk-talk.ensures refl c.in_ok-insert.ensures.entries c.in_ok-insert.ensures.updates has
