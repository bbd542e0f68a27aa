use Rattle.std.proofs.Common.{Option, subst}
use Rattle.std.specs.Prelude.{IfSome}
use Rattle.dissect.specs.Ways.{Carries}
use Rattle.dissect.specs.declared.ways.Carried.{Carried as WayCarried}
use Rattle.dissect.specs.Feeding.{IsFed}
use Rattle.dissect.specs.declared.feeding.Fed.{Fed}
use Rattle.dissect.proofs.FedLemmas.{fed_told}
use Rattle.dissect.proofs.PlainHeads.{carried_inside}
use Rattle.dissect.proofs.plain_trees.feed_headers.Goals as goal

pub feed-requires-clause-inside : goal.feed-requires-clause-inside
feed-requires-clause-inside c =
    let headers = c.open_headers.new.headers.items in
    carried_inside c.args.frame.now headers c.in-Some.way
    (subst (λ (r : Option WayCarried). IfSome r (Carries c.args.frame.now headers)) c.in-Some.is c.in_ok-way.ensures.carried)

pub feed-requires-clause-last : goal.feed-requires-clause-last
feed-requires-clause-last c =
    let headers = c.open_headers.new.headers.items in
    let carries : Carries c.args.frame.now headers c.in-Some.way = subst (λ (r : Option WayCarried). IfSome r (Carries c.args.frame.now headers)) c.in-Some.is c.in_ok-way.ensures.carried in
    carries.last

pub returns-in_ok-put_carried-in-Told-clause-fed : goal.returns-in_ok-put_carried-in-Told-clause-fed
returns-in_ok-put_carried-in-Told-clause-fed c =
    let rules = c.args.asked.now.rules.now in
    let wanted = c.args.asked.now.wanted.now in
    let before = c.args.asked.now.before.now in
    let frame = c.args.frame.now in
    let passes = c.args.asked.now.passes in
    let headers = c.open_headers.new.headers.items in
    let put = c.in_ok-put_carried-in-Told.ensures in
    fed_told rules c.args.tables.now wanted before frame passes c.in-Some.way c.in-Told.carried headers
    (record { headers = c.put_carried.new.headers.items; notes = c.put_carried.new.notes.items }) c.args.state.now c.feed.new.self
    c.requires.bytes c.requires.tables c.requires.goes c.requires.messages
    (subst (λ (r : Option WayCarried). IfSome r (Carries frame headers)) c.in-Some.is c.in_ok-way.ensures.carried) c.in_ok-way.ensures.opens
    (subst (λ (fed : Fed). IsFed rules frame passes c.in-Some.way c.args.state.now c.feed.new.self fed) c.in-Told.is c.in_ok-feed.ensures.fed)
    put.fits put.headers put.notes
