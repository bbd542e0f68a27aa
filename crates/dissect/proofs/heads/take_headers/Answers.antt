use Rattle.std.proofs.Common.{Option, subst}
use Rattle.std.specs.Prelude.{IfSome}
use Rattle.dissect.specs.Heads.{HeadsShown}
use Rattle.dissect.specs.Tells.{Tells}
use Rattle.dissect.specs.Ways.{Carries}
use Rattle.dissect.specs.declared.carried.Carried.{Carried}
use Rattle.dissect.specs.declared.ways.Carried.{Carried as WayCarried}
use Rattle.dissect.proofs.PlainHeads.{carried_inside, heads_stand}
use Rattle.dissect.proofs.PlainRead.{heads_read}
use Rattle.dissect.proofs.heads.take_headers.Goals as goal

pub carry-requires-clause-inside : goal.carry-requires-clause-inside
carry-requires-clause-inside c =
    let headers = c.open_headers.new.headers.items in
    carried_inside c.args.frame.now headers c.in-Some.way
    (subst (λ (r : Option WayCarried). IfSome r (Carries c.args.frame.now headers)) c.in-Some.is c.in_ok-way.ensures.carried)

pub carry-requires-clause-last : goal.carry-requires-clause-last
carry-requires-clause-last c =
    let headers = c.open_headers.new.headers.items in
    let carries : Carries c.args.frame.now headers c.in-Some.way = subst (λ (r : Option WayCarried). IfSome r (Carries c.args.frame.now headers)) c.in-Some.is c.in_ok-way.ensures.carried in
    carries.last

pub returns-in_ok-put_carried-in-Some-2-clause-read : goal.returns-in_ok-put_carried-in-Some-2-clause-read
returns-in_ok-put_carried-in-Some-2-clause-read c = λ taken es stands.
    let frame = c.args.frame.now in
    let asked = c.args.asked.now in
    let wanted = asked.wanted.now in
    let headers = c.open_headers.new.headers.items in
    let way = c.in-Some.way in
    let carried = c.in-Some-2.carried in
    let heads : HeadsShown = record { headers = c.put_carried.new.headers.items; notes = c.put_carried.new.notes.items } in
    let put = c.in_ok-put_carried-in-Some-2.ensures in
    let carried_by_it : Carries frame headers way = subst (λ (r : Option WayCarried). IfSome r (Carries frame headers)) c.in-Some.is c.in_ok-way.ensures.carried in
    let tells : Tells asked.rules.now frame asked.passes way c.args.state.now c.carry.new.self carried =
    subst (λ (r : Option Carried). IfSome r (Tells asked.rules.now frame asked.passes way c.args.state.now c.carry.new.self)) c.in-Some-2.is c.in_ok-carried.ensures.tells in
    heads_read asked.rules.now wanted asked.before.now es frame asked.passes way carried headers heads c.args.state.now c.carry.new.self c.requires.goes c.requires.messages carried_by_it c.in_ok-way.ensures.opens
    (heads_stand c.args.tables.now wanted asked.before.now frame way carried headers heads c.requires.bytes c.requires.tables carried_by_it tells.payload tells.carrier put.fits put.headers put.notes)
    tells stands

pub returns-in_ok-put_carried-in-Some-2-clause-outline : goal.returns-in_ok-put_carried-in-Some-2-clause-outline
returns-in_ok-put_carried-in-Some-2-clause-outline c = λ taken.
    let frame = c.args.frame.now in
    let asked = c.args.asked.now in
    let headers = c.open_headers.new.headers.items in
    let way = c.in-Some.way in
    let carried = c.in-Some-2.carried in
    let heads : HeadsShown = record { headers = c.put_carried.new.headers.items; notes = c.put_carried.new.notes.items } in
    let put = c.in_ok-put_carried-in-Some-2.ensures in
    let carried_by_it : Carries frame headers way = subst (λ (r : Option WayCarried). IfSome r (Carries frame headers)) c.in-Some.is c.in_ok-way.ensures.carried in
    let tells : Tells asked.rules.now frame asked.passes way c.args.state.now c.carry.new.self carried =
    subst (λ (r : Option Carried). IfSome r (Tells asked.rules.now frame asked.passes way c.args.state.now c.carry.new.self)) c.in-Some-2.is c.in_ok-carried.ensures.tells in
    (heads_stand c.args.tables.now asked.wanted.now asked.before.now frame way carried headers heads c.requires.bytes c.requires.tables carried_by_it tells.payload tells.carrier put.fits put.headers put.notes).outline
