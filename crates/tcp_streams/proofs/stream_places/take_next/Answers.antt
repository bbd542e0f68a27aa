use Rattle.std.proofs.Common.{◌≡◌, ◌<◌, List, length, None, Some, sym, ap, ◌∙◌, subst, arith}
use Rattle.std.proofs.lemmas.Result.{IfOk-weaker}
use Rattle.tcp_streams.specs.declared.followed.Followed.{Followed}
use Rattle.tcp_streams.specs.Labels.{labels}
use Rattle.tcp_streams.specs.PlacesKept.{place_in}
use Rattle.tcp_streams.proofs.PlacesLemmas.{HasFollowed, HasStarted, sound_followed, told_followed, agrees_followed, sound_started, told_started, agrees_started, has_started}
use Rattle.tcp_streams.proofs.stream_places.take_next.Goals as goal

within : (c : goal.After-follow) → c.in-Some.number < length c.args.streams.now.items
within c = subst (λ (streams : List Followed). c.in-Some.number < length streams) c.deref.ensures.value c.in-Some.ensures.within

goes_on : (c : goal.After-follow) → place_in c.args.newest.now c.args.streams.now.items c.args.s.now ≡ Some c.in-Some.number
goes_on c =
    ap (λ (streams : List Followed). place_in c.args.newest.now streams c.args.s.now) (sym c.deref.ensures.value)
    ∙ sym c.current.ensures.current ∙ c.in-Some.is

opens : (c : goal.After-start) → place_in c.args.newest.now c.args.streams.now.items c.args.s.now ≡ None
opens c =
    ap (λ (streams : List Followed). place_in c.args.newest.now streams c.args.s.now) (sym c.deref.ensures.value)
    ∙ sym c.current.ensures.current ∙ c.in-None.is

pub returns-in-Some-clause-sound : goal.returns-in-Some-clause-sound
returns-in-Some-clause-sound c = IfOk-weaker c.follow.result (λ t. HasFollowed c.args.streams.now.items c.in-Some.number c.args.s.now t c.follow.new.streams.items) _
    (λ t followed taken sound.
    sound_followed taken c.args.newest.now c.args.streams.now.items c.follow.new.streams.items c.args.s.now c.in-Some.number t (within c) followed sound) c.follow.ensures.followed

pub returns-in-Some-clause-taken : goal.returns-in-Some-clause-taken
returns-in-Some-clause-taken c = IfOk-weaker c.follow.result (λ t. HasFollowed c.args.streams.now.items c.in-Some.number c.args.s.now t c.follow.new.streams.items) _
    (λ t followed past agrees. told_followed (labels past) c.args.newest.now c.args.streams.now.items c.follow.new.streams.items c.args.s.now c.in-Some.number t
    (within c) followed (goes_on c) agrees) c.follow.ensures.followed

pub returns-in-Some-clause-agrees : goal.returns-in-Some-clause-agrees
returns-in-Some-clause-agrees c = IfOk-weaker c.follow.result (λ t. HasFollowed c.args.streams.now.items c.in-Some.number c.args.s.now t c.follow.new.streams.items) _
    (λ t followed past agrees. agrees_followed (labels past) c.args.newest.now c.args.streams.now.items c.follow.new.streams.items c.args.s.now c.in-Some.number t
    (within c) followed (goes_on c) agrees) c.follow.ensures.followed

pub returns-in-None-clause-sound : goal.returns-in-None-clause-sound
returns-in-None-clause-sound c = IfOk-weaker c.start.result (λ t. HasStarted c.args.streams.now.items c.args.newest.now c.args.s.now t c.start.new.streams.items c.start.new.newest) _
    (λ t so taken sound. sound_started taken c.args.newest.now c.start.new.newest c.args.streams.now.items c.start.new.streams.items c.args.s.now t so sound)
    (has_started c.args.streams.now.items c.args.newest.now c.args.s.now c.start.new.streams.items c.start.new.newest c.start.result c.start.ensures.opened c.start.ensures.newest)

pub returns-in-None-clause-taken : goal.returns-in-None-clause-taken
returns-in-None-clause-taken c = IfOk-weaker c.start.result (λ t. HasStarted c.args.streams.now.items c.args.newest.now c.args.s.now t c.start.new.streams.items c.start.new.newest) _
    (λ t so past agrees. told_started (labels past) c.args.newest.now c.start.new.newest c.args.streams.now.items c.start.new.streams.items c.args.s.now t so (opens c) agrees)
    (has_started c.args.streams.now.items c.args.newest.now c.args.s.now c.start.new.streams.items c.start.new.newest c.start.result c.start.ensures.opened c.start.ensures.newest)

pub returns-in-None-clause-agrees : goal.returns-in-None-clause-agrees
returns-in-None-clause-agrees c = IfOk-weaker c.start.result (λ t. HasStarted c.args.streams.now.items c.args.newest.now c.args.s.now t c.start.new.streams.items c.start.new.newest) _
    (λ t so past agrees. agrees_started (labels past) c.args.newest.now c.start.new.newest c.args.streams.now.items c.start.new.streams.items c.args.s.now t so (opens c) agrees)
    (has_started c.args.streams.now.items c.args.newest.now c.args.s.now c.start.new.streams.items c.start.new.newest c.start.result c.start.ensures.opened c.start.ensures.newest)

pub follow-requires-clause-sound : goal.follow-requires-clause-sound
follow-requires-clause-sound c = (c.requires.0, λ old there. c.requires.1.each c.in-Some.number old there, omega (arith, c.requires.2))
