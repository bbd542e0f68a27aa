use Rattle.std.proofs.Common.{◌≡◌, ◌<◌, List, length, None, Some, sym, ap, ◌∙◌, subst, arith}
use Rattle.std.proofs.lemmas.Result.{IfOk-weaker}
use Rattle.tcp_streams.specs.declared.stream.Stream.{Stream}
use Rattle.tcp_streams.specs.Labels.{labels}
use Rattle.tcp_streams.specs.Stands.{current_in}
use Rattle.tcp_streams.proofs.TakeLemmas.{Followed, Started, sound_followed, told_followed, agrees_followed, sound_started, told_started, agrees_started, started}
use Rattle.tcp_streams.proofs.KeptStands.{agrees_followed_kept, agrees_started_kept, told_followed_kept, told_started_kept}
use Rattle.tcp_streams.proofs.Stepping.{stepped_followed, stepped_started}
use Rattle.tcp_streams.proofs.streams.take_next.Goals as goal

within : (c : goal.After-follow) → c.in-Some.number < length c.args.streams.now.items
within c = subst (λ (streams : List Stream). c.in-Some.number < length streams) c.deref.ensures.value c.in-Some.ensures.within

goes_on : (c : goal.After-follow) → current_in c.args.newest.now c.args.streams.now.items c.args.s.now ≡ Some c.in-Some.number
goes_on c =
    ap (λ (streams : List Stream). current_in c.args.newest.now streams c.args.s.now) (sym c.deref.ensures.value)
    ∙ sym c.current.ensures.current ∙ c.in-Some.is

opens : (c : goal.After-start) → current_in c.args.newest.now c.args.streams.now.items c.args.s.now ≡ None
opens c =
    ap (λ (streams : List Stream). current_in c.args.newest.now streams c.args.s.now) (sym c.deref.ensures.value)
    ∙ sym c.current.ensures.current ∙ c.in-None.is

-- src/streams.rt:74:1
pub returns-in-Some-clause-sound : goal.returns-in-Some-clause-sound
returns-in-Some-clause-sound c = IfOk-weaker c.follow.result (λ t. Followed c.args.streams.now.items c.in-Some.number c.args.s.now t c.follow.new.streams.items) _
    (λ t followed taken sound.
    sound_followed taken c.args.newest.now c.args.streams.now.items c.follow.new.streams.items c.args.s.now c.in-Some.number t (within c) followed sound) c.follow.ensures.followed

-- src/streams.rt:74:1
pub returns-in-Some-clause-taken : goal.returns-in-Some-clause-taken
returns-in-Some-clause-taken c = IfOk-weaker c.follow.result (λ t. Followed c.args.streams.now.items c.in-Some.number c.args.s.now t c.follow.new.streams.items) _
    (λ t followed past agrees. told_followed (labels past) c.args.newest.now c.args.streams.now.items c.follow.new.streams.items c.args.s.now c.in-Some.number t
    (within c) followed (goes_on c) agrees) c.follow.ensures.followed

-- src/streams.rt:74:1
pub returns-in-Some-clause-agrees : goal.returns-in-Some-clause-agrees
returns-in-Some-clause-agrees c = IfOk-weaker c.follow.result (λ t. Followed c.args.streams.now.items c.in-Some.number c.args.s.now t c.follow.new.streams.items) _
    (λ t followed past agrees. agrees_followed (labels past) c.args.newest.now c.args.streams.now.items c.follow.new.streams.items c.args.s.now c.in-Some.number t
    (within c) followed (goes_on c) agrees) c.follow.ensures.followed

-- src/streams.rt:74:1
pub returns-in-None-clause-sound : goal.returns-in-None-clause-sound
returns-in-None-clause-sound c = IfOk-weaker c.start.result (λ t. Started c.args.streams.now.items c.args.newest.now c.args.s.now t c.start.new.streams.items c.start.new.newest) _
    (λ t so taken sound. sound_started taken c.args.newest.now c.start.new.newest c.args.streams.now.items c.start.new.streams.items c.args.s.now t so sound)
    (started c.args.streams.now.items c.args.newest.now c.args.s.now c.start.new.streams.items c.start.new.newest c.start.result c.start.ensures.opened c.start.ensures.newest)

-- src/streams.rt:74:1
pub returns-in-None-clause-taken : goal.returns-in-None-clause-taken
returns-in-None-clause-taken c = IfOk-weaker c.start.result (λ t. Started c.args.streams.now.items c.args.newest.now c.args.s.now t c.start.new.streams.items c.start.new.newest) _
    (λ t so past agrees. told_started (labels past) c.args.newest.now c.start.new.newest c.args.streams.now.items c.start.new.streams.items c.args.s.now t so (opens c) agrees)
    (started c.args.streams.now.items c.args.newest.now c.args.s.now c.start.new.streams.items c.start.new.newest c.start.result c.start.ensures.opened c.start.ensures.newest)

-- src/streams.rt:74:1
pub returns-in-None-clause-agrees : goal.returns-in-None-clause-agrees
returns-in-None-clause-agrees c = IfOk-weaker c.start.result (λ t. Started c.args.streams.now.items c.args.newest.now c.args.s.now t c.start.new.streams.items c.start.new.newest) _
    (λ t so past agrees. agrees_started (labels past) c.args.newest.now c.start.new.newest c.args.streams.now.items c.start.new.streams.items c.args.s.now t so (opens c) agrees)
    (started c.args.streams.now.items c.args.newest.now c.args.s.now c.start.new.streams.items c.start.new.newest c.start.result c.start.ensures.opened c.start.ensures.newest)

-- src/streams.rt:74:1
pub returns-in-Some-clause-stepped : goal.returns-in-Some-clause-stepped
returns-in-Some-clause-stepped c = IfOk-weaker c.follow.result (λ t. Followed c.args.streams.now.items c.in-Some.number c.args.s.now t c.follow.new.streams.items) _
    (λ t followed. stepped_followed c.args.streams.now.items c.follow.new.streams.items c.args.s.now c.in-Some.number t (within c) followed) c.follow.ensures.followed

-- src/streams.rt:74:1
pub returns-in-None-clause-stepped : goal.returns-in-None-clause-stepped
returns-in-None-clause-stepped c = IfOk-weaker c.start.result (λ t. Started c.args.streams.now.items c.args.newest.now c.args.s.now t c.start.new.streams.items c.start.new.newest) _
    (λ t so. stepped_started c.args.newest.now c.start.new.newest c.args.streams.now.items c.start.new.streams.items c.args.s.now t so)
    (started c.args.streams.now.items c.args.newest.now c.args.s.now c.start.new.streams.items c.start.new.newest c.start.result c.start.ensures.opened c.start.ensures.newest)

pub follow-requires-clause-sound : goal.follow-requires-clause-sound
follow-requires-clause-sound c = (c.requires.0, λ old there. c.requires.1.each c.in-Some.number old there, omega (arith, c.requires.2))

pub returns-in-Some-clause-taken_from : goal.returns-in-Some-clause-taken_from
returns-in-Some-clause-taken_from c = IfOk-weaker c.follow.result (λ t. Followed c.args.streams.now.items c.in-Some.number c.args.s.now t c.follow.new.streams.items) _
    (λ t followed past agrees. told_followed_kept c.requires.0 (labels past) c.args.newest.now c.args.streams.now.items c.follow.new.streams.items c.args.s.now c.in-Some.number t
    (within c) followed (goes_on c) c.requires.1 agrees) c.follow.ensures.followed

pub returns-in-Some-clause-agrees_from : goal.returns-in-Some-clause-agrees_from
returns-in-Some-clause-agrees_from c = IfOk-weaker c.follow.result (λ t. Followed c.args.streams.now.items c.in-Some.number c.args.s.now t c.follow.new.streams.items) _
    (λ t followed past agrees. agrees_followed_kept c.requires.0 (labels past) c.args.newest.now c.args.streams.now.items c.follow.new.streams.items c.args.s.now c.in-Some.number t
    (within c) followed (goes_on c) c.requires.1 agrees) c.follow.ensures.followed

pub returns-in-None-clause-taken_from : goal.returns-in-None-clause-taken_from
returns-in-None-clause-taken_from c = IfOk-weaker c.start.result (λ t. Started c.args.streams.now.items c.args.newest.now c.args.s.now t c.start.new.streams.items c.start.new.newest) _
    (λ t so past agrees. told_started_kept (labels past) c.args.newest.now c.start.new.newest c.args.streams.now.items c.start.new.streams.items c.args.s.now t so (opens c) agrees)
    (started c.args.streams.now.items c.args.newest.now c.args.s.now c.start.new.streams.items c.start.new.newest c.start.result c.start.ensures.opened c.start.ensures.newest)

pub returns-in-None-clause-agrees_from : goal.returns-in-None-clause-agrees_from
returns-in-None-clause-agrees_from c = IfOk-weaker c.start.result (λ t. Started c.args.streams.now.items c.args.newest.now c.args.s.now t c.start.new.streams.items c.start.new.newest) _
    (λ t so past agrees. agrees_started_kept (labels past) c.args.newest.now c.start.new.newest c.args.streams.now.items c.start.new.streams.items c.args.s.now t so (opens c) agrees)
    (started c.args.streams.now.items c.args.newest.now c.args.s.now c.start.new.streams.items c.start.new.newest c.start.result c.start.ensures.opened c.start.ensures.newest)
