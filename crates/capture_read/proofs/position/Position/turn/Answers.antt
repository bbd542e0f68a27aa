use Rattle.capture_read.proofs.ReaderTurns.{stands_few}
use Rattle.capture_read.proofs.position.Position.turn.Goals as goal

pub returns-in_err-told-clause-took : goal.returns-in_err-told-clause-took
returns-in_err-told-clause-took g c = λ file past so. stands_few c.args.self.now (g.C.Capture.left c.args.capture.now) file past so

pub returns-in-Told-clause-took : goal.returns-in-Told-clause-took
returns-in-Told-clause-took g c = λ file past so. stands_few c.args.self.now (g.C.Capture.left c.args.capture.now) file past so

pub returns-in-Told-clause-turns : goal.returns-in-Told-clause-turns
returns-in-Told-clause-turns g c = (rw c.in-Told.is at c.in_ok-told.ensures.sees) (g.C.Capture.left c.args.capture.now)

pub returns-in-Told-clause-counts : goal.returns-in-Told-clause-counts
returns-in-Told-clause-counts g c = rw c.in-Told.is at c.in_ok-told.ensures.counts

pub need_more-requires-clause-needs : goal.need_more-requires-clause-needs
need_more-requires-clause-needs g c =
    let sees = rw c.in-Need.is at c.in_ok-told.ensures.sees in
    rw sees.0 sees.3

pub need_more-requires-clause-few : goal.need_more-requires-clause-few
need_more-requires-clause-few g c =
    let sees = rw c.in-Need.is at c.in_ok-told.ensures.sees in
    rw sees.0 sees.2

pub need_more-requires-clause-open : goal.need_more-requires-clause-open
need_more-requires-clause-open g c =
    let sees = rw c.in-Need.is at c.in_ok-told.ensures.sees in
    rw sees.0 sees.1

pub returns-in-Need-clause-turns : goal.returns-in-Need-clause-turns
returns-in-Need-clause-turns g c =
    rw (← (rw c.in-Need.is at c.in_ok-told.ensures.sees).0) (c.need_more.ensures.turns c.look_on.new.found)

pub returns-in-Need-clause-counts : goal.returns-in-Need-clause-counts
returns-in-Need-clause-counts g c =
    rw (← (rw c.in-Need.is at c.in_ok-told.ensures.sees).0) c.need_more.ensures.counts

pub returns-in-Need-clause-fails : goal.returns-in-Need-clause-fails
returns-in-Need-clause-fails g c =
    rw (← (rw c.in-Need.is at c.in_ok-told.ensures.sees).0) c.need_more.ensures.fails

pub returns-in-Need-clause-took : goal.returns-in-Need-clause-took
returns-in-Need-clause-took g c =
    rw (← (rw c.in-Need.is at c.in_ok-told.ensures.sees).0) c.need_more.ensures.took
