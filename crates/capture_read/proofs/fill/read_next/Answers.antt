use Rattle.std.proofs.Common.{◌≡◌, ◌+◌, length, take, refl, arith}
use Rattle.std.proofs.lemmas.List.{length-take-le}
use Rattle.capture_read.proofs.FillSteps.{next_beyond}
use Rattle.capture_read.proofs.fill.read_next.Goals as goal

pub returns-in-Ok-clause-read : goal.returns-in-Ok-clause-read
returns-in-Ok-clause-read g c =
    let size : length (take c.args.at c.args.room.now.items) ≡ c.args.at = length-take-le c.args.at c.args.room.now.items c.requires.inside in
    next_beyond (take c.args.at c.args.room.now.items) _ c.in-Ok.seen (c.args.at + 1) c.args.most (g.C.Capture.left c.args.capture.now) (g.C.Capture.left c.read_beyond.new.capture)
    (omega (arith, size)) refl c.in-Ok.ensures.seen (omega (arith, size, c.if-at-most.true))
