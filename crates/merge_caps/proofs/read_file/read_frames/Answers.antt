use Rattle.std.proofs.Common.{arith}
use Rattle.merge_caps.specs.Reading.{so_far}
use Rattle.merge_caps.proofs.FileSteps.{limit_small, read_ended}
use Rattle.merge_caps.proofs.read_file.read_frames.Goals as goal

pub take_frame-requires : goal.take_frame-requires
take_frame-requires g c =
    let counts = rw c.in-Ok-Frame.field-0-is at c.in-Ok-Frame.ensures.counts in
    omega (arith, limit_small, c.requires.few, c.loop-frame.invariant.captured, c.next_frame.ensures.limit, counts.bytes)

pub returns-in-Ok-End-clause-read : goal.returns-in-Ok-End-clause-read
returns-in-Ok-End-clause-read g c =
    read_ended (so_far c.args.readings.now) (so_far c.loop-frame.readings) c.loop-frame.latest c.loop-frame.reader c.next_frame.new.self
    (g.C.Capture.left c.loop-frame.capture) (g.C.Capture.left c.next_frame.new.capture) (g.C.Capture.left c.args.capture.now) c.in-Ok-End.ending
    c.loop-frame.invariant.read (rw c.in-Ok-End.field-0-is at c.in-Ok-End.ensures.answers) c.loop-frame.invariant.endings
