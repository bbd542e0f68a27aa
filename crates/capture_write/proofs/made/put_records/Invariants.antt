use Rattle.capture_write.proofs.Sending.{IsDrawn}
use Rattle.capture_write.proofs.made.put_records.Given as goal

abbrev pub invariant-frames : goal.invariant-frames
invariant-frames l = IsDrawn l.start l.index l.fn.out.items l.out.items l.generator l.sent
