use Rattle.std.proofs.Common.{◌≡◌, ◌++◌}
use Rattle.capture_write.specs.MadeFrames as frames
use Rattle.capture_write.proofs.made_frames.put_requests.Given as goal

abbrev pub invariant-places : goal.invariant-places
invariant-places l = l.out.items ≡ l.fn.out.items ++ frames.requests l.fn.before l.place
