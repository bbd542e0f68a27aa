use Rattle.std.proofs.Common.{arith}
use Rattle.capture_read.proofs.Limit.{capture_of-take}
use Rattle.capture_read.proofs.held_part.telling_bytes.Goals as goal

pub returns-then-file-most-clause-same : goal.returns-then-file-most-clause-same
returns-then-file-most-clause-same c = capture_of-take _ _ (omega arith)
