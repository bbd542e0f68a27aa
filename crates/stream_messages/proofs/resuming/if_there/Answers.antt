use Rattle.std.proofs.Common.{arith}
use Rattle.stream_messages.proofs.GoingLemmas.{goes_there, goes_body}
use Rattle.stream_messages.proofs.resuming.if_there.Goals as goal

pub returns-then-shape-bytes : goal.returns-then-shape-bytes
returns-then-shape-bytes c = goes_there c.args.shape c.args.bytes.now (omega arith)

pub returns-else-shape-bytes : goal.returns-else-shape-bytes
returns-else-shape-bytes c = goes_body c.args.shape c.args.bytes.now (omega arith)
