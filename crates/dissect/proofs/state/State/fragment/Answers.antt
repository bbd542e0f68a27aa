use Rattle.std.proofs.Common.{arith}
use Rattle.dissect.proofs.Opens.{adds-ok}
use Rattle.dissect.proofs.Shrinking.{bytes_short}
use Rattle.dissect.proofs.state.State.fragment.Goals as goal

pub piece-requires-clause-bytes : goal.piece-requires-clause-bytes
piece-requires-clause-bytes c = bytes_short c.args.tree.now.buffers c.args.span c.in_ok-bytes.bytes c.in_ok-bytes.ensures

pub returns-else-head-clause-adds : goal.returns-else-head-clause-adds
returns-else-head-clause-adds c = adds-ok 0 c.args.span.len c.args.self.now c.rest.new.self c.rest.result (omega arith) c.rest.ensures.adds
