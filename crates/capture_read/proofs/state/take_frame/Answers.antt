use Rattle.std.proofs.Common.{arith}
use Rattle.capture_read.proofs.Limit.{length-held_part}
use Rattle.capture_read.proofs.state.take_frame.Goals as goal

pub overflow_add-place : goal.overflow_add-place
overflow_add-place c = omega (arith, length-held_part c.args.file.now, c.loop-ending.invariant.reached.few, c.loop-ending.invariant.reached.within)
