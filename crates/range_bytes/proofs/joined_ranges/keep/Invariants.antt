use Rattle.std.proofs.Common.{◌-◌, length}
use Rattle.range_bytes.proofs.Joining.{IsKeeping}
use Rattle.range_bytes.proofs.joined_ranges.keep.Given as goal

abbrev pub invariant-loop-count : goal.invariant-loop-count
invariant-loop-count l = IsKeeping l.fn.rest l.start l.bytes l.marks l.at l.count l.rest

abbrev pub decreases-loop-count : goal.decreases-loop-count
decreases-loop-count l = length l.marks - l.count
