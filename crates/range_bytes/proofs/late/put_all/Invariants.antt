use Rattle.std.proofs.Common.{◌≡◌, ◌≤◌, ◌-◌, length, take}
use Rattle.range_bytes.specs.Pieces.{with_pieces}
use Rattle.range_bytes.proofs.late.put_all.Given as goal

abbrev pub invariant-loop-count : goal.invariant-loop-count
invariant-loop-count l = (l.count ≤ length l.pieces) × (l.late.entries ≡ with_pieces l.fn.late.entries (take l.count l.pieces))

abbrev pub decreases-loop-count : goal.decreases-loop-count
decreases-loop-count l = length l.pieces - l.count
