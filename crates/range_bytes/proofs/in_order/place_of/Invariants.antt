use Rattle.std.proofs.Common.{◌-◌, ◌≡◌, ℕ, ◌<◌, ◌≤◌, length, Some, ◌+◌}
use Rattle.std.specs.List.{slice_get}
use Rattle.range_bytes.specs.declared.in_order.Mark.{Mark}
use Rattle.range_bytes.proofs.in_order.place_of.Given as goal

abbrev pub invariant-loop-low : goal.invariant-loop-low
invariant-loop-low l =
    (l.low ≤ l.high) × (l.high ≤ length l.marks)
    × ((last : ℕ) (mark : Mark) → last + 1 ≡ l.low → slice_get l.marks last ≡ Some mark → mark.end ≤ l.at)
    × ((mark : Mark) → slice_get l.marks l.high ≡ Some mark → l.at < mark.end)

abbrev pub decreases-loop-low : goal.decreases-loop-low
decreases-loop-low l = l.high - l.low
