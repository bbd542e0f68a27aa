use Rattle.std.proofs.Common.{◌-◌, ◌≡◌, ℕ, ◌<◌, ◌≤◌, length, Some, ◌+◌}
use Rattle.std.specs.List.{slice_get}
use Rattle.range_bytes.specs.declared.piece.Piece.{Piece}
use Rattle.range_bytes.proofs.row.place_of.Given as goal

abbrev pub invariant-loop-low : goal.invariant-loop-low
invariant-loop-low l =
    (l.low ≤ l.high) × (l.high ≤ length l.row)
    × ((last : ℕ) (piece : Piece) → last + 1 ≡ l.low → slice_get l.row last ≡ Some piece → piece.start ≤ l.at)
    × ((piece : Piece) → slice_get l.row l.high ≡ Some piece → l.at < piece.start)

abbrev pub decreases-loop-low : goal.decreases-loop-low
decreases-loop-low l = l.high - l.low
