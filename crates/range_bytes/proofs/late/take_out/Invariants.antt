use Rattle.std.proofs.Common.{◌≡◌, ◌≤◌, ℕ, List, length, take}
use Rattle.range_bytes.specs.declared.piece.Piece.{Piece}
use Rattle.range_bytes.specs.Pieces.{AreFree, with_pieces}
use Rattle.range_bytes.proofs.late.take_out.Given as goal

abbrev pub invariant-loop-count : goal.invariant-loop-count
invariant-loop-count l =
    (l.count ≤ length l.pieces)
    × ((before : List (ℕ × Piece)) → AreFree before l.pieces → l.fn.late.entries ≡ with_pieces before l.pieces → l.late.entries ≡ with_pieces before (take l.count l.pieces))

abbrev pub decreases-loop-count : goal.decreases-loop-count
decreases-loop-count l = l.count
