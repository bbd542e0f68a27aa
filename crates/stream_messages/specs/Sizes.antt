-- The bytes of a body's chunks.
use Rattle.std.specs.Prelude.{ℕ, ◌+◌, List, [], ◌∷◌}
use Rattle.stream_messages.specs.declared.shape.Piece.{Piece}

abbrev pub size_of_pieces : List Piece → ℕ
size_of_pieces [] = 0
size_of_pieces (piece ∷ pieces) = piece.len + size_of_pieces pieces
