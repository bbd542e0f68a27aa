-- Lemmas on reads that move known bytes.
use Rattle.std.proofs.Common.{◌≡◌, ℕ, ◌≤◌, List, ◌++◌, Option, Some, None, length, take, drop, refl, sym, take-append-drop, subst}
use Rattle.std.proofs.lemmas.List.{length-take-le}
use Rattle.std.proofs.Math.Seq.{take-append_seam}
use Rattle.std.specs.Io.KnownBytes.{Consumes, IsAtEnd}
use Rattle.pk_outside.specs.Outside.{Moves}

-- the front of what begins with a front
take_front : (n : ℕ) (bytes rest : List ℕ) → n ≤ length bytes → take n (take n bytes ++ rest) ≡ take n bytes
take_front n bytes rest fits =
    let P : ℕ → Type 0 = λ k. take k (take n bytes ++ rest) ≡ take n bytes in
    subst P (length-take-le n bytes fits) (take-append_seam (take n bytes) rest)

-- what a read put into its room was taken off the bytes that were left
pub moves_consumes : (left left' : Option (List ℕ)) (room room' : List ℕ) (n : ℕ) → Moves left left' room room' n → Consumes left left' (take n room')
moves_consumes None left' room room' n moves = tt
moves_consumes (Some bytes) left' room room' n moves =
    rw (moves.1, moves.2, take_front n bytes (drop n room) moves.0) (sym (take-append-drop n bytes))

-- a read that gave nothing was at the end
pub moves_at_end : (left left' : Option (List ℕ)) (room room' : List ℕ) → Moves left left' room room' 0 → IsAtEnd left
moves_at_end None left' room room' moves = tt
moves_at_end (Some bytes) left' room room' moves = moves.3.0 refl
