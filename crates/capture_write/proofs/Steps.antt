-- A record or block in front of others.
use Rattle.std.proofs.Common.{◌≡◌, ◌<◌, ◌≤◌, ℕ, suc, ◌+◌, Bool, false, take, List, [], ◌∷◌, length, drop, refl, sym, ap, ◌∙◌, subst, arith}
use Rattle.pk_base.specs.declared.found.Found.{Found}
use Rattle.std.specs.Prelude.{nat_lt}
use Rattle.std.proofs.lemmas.Bool.Decides.{nat_tests}
use Rattle.std.proofs.lemmas.List.{take_all}
use Rattle.pk_base.specs.Limits.{file_limit}
use Rattle.capture_read.specs.Capture.{capture_of, reading_of, pieces, after_piece, with_frame, frame_of}
use Rattle.capture_read.specs.Pieces.{IsPieceWithin}
use Rattle.capture_read.specs.declared.piece.Piece.{Piece}
use Rattle.capture_read.specs.declared.piece.Piece.TheVariants.{Packet, Passed}
use Rattle.capture_read.proofs.PieceSteps.{pieces-some}

-- one with a frame
pub pieces-packet : {S : Type 0} (read : S → ℕ → List ℕ → Piece) (behind : S → List ℕ → S) (large : Bool) (known : S) (number at : ℕ) (bytes : List ℕ) (found : Found)
    → read known at bytes ≡ Packet found → 0 < found.end → found.end ≤ length bytes → found.start + found.len ≤ found.end
    → pieces read behind large known number at 0 bytes
    ≡ with_frame (frame_of number found bytes) (pieces read behind large (behind known bytes) (suc number) (at + found.end) 0 (drop found.end bytes))
pieces-packet read behind large known number at [] found is some ends within = absurd (omega arith)
pieces-packet read behind large known number at (b ∷ rest) found is some ends within =
    let inside : IsPieceWithin (Packet found) (suc (length rest)) = (some, ends, within) in
    pieces-some read behind large known number at b rest (subst (λ (piece : Piece). IsPieceWithin piece (suc (length rest))) (sym is) inside)
    ∙ ap (after_piece number (b ∷ rest) (λ next size. pieces read behind large (behind known (b ∷ rest)) next (at + size) 0 (drop size (b ∷ rest)))) is

-- one without a frame
pub pieces-passed : {S : Type 0} (read : S → ℕ → List ℕ → Piece) (behind : S → List ℕ → S) (large : Bool) (known : S) (number at : ℕ) (bytes : List ℕ) (size : ℕ)
    → read known at bytes ≡ Passed size → 0 < size → size ≤ length bytes
    → pieces read behind large known number at 0 bytes ≡ pieces read behind large (behind known bytes) number (at + size) 0 (drop size bytes)
pieces-passed read behind large known number at [] size is some ends = absurd (omega arith)
pieces-passed read behind large known number at (b ∷ rest) size is some ends =
    let inside : IsPieceWithin (Passed size) (suc (length rest)) = (some, ends) in
    pieces-some read behind large known number at b rest (subst (λ (piece : Piece). IsPieceWithin piece (suc (length rest))) (sym is) inside)
    ∙ ap (after_piece number (b ∷ rest) (λ next length. pieces read behind large (behind known (b ∷ rest)) next (at + length) 0 (drop length (b ∷ rest)))) is

-- a file that isn't too large is looked at whole
pub capture-whole : (file : List ℕ) → length file ≤ file_limit → capture_of file ≡ reading_of false file
unfolding capture_of
capture-whole file small =
    let large : nat_lt file_limit (length file) ≡ false = grind (arith, nat_tests) in
    let held : take file_limit file ≡ file = take_all file_limit file small in
    rw (large, held) refl
