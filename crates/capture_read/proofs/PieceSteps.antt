-- How the records or blocks of a capture file are read, one after the other.
use Rattle.std.proofs.Common.{◌≡◌, ◌<◌, ◌≤◌, ℕ, zero, suc, ◌+◌, ◌-◌, Bool, List, [], ◌∷◌, length, drop, refl, sym, ◌∙◌, ap, arith}
use Rattle.std.proofs.lemmas.List.{drop-drop}
use Rattle.capture_read.specs.Capture.{Reading, pieces, after_piece, with_frame, frame_of, ended}
use Rattle.capture_read.specs.Ending.{end_of_bytes}
use Rattle.capture_read.specs.Pieces.{where_left, IsPieceWithin}
use Rattle.capture_read.specs.State.{Reads}
use Rattle.capture_read.specs.declared.piece.Piece.{Piece}
use Rattle.capture_read.specs.declared.piece.Piece.TheVariants.{End, Packet, Passed}

-- bytes that are passed over
pub pieces-skip : {S : Type 0} (read : S → ℕ → List ℕ → Piece) (behind : S → List ℕ → S) (large : Bool) (known : S) (number at n : ℕ) (bytes : List ℕ)
    → n ≤ length bytes → pieces read behind large known number at n bytes ≡ pieces read behind large known number (at + n) 0 (drop n bytes)
unfolding pieces
pieces-skip read behind large known number at zero bytes h = ap (λ (k : ℕ). pieces read behind large known number k 0 bytes) (omega arith)
pieces-skip read behind large known number at (suc n) [] h = absurd (omega arith)
pieces-skip read behind large known number at (suc n) (b ∷ rest) h =
    pieces-skip read behind large known number (suc at) n rest (omega arith)
    ∙ ap (λ (k : ℕ). pieces read behind large known number k 0 (drop n rest)) (omega arith)

-- bytes passed over from the second on
pub pieces-skip_after : {S : Type 0} (read : S → ℕ → List ℕ → Piece) (behind : S → List ℕ → S) (large : Bool) (known : S) (number at n b : ℕ) (rest : List ℕ)
    → 0 < n → n ≤ suc (length rest)
    → pieces read behind large known number (suc at) (n - 1) rest ≡ pieces read behind large known number (at + n) 0 (drop n (b ∷ rest))
pieces-skip_after read behind large known number at zero b rest some within = absurd (omega arith)
pieces-skip_after read behind large known number at (suc n) b rest some within =
    ap (λ (k : ℕ). pieces read behind large known number (suc at) k rest) (omega arith)
    ∙ pieces-skip read behind large known number (suc at) n rest (omega arith)
    ∙ ap (λ (k : ℕ). pieces read behind large known number k 0 (drop n rest)) (omega arith)

-- no byte is left
pub pieces-end : {S : Type 0} (read : S → ℕ → List ℕ → Piece) (behind : S → List ℕ → S) (large : Bool) (known : S) (number at : ℕ) (bytes : List ℕ)
    → length bytes ≡ 0 → pieces read behind large known number at 0 bytes ≡ ended (end_of_bytes large)
unfolding pieces
pieces-end read behind large known number at [] none = refl
pieces-end read behind large known number at (b ∷ rest) none = absurd (omega arith)

-- a record or block, and what follows
pub pieces-some : {S : Type 0} (read : S → ℕ → List ℕ → Piece) (behind : S → List ℕ → S) (large : Bool) (known : S) (number at b : ℕ) (rest : List ℕ)
    → IsPieceWithin (read known at (b ∷ rest)) (suc (length rest))
    → pieces read behind large known number at 0 (b ∷ rest)
    ≡ after_piece number (b ∷ rest) (λ next size. pieces read behind large (behind known (b ∷ rest)) next (at + size) 0 (drop size (b ∷ rest))) (read known at (b ∷ rest))
unfolding pieces
pieces-some read behind large known number at b rest within =
    elim (read known at (b ∷ rest))
    as (λ piece. IsPieceWithin piece (suc (length rest))
    → after_piece number (b ∷ rest) (λ next size. pieces read behind large (behind known (b ∷ rest)) next (suc at) (size - 1) rest) piece
    ≡ after_piece number (b ∷ rest) (λ next size. pieces read behind large (behind known (b ∷ rest)) next (at + size) 0 (drop size (b ∷ rest))) piece) [
      | End ending ↦ λ within. refl
      | Packet found ↦ λ within. ap (with_frame (frame_of number found (b ∷ rest)))
          (pieces-skip_after read behind large (behind known (b ∷ rest)) (suc number) at found.end b rest within.0 within.1)
      | Passed size ↦ λ within. pieces-skip_after read behind large (behind known (b ∷ rest)) number at size b rest within.0 within.1
    ] within

-- the same at a place of the bytes that are looked at, by the bytes from there on
reads-from : {S : Type 0} (read : S → ℕ → List ℕ → Piece) (behind : S → List ℕ → S) (large : Bool) (known : S) (at : ℕ) (held bytes : List ℕ)
    → bytes ≡ drop at held → IsPieceWithin (where_left large bytes (read known at bytes)) (length bytes)
    → Reads (λ next place. pieces read behind large known next place 0 (drop place held))
    (λ next place. pieces read behind large (behind known bytes) next place 0 (drop place held)) at bytes (where_left large bytes (read known at bytes))
reads-from read behind large known at held [] is within = λ number. rw (sym is) (pieces-end read behind large known number at [] refl)
reads-from read behind large known at held (b ∷ rest) is within =
    elim (read known at (b ∷ rest))
    as (λ piece. ((number : ℕ) → pieces read behind large known number at 0 (drop at held)
    ≡ after_piece number (b ∷ rest) (λ next size. pieces read behind large (behind known (b ∷ rest)) next (at + size) 0 (drop size (b ∷ rest))) piece)
    → Reads (λ next place. pieces read behind large known next place 0 (drop place held))
    (λ next place. pieces read behind large (behind known (b ∷ rest)) next place 0 (drop place held)) at (b ∷ rest) piece) [
      | End ending ↦ λ steps number. steps number
      | Packet found ↦ λ steps number. steps number ∙ ap (λ (left : List ℕ). with_frame (frame_of number found (b ∷ rest))
          (pieces read behind large (behind known (b ∷ rest)) (suc number) (at + found.end) 0 left)) (ap (drop found.end) is ∙ drop-drop found.end at held)
      | Passed size ↦ λ steps number. steps number
          ∙ ap (λ (left : List ℕ). pieces read behind large (behind known (b ∷ rest)) number (at + size) 0 left) (ap (drop size) is ∙ drop-drop size at held)
    ] (λ number. rw (sym is) (pieces-some read behind large known number at b rest within))

pub pieces-reads : {S : Type 0} (read : S → ℕ → List ℕ → Piece) (behind : S → List ℕ → S) (large : Bool) (known : S) (at : ℕ) (held : List ℕ)
    → IsPieceWithin (where_left large (drop at held) (read known at (drop at held))) (length (drop at held))
    → Reads (λ next place. pieces read behind large known next place 0 (drop place held))
    (λ next place. pieces read behind large (behind known (drop at held)) next place 0 (drop place held)) at (drop at held)
    (where_left large (drop at held) (read known at (drop at held)))
pieces-reads read behind large known at held within = reads-from read behind large known at held (drop at held) refl within

-- the same may follow in two ways
after_piece-same : (number : ℕ) (bytes : List ℕ) (f g : ℕ → ℕ → Reading) → ((next size : ℕ) → f next size ≡ g next size)
    → (piece : Piece) → after_piece number bytes f piece ≡ after_piece number bytes g piece
after_piece-same number bytes f g same (End ending) = refl
after_piece-same number bytes f g same (Packet found) = ap (with_frame (frame_of number found bytes)) (same (suc number) found.end)
after_piece-same number bytes f g same (Passed size) = same number size

-- two ways to keep what is known by the records or blocks before, of which one follows the other
pub pieces-same : {S T : Type 0} (kept : S → T) (read : S → ℕ → List ℕ → Piece) (behind : S → List ℕ → S)
    (kept_read : T → ℕ → List ℕ → Piece) (kept_behind : T → List ℕ → T)
    → ((known : S) (at : ℕ) (bytes : List ℕ) → kept_read (kept known) at bytes ≡ read known at bytes)
    → ((known : S) (bytes : List ℕ) → kept_behind (kept known) bytes ≡ kept (behind known bytes))
    → (large : Bool) (known : S) (number at skip : ℕ) (bytes : List ℕ)
    → pieces kept_read kept_behind large (kept known) number at skip bytes ≡ pieces read behind large known number at skip bytes
unfolding pieces
pieces-same kept read behind kept_read kept_behind reads follows large known number at (suc skip) [] = refl
pieces-same kept read behind kept_read kept_behind reads follows large known number at (suc skip) (b ∷ rest) =
    pieces-same kept read behind kept_read kept_behind reads follows large known number (suc at) skip rest
pieces-same kept read behind kept_read kept_behind reads follows large known number at zero [] = refl
pieces-same {S} {T} kept read behind kept_read kept_behind reads follows large known number at zero (b ∷ rest) =
    let later : (next size : ℕ) → pieces kept_read kept_behind large (kept_behind (kept known) (b ∷ rest)) next (suc at) (size - 1) rest
    ≡ pieces read behind large (behind known (b ∷ rest)) next (suc at) (size - 1) rest =
    λ next size. ap (λ (t : T). pieces kept_read kept_behind large t next (suc at) (size - 1) rest) (follows known (b ∷ rest))
    ∙ pieces-same kept read behind kept_read kept_behind reads follows large (behind known (b ∷ rest)) next (suc at) (size - 1) rest in
    ap (λ (piece : Piece). after_piece number (b ∷ rest)
    (λ next size. pieces kept_read kept_behind large (kept_behind (kept known) (b ∷ rest)) next (suc at) (size - 1) rest) piece)
    (reads known at (b ∷ rest))
    ∙ after_piece-same number (b ∷ rest)
    (λ next size. pieces kept_read kept_behind large (kept_behind (kept known) (b ∷ rest)) next (suc at) (size - 1) rest)
    (λ next size. pieces read behind large (behind known (b ∷ rest)) next (suc at) (size - 1) rest) later (read known at (b ∷ rest))
