-- What is read of a piece that holds a position.
use Rattle.std.proofs.Common.{◌≡◌, ℕ, zero, suc, ◌+◌, ◌-◌, ◌<◌, ◌≤◌, min, List, [], ◌∷◌, ◌++◌, length, slice_range, refl, sym, ap, ◌∙◌, inl, inr, arith, take, drop}
use Rattle.std.specs.FinMap.{get}
use Rattle.std.proofs.lemmas.Bool.{cases_lt}
use Rattle.range_bytes.specs.declared.piece.Piece.{Piece}
use Rattle.range_bytes.specs.Held.{Held, frame_of, put_number, put_numbers, bytes_at, frames_at}
use Rattle.range_bytes.specs.Pieces.{IsCover}
use Rattle.range_bytes.proofs.Runs.{bytes_at-append, bytes_at-run}
use Rattle.range_bytes.proofs.PieceLemmas.{cell_there}
use Rattle.range_bytes.proofs.Ascending.{put_twice, put_push}

pub cover_bytes : (held : Held) (at to : ℕ) (piece : Piece) → IsCover held at piece → at ≤ to → to ≤ piece.end
    → slice_range piece.bytes (at - piece.start) (to - piece.start) ≡ bytes_at held at (to - at)
cover_bytes held at to piece cover order within =
    let sized : piece.start + length piece.bytes ≡ piece.end = cover.sized in
    let low : piece.start ≤ at = cover.low in
    let size : (to - piece.start) - (at - piece.start) ≡ to - at = omega arith in
    ap (λ (n : ℕ). take n (drop (at - piece.start) piece.bytes)) size
    ∙ sym (bytes_at-run held piece.bytes piece.start piece.frame at (to - at) low (omega arith) (λ q a b. cover.is q (omega arith) (omega arith)))

pub bytes_more : (held : Held) (from at to : ℕ) (piece : Piece) (bytes part all : List ℕ) → IsCover held at piece → from ≤ at → at ≤ to → to ≤ piece.end
    → bytes ≡ bytes_at held from (at - from) → part ≡ slice_range piece.bytes (at - piece.start) (to - piece.start) → all ≡ bytes ++ part → all ≡ bytes_at held from (to - from)
bytes_more held from at to piece bytes part all cover begun order within so_far part_is all_is =
    let whole : (at - from) + (to - at) ≡ to - from = omega arith in
    let place : from + (at - from) ≡ at = omega arith in
    all_is
    ∙ ap (λ (xs : List ℕ). xs ++ part) so_far
    ∙ ap (λ (xs : List ℕ). bytes_at held from (at - from) ++ xs) (part_is ∙ cover_bytes held at to piece cover order within)
    ∙ sym (ap (bytes_at held from) (sym whole) ∙ bytes_at-append held from (at - from) (to - at)
    ∙ ap (λ (p : ℕ). bytes_at held from (at - from) ++ bytes_at held p (to - at)) place)

-- some positions that one frame brought, and then others
frames_at-run : (held : Held) (frame at n m : ℕ) → ((q : ℕ) → at ≤ q → q < at + suc n → frame_of (get held q) ≡ frame)
    → frames_at held at (suc n + m) ≡ put_number frame (frames_at held (at + suc n) m)
frames_at-run held frame at zero m one =
    let count : suc zero + m ≡ suc m = omega arith in
    rw (count, one at (omega arith) (omega arith)) refl
frames_at-run held frame at (suc n) m one =
    let count : suc (suc n) + m ≡ suc (suc n + m) = omega arith in
    let place : (at + 1) + suc n ≡ at + suc (suc n) = omega arith in
    let rest : frames_at held (at + 1) (suc n + m) ≡ put_number frame (frames_at held (at + suc (suc n)) m) =
    frames_at-run held frame (at + 1) n m (λ q a b. one q (omega arith) (omega arith)) ∙ ap (λ (p : ℕ). put_number frame (frames_at held p m)) place in
    rw (count, one at (omega arith) (omega arith), rest) (put_twice frame (frames_at held (at + suc (suc n)) m))

frames_past : (held : Held) (end to : ℕ) → frames_at held (min end to) (to - min end to) ≡ frames_at held end (to - end)
frames_past held end to = elim (cases_lt to end) [
  | inl less ↦
      let none : to - min end to ≡ 0 = omega arith in
      let nothing : to - end ≡ 0 = omega arith in
      rw (none, nothing) refl
  | inr more ↦ let same : min end to ≡ end = omega arith in ap (λ (p : ℕ). frames_at held p (to - p)) same
]

pub frames_more : (held : Held) (at to : ℕ) (piece : Piece) (frames : List ℕ) (total : List ℕ) → IsCover held at piece → at < to
    → put_numbers frames (frames_at held at (to - at)) ≡ total → put_numbers (frames ++ piece.frame ∷ []) (frames_at held piece.end (to - piece.end)) ≡ total
frames_more held at to piece frames total cover less so_far =
    let low : piece.start ≤ at = cover.low in
    let high : at < piece.end = cover.high in
    let end = min piece.end to in
    let n = end - (at + 1) in
    let count : suc n + (to - end) ≡ to - at = omega arith in
    let place : at + suc n ≡ end = omega arith in
    let run : frames_at held at (suc n + (to - end)) ≡ put_number piece.frame (frames_at held (at + suc n) (to - end)) =
    frames_at-run held piece.frame at n (to - end) (λ q a b.
    ap frame_of (cover.is q (omega arith) (omega arith) ∙ cell_there piece q cover.sized (omega arith) (omega arith))) in
    let step : frames_at held at (to - at) ≡ put_number piece.frame (frames_at held piece.end (to - piece.end)) =
    ap (frames_at held at) (sym count) ∙ run ∙ ap (λ (p : ℕ). put_number piece.frame (frames_at held p (to - end))) place
    ∙ ap (put_number piece.frame) (frames_past held piece.end to) in
    put_push frames piece.frame (frames_at held piece.end (to - piece.end)) ∙ ap (put_numbers frames) (sym step) ∙ so_far
