-- What pieces that stand apart hold.
use Rattle.std.proofs.Common.{◌≡◌, ℕ, zero, suc, ◌+◌, ◌-◌, ◌<◌, ◌≤◌, List, [], ◌∷◌, ◌++◌, length, slice_index, slice_range, Option, Some, None, is_some, refl, sym, ap, ◌∙◌, subst, arith, drop}
use Rattle.std.specs.List.{slice_get}
use Rattle.std.specs.Option.{option_or}
use Rattle.std.specs.Ordering.{nat_cmp}
use Rattle.std.specs.FinMap.{get, empty, get-empty}
use Rattle.std.proofs.lemmas.List.{length-take-le, length-drop, get_or-take, get_or-drop}
use Rattle.range_bytes.specs.declared.piece.Piece.{Piece}
use Rattle.range_bytes.specs.Held.{Cell, Held, put_run, run_cell}
use Rattle.range_bytes.specs.Pieces.{put_pieces, held_of, IsSized, IsApart}
use Rattle.range_bytes.proofs.Runs.{or_none, or_assoc, run_cell-in, run_cell-before, run_cell-after, get-put_run, none_is_not_some, some_is}

abbrev pub cell : Piece → ℕ → Option Cell
cell piece q = run_cell piece.start piece.bytes piece.frame q

-- what the first of some pieces that covers a position has there
abbrev pub found : List Piece → ℕ → Option Cell
found [] q = None
found (piece ∷ pieces) q = option_or (cell piece q) (found pieces q)

pub get-put_pieces : (held : Held) (pieces : List Piece) (q : ℕ) → get (put_pieces held pieces) q ≡ option_or (get held q) (found pieces q)
get-put_pieces held [] q = sym (or_none (get held q))
get-put_pieces held (piece ∷ pieces) q =
    get-put_pieces (put_run held piece.start piece.bytes piece.frame) pieces q
    ∙ ap (λ (o : Option Cell). option_or o (found pieces q)) (get-put_run held piece.start piece.bytes piece.frame q)
    ∙ or_assoc (get held q) (cell piece q) (found pieces q)

pub get-held_of : (pieces : List Piece) (q : ℕ) → get (held_of pieces) q ≡ found pieces q
get-held_of pieces q = get-put_pieces empty pieces q ∙ ap (λ (o : Option Cell). option_or o (found pieces q)) (get-empty nat_cmp q)

pub put_pieces-push : (held : Held) (pieces : List Piece) (piece : Piece) → put_pieces held (pieces ++ piece ∷ []) ≡ put_run (put_pieces held pieces) piece.start piece.bytes piece.frame
put_pieces-push held [] piece = refl
put_pieces-push held (first ∷ pieces) piece = put_pieces-push (put_run held first.start first.bytes first.frame) pieces piece

pub found-append : (xs ys : List Piece) (q : ℕ) → found (xs ++ ys) q ≡ option_or (found xs q) (found ys q)
found-append [] ys q = refl
found-append (x ∷ xs) ys q = ap (option_or (cell x q)) (found-append xs ys q) ∙ sym (or_assoc (cell x q) (found xs q) (found ys q))

-- what is held by some pieces and by others
pub get-both : (xs ys : List Piece) (q : ℕ) → get (held_of (xs ++ ys)) q ≡ option_or (get (held_of xs) q) (get (held_of ys) q)
get-both xs ys q =
    get-held_of (xs ++ ys) q ∙ found-append xs ys q
    ∙ ap (λ (o : Option Cell). option_or o (found ys q)) (sym (get-held_of xs q))
    ∙ ap (option_or (get (held_of xs) q)) (sym (get-held_of ys q))

-- pieces that stand apart
pub apart_order : (low : ℕ) (pieces : List Piece) (high : ℕ) → IsApart low pieces high → low ≤ high
apart_order low [] high apart = apart
apart_order low (piece ∷ pieces) high apart = omega (arith, apart.0, apart.2, apart_order piece.end pieces high apart.3)

pub apart_lower : (low lower : ℕ) (pieces : List Piece) (high : ℕ) → IsApart low pieces high → lower ≤ low → IsApart lower pieces high
apart_lower low lower [] high apart less = omega (arith, apart)
apart_lower low lower (piece ∷ pieces) high apart less = (omega (arith, apart.0), apart.1, apart.2, apart.3)

pub apart_higher : (low : ℕ) (pieces : List Piece) (high higher : ℕ) → IsApart low pieces high → high ≤ higher → IsApart low pieces higher
apart_higher low [] high higher apart more = omega (arith, apart)
apart_higher low (piece ∷ pieces) high higher apart more = (apart.0, apart.1, apart.2, apart_higher piece.end pieces high higher apart.3 more)

pub apart_push : (low : ℕ) (pieces : List Piece) (high : ℕ) (piece : Piece) → IsApart low pieces high → high ≤ piece.start → IsSized piece → piece.start < piece.end → IsApart low (pieces ++ piece ∷ []) piece.end
apart_push low [] high piece apart behind sized some = (omega (arith, apart), sized, some, omega arith)
apart_push low (first ∷ pieces) high piece apart behind sized some = (apart.0, apart.1, apart.2, apart_push first.end pieces high piece apart.3 behind sized some)

pub found_before : (low : ℕ) (pieces : List Piece) (high q : ℕ) → IsApart low pieces high → q < low → found pieces q ≡ None
found_before low [] high q apart before = refl
found_before low (piece ∷ pieces) high q apart before =
    let start : low ≤ piece.start = apart.0 in
    let sized : piece.start + length piece.bytes ≡ piece.end = apart.1 in
    rw (run_cell-before piece.start piece.bytes piece.frame q (omega arith)) (found_before piece.end pieces high q apart.3 (omega arith))

pub found_after : (low : ℕ) (pieces : List Piece) (high q : ℕ) → IsApart low pieces high → high ≤ q → found pieces q ≡ None
found_after low [] high q apart behind = refl
found_after low (piece ∷ pieces) high q apart behind =
    let sized : piece.start + length piece.bytes ≡ piece.end = apart.1 in
    let order : piece.end ≤ high = apart_order piece.end pieces high apart.3 in
    rw (run_cell-after piece.start piece.bytes piece.frame q (omega arith)) (found_after piece.end pieces high q apart.3 behind)

-- a piece has something at each of its positions
pub cell_there : (piece : Piece) (q : ℕ) → IsSized piece → piece.start ≤ q → q < piece.end → cell piece q ≡ Some (slice_index piece.bytes (q - piece.start), piece.frame)
cell_there piece q sized low high = run_cell-in piece.start piece.bytes piece.frame q low (omega (arith, sized))

-- by places: what is known of the one at a place
pub record IsPlaced (low : ℕ) (pieces : List Piece) (piece : Piece) : Type 0 where
  pub sized : IsSized piece
  pub low_is : low ≤ piece.start
  pub some : piece.start < piece.end
  pub is : (q : ℕ) → piece.start ≤ q → q < piece.end → found pieces q ≡ cell piece q

pub placed_first : (low high : ℕ) (piece : Piece) (pieces : List Piece) → IsApart low (piece ∷ pieces) high → IsPlaced low (piece ∷ pieces) piece
placed_first low high piece pieces apart = record {
  sized = apart.1;
  low_is = apart.0;
  some = apart.2;
  is = λ q a b. let there = cell_there piece q apart.1 a b in ap (λ (o : Option Cell). option_or o (found pieces q)) there ∙ sym there;
}

pub placed_later : (low high : ℕ) (first piece : Piece) (pieces : List Piece) → IsApart low (first ∷ pieces) high → IsPlaced first.end pieces piece → IsPlaced low (first ∷ pieces) piece
placed_later low high first piece pieces apart placed =
    let start : low ≤ first.start = apart.0 in
    let some : first.start < first.end = apart.2 in
    let sized : first.start + length first.bytes ≡ first.end = apart.1 in
    let behind : first.end ≤ piece.start = placed.low_is in
    record {
      sized = placed.sized;
      low_is = omega arith;
      some = placed.some;
      is = λ q a b. ap (λ (o : Option Cell). option_or o (found pieces q)) (run_cell-after first.start first.bytes first.frame q (omega arith)) ∙ placed.is q a b;
    }

pub placed_at : (pieces : List Piece) (low high i : ℕ) (piece : Piece) → IsApart low pieces high → slice_get pieces i ≡ Some piece → IsPlaced low pieces piece
placed_at [] low high i piece apart is = absurd (none_is_not_some {X = Piece} None (ap is_some is) refl)
placed_at (first ∷ pieces) low high zero piece apart is = subst (λ (p : Piece). IsPlaced low (first ∷ pieces) p) (some_is first piece is) (placed_first low high first pieces apart)
placed_at (first ∷ pieces) low high (suc i) piece apart is = placed_later low high first piece pieces apart (placed_at pieces first.end high i piece apart.3 is)

past_last : (pieces : List Piece) (low high i q : ℕ) → IsApart low pieces high → ((piece : Piece) → slice_get pieces i ≡ Some piece → piece.end ≤ q) → i < length pieces → low ≤ q
past_last [] low high i q apart before within = absurd (omega (arith, within))
past_last (first ∷ pieces) low high zero q apart before within = let past : first.end ≤ q = before first refl in omega (arith, apart.0, apart.2)
past_last (first ∷ pieces) low high (suc i) q apart before within =
    let later : first.end ≤ q = past_last pieces first.end high i q apart.3 before (omega (arith, within)) in omega (arith, apart.0, apart.2)

-- nothing between the end of one and the start of the next
pub found_between : (pieces : List Piece) (low high i q : ℕ) → IsApart low pieces high
    → ((j : ℕ) (piece : Piece) → j + 1 ≡ i → slice_get pieces j ≡ Some piece → piece.end ≤ q)
    → ((piece : Piece) → slice_get pieces i ≡ Some piece → q < piece.start) → i ≤ length pieces → found pieces q ≡ None
found_between [] low high i q apart before behind within = refl
found_between (first ∷ pieces) low high zero q apart before behind within =
    found_before first.start (first ∷ pieces) high q (omega arith, apart.1, apart.2, apart.3) (behind first refl)
found_between (first ∷ pieces) low high (suc zero) q apart before behind within =
    let sized : first.start + length first.bytes ≡ first.end = apart.1 in
    let past : first.end ≤ q = before 0 first (omega arith) refl in
    rw (run_cell-after first.start first.bytes first.frame q (omega arith))
    (found_between pieces first.end high zero q apart.3 (λ j piece none _. absurd (omega (arith, none))) behind (omega arith))
found_between (first ∷ pieces) low high (suc (suc i)) q apart before behind within =
    let sized : first.start + length first.bytes ≡ first.end = apart.1 in
    let rest : found pieces q ≡ None =
    found_between pieces first.end high (suc i) q apart.3 (λ j piece next is. before (suc j) piece (omega (arith, next)) is) behind (omega (arith, within)) in
    let past : first.end ≤ q = past_last pieces first.end high i q apart.3 (λ piece is. before (suc i) piece (omega arith) is) (omega (arith, within)) in
    rw (run_cell-after first.start first.bytes first.frame q (omega arith)) rest

-- a part of a piece
pub part_sized : (new : Piece) (from to : ℕ) → IsSized new → new.start ≤ from → from < to → to ≤ new.end → from + length (slice_range new.bytes (from - new.start) (to - new.start)) ≡ to
part_sized new from to sized low less high =
    omega (arith, sized, length-take-le ((to - new.start) - (from - new.start)) (drop (from - new.start) new.bytes) (omega (arith, sized, length-drop (from - new.start) new.bytes)))

pub part_inside : (new : Piece) (from to q : ℕ) → IsSized new → new.start ≤ from → to ≤ new.end → from ≤ q → q < to
    → run_cell from (slice_range new.bytes (from - new.start) (to - new.start)) new.frame q ≡ cell new q
part_inside new from to q sized low high after inside =
    let bytes = slice_range new.bytes (from - new.start) (to - new.start) in
    let size : from + length bytes ≡ to = part_sized new from to sized low (omega arith) high in
    let here : run_cell from bytes new.frame q ≡ Some (slice_index bytes (q - from), new.frame) = run_cell-in from bytes new.frame q after (omega (arith, size)) in
    let there : cell new q ≡ Some (slice_index new.bytes (q - new.start), new.frame) = cell_there new q sized (omega arith) (omega arith) in
    let place : (from - new.start) + (q - from) ≡ q - new.start = omega arith in
    let same : slice_index bytes (q - from) ≡ slice_index new.bytes (q - new.start) =
    get_or-take ((to - new.start) - (from - new.start)) (drop (from - new.start) new.bytes) (q - from) 0 (omega arith)
    ∙ get_or-drop (from - new.start) new.bytes (q - from) 0
    ∙ ap (slice_index new.bytes) place in
    here ∙ ap (λ (b : ℕ). Some (b, new.frame)) same ∙ sym there
