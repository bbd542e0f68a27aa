-- The pieces that hold a position, and the first held position behind one, by places in a row and by keys.
use Rattle.std.proofs.Common.{◌≡◌, ℕ, ◌+◌, ◌<◌, ◌≤◌, false, List, [], ◌∷◌, length, Some, None, is_some, IsSome, IfSome, refl, sym, ap, ◌∙◌, subst, inl, inr, arith}
use Rattle.std.specs.List.{slice_get}
use Rattle.std.specs.Map.{values_of}
use Rattle.std.specs.Ordering.{nat_cmp, is_gt, is_lt}
use Rattle.std.specs.FinMap.{get}
use Rattle.std.proofs.lemmas.Bool.{cases_eq, cases_lt, lt-ltb, le-ltb, eq-eqb}
use Rattle.std.proofs.lemmas.Map.Keys.{le_from_not_gt, ge_from_not_lt}
use Rattle.range_bytes.specs.declared.piece.Piece.{Piece}
use Rattle.range_bytes.specs.Held.{Held, IsFirstHeld}
use Rattle.range_bytes.specs.Pieces.{held_of, IsApart, IsKeyed, IsCover}
use Rattle.range_bytes.proofs.Runs.{none_is_not_some, some_is}
use Rattle.range_bytes.proofs.PieceLemmas.{cell_there, get-held_of, IsPlaced, placed_at, found_between}
use Rattle.range_bytes.proofs.LateLemmas.{look, look_head, look_tail, late_at, late_there}

le_after : {a b c : ℕ} → a ≤ b → b ≤ c → a ≤ c
le_after low high = omega (arith, low, high)

not_gt : (a b : ℕ) → a ≤ b → is_gt (nat_cmp a b) ≡ false
not_gt a b order = elim (cases_lt a b) [
  | inl less ↦ rw (lt-ltb a b less) refl
  | inr more ↦ let same : a ≡ b = omega arith in rw (le-ltb a b more, eq-eqb a b same) refl
]

pub first_is : {X : Type 0} (P : X → Type 0) (xs rest : List X) (x : X) → xs ≡ x ∷ rest → IfSome (slice_get xs 0) P → P x
first_is {X} P xs rest x same is = subst (λ (l : List X). IfSome (slice_get l 0) P) same is

covers : (pieces : List Piece) (low at : ℕ) (piece : Piece) → IsPlaced low pieces piece → piece.start ≤ at → at < piece.end → IsCover (held_of pieces) at piece
covers pieces low at piece placed a b = record {
  sized = placed.sized;
  low = a;
  high = b;
  is = λ q c d. get-held_of pieces q ∙ placed.is q c d;
}

pub cover_there : (held : Held) (at q : ℕ) (piece : Piece) → IsCover held at piece → piece.start ≤ q → q < piece.end → IsSome (get held q)
cover_there held at q piece cover a b = ap is_some (cover.is q a b ∙ cell_there piece q cover.sized a b)

-- in a row
abbrev pub IsBefore : List Piece → ℕ → ℕ → Type 0
IsBefore row i at = (j : ℕ) (piece : Piece) → j + 1 ≡ i → slice_get row j ≡ Some piece → piece.start ≤ at

abbrev pub IsBehind : List Piece → ℕ → ℕ → Type 0
IsBehind row i at = (piece : Piece) → slice_get row i ≡ Some piece → at < piece.start

pub row_covers : (row : List Piece) (high at i : ℕ) (piece : Piece) → IsApart 0 row high → slice_get row i ≡ Some piece → piece.start ≤ at → at < piece.end → IsCover (held_of row) at piece
row_covers row high at i piece apart is a b = covers row 0 at piece (placed_at row 0 high i piece apart is) a b

row_ends : (row : List Piece) (high at i : ℕ) (piece : Piece) → IsApart 0 row high → slice_get row i ≡ Some piece → piece.start ≤ at → get (held_of row) at ≡ None → piece.end ≤ at
row_ends row high at i piece apart is a none = elim (cases_lt at piece.end) [
  | inl inside ↦ absurd (none_is_not_some (get (held_of row) at) (cover_there (held_of row) at at piece (row_covers row high at i piece apart is a inside) a inside) none)
  | inr past ↦ past
]

pub row_free : (row : List Piece) (high at i : ℕ) → IsApart 0 row high → ((j : ℕ) (piece : Piece) → j + 1 ≡ i → slice_get row j ≡ Some piece → piece.end ≤ at)
    → IsBehind row i at → i ≤ length row → get (held_of row) at ≡ None
row_free row high at i apart before behind within = get-held_of row at ∙ found_between row 0 high i at apart before behind within

pub same_place : (row : List Piece) (i j : ℕ) (p r : Piece) → i ≡ j → slice_get row i ≡ Some p → slice_get row j ≡ Some r → p ≡ r
same_place row i j p r same a b = some_is p r (sym a ∙ ap (slice_get row) same ∙ b)

-- nothing between a position that isn't held and the next piece
pub row_quiet : (row : List Piece) (high from at i : ℕ) → IsApart 0 row high → get (held_of row) from ≡ None → IsBefore row i from → IsBehind row i at → i ≤ length row → from ≤ at
    → get (held_of row) at ≡ None
row_quiet row high from at i apart none before behind within order =
    row_free row high at i apart (λ j piece next is. le_after (row_ends row high from j piece apart is (before j piece next is) none) order) behind within

pub row_next : (row : List Piece) (high from i : ℕ) (piece : Piece) → IsApart 0 row high → get (held_of row) from ≡ None → IsBefore row i from → IsBehind row i from → i ≤ length row
    → slice_get row i ≡ Some piece → IsFirstHeld (held_of row) from piece.start
row_next row high from i piece apart none before behind within is =
    let placed = placed_at row 0 high i piece apart is in
    let less : from < piece.start = behind piece is in
    record {
      order = omega arith;
      there = cover_there (held_of row) piece.start piece.start piece (covers row 0 piece.start piece placed (omega arith) placed.some) (omega arith) placed.some;
      none = λ q a b. row_quiet row high from q i apart none before (λ other at. subst (λ (p : Piece). q < p.start) (same_place row i i piece other refl is at) b) within a;
    }

-- by keys
late_apart : (es : List (ℕ × Piece)) (low high j k : ℕ) (p r : Piece) → IsKeyed es → IsApart low (values_of es) high → look j es ≡ Some p → look k es ≡ Some r → j < k → p.end ≤ k
late_apart [] low high j k p r keyed apart first second less = absurd (none_is_not_some {X = Piece} None (ap is_some first) refl)
late_apart (e ∷ es) low high j k p r keyed apart first second less = elim (cases_eq j e.0) [
  | inl same ↦
      let one : e.1 ≡ p = some_is e.1 p (sym (look_head j e es same) ∙ first) in
      let later = late_at es e.1.end high k r keyed.1 apart.3 (sym (look_tail k e es (λ k_same. absurd (omega (arith, same, k_same)))) ∙ second) in
      subst (λ (x : Piece). x.end ≤ k) one (omega (arith, later.0, later.1.low_is))
  | inr other ↦
      let first_later = sym (look_tail j e es other) ∙ first in
      let place = late_at es e.1.end high j p keyed.1 apart.3 first_later in
      let key : e.0 ≡ e.1.start = keyed.0 in
      let some : e.1.start < e.1.end = apart.2 in
      let behind : e.1.end ≤ j = omega (arith, place.0, place.1.low_is) in
      late_apart es e.1.end high j k p r keyed.1 apart.3 first_later (sym (look_tail k e es (λ k_same. absurd (omega (arith, k_same)))) ∙ second) less
]

pub late_covers : (es : List (ℕ × Piece)) (high at k : ℕ) (piece : Piece) → IsKeyed es → IsApart 0 (values_of es) high → look k es ≡ Some piece → is_gt (nat_cmp k at) ≡ false → at < piece.end
    → IsCover (held_of (values_of es)) at piece
late_covers es high at k piece keyed apart is low_k b =
    let place = late_at es 0 high k piece keyed apart is in
    let low : k ≤ at = le_from_not_gt k at low_k in
    covers (values_of es) 0 at piece place.1 (omega (arith, place.0)) b

pub late_free : (es : List (ℕ × Piece)) (high at k : ℕ) (piece : Piece) → IsKeyed es → IsApart 0 (values_of es) high → look k es ≡ Some piece → piece.end ≤ at
    → ((q : ℕ) → is_gt (nat_cmp q at) ≡ false → IsSome (look q es) → is_lt (nat_cmp k q) ≡ false) → get (held_of (values_of es)) at ≡ None
late_free es high at k piece keyed apart is past greatest = get-held_of (values_of es) at ∙ elim (late_there es 0 high at keyed apart) [
  | inl none ↦ none
  | inr there ↦
      let other = there.0 in
      let order : other.start ≤ k = ge_from_not_lt k other.start (greatest other.start (not_gt other.start at there.2) (ap is_some there.1)) in
      elim (cases_lt other.start k) [
        | inl less ↦ let end : other.end ≤ k = late_apart es 0 high other.start k other piece keyed apart there.1 is less in
            let place = late_at es 0 high k piece keyed apart is in
            absurd (omega (arith, there.3, place.0, place.1.some))
        | inr more ↦
            let same : k ≡ other.start = omega arith in
            let one : piece ≡ other = some_is piece other (sym is ∙ ap (λ (q : ℕ). look q es) same ∙ there.1) in
            let end : piece.end ≡ other.end = ap (λ (p : Piece). p.end) one in
            absurd (omega (arith, there.3))
      ]
]

pub late_empty : (es : List (ℕ × Piece)) (high at : ℕ) → IsKeyed es → IsApart 0 (values_of es) high → ((q : ℕ) → is_gt (nat_cmp q at) ≡ false → look q es ≡ None) → get (held_of (values_of es)) at ≡ None
late_empty es high at keyed apart nothing = get-held_of (values_of es) at ∙ elim (late_there es 0 high at keyed apart) [
  | inl none ↦ none
  | inr there ↦ absurd (none_is_not_some (look there.0.start es) (ap is_some there.1) (nothing there.0.start (not_gt there.0.start at there.2)))
]

-- no piece that starts before a position that isn't held goes past it
late_quiet : (es : List (ℕ × Piece)) (high from at : ℕ) → IsKeyed es → IsApart 0 (values_of es) high → get (held_of (values_of es)) from ≡ None → from ≤ at
    → ((piece : Piece) → look piece.start es ≡ Some piece → from ≤ piece.start → at < piece.start) → get (held_of (values_of es)) at ≡ None
late_quiet es high from at keyed apart none order behind = get-held_of (values_of es) at ∙ elim (late_there es 0 high at keyed apart) [
  | inl nothing ↦ nothing
  | inr there ↦
      let piece = there.0 in
      elim (cases_lt piece.start from) [
        | inl before ↦
            let place = late_at es 0 high piece.start piece keyed apart there.1 in
            let cover = covers (values_of es) 0 from piece place.1 (omega arith) (omega (arith, there.3)) in
            absurd (none_is_not_some (get (held_of (values_of es)) from) (cover_there (held_of (values_of es)) from from piece cover (omega arith) (omega (arith, there.3))) none)
        | inr after ↦ let past : at < piece.start = behind piece there.1 after in absurd (omega (arith, there.2))
      ]
]

pub late_next : (es : List (ℕ × Piece)) (high from k : ℕ) (piece : Piece) → IsKeyed es → IsApart 0 (values_of es) high → get (held_of (values_of es)) from ≡ None → look k es ≡ Some piece
    → is_gt (nat_cmp from k) ≡ false → ((q : ℕ) → is_gt (nat_cmp from q) ≡ false → IsSome (look q es) → is_gt (nat_cmp k q) ≡ false) → IsFirstHeld (held_of (values_of es)) from k
late_next es high from k piece keyed apart none is low_k least =
    let place = late_at es 0 high k piece keyed apart is in
    let order : from ≤ k = le_from_not_gt from k low_k in
    let some : piece.start < piece.end = place.1.some in
    let start : piece.start ≡ k = place.0 in
    record {
      order = order;
      there = cover_there (held_of (values_of es)) k k piece (covers (values_of es) 0 k piece place.1 (omega arith) (omega arith)) (omega arith) (omega arith);
      none = λ q a b. late_quiet es high from q keyed apart none a (λ other there after.
          let next : k ≤ other.start = le_from_not_gt k other.start (least other.start (not_gt from other.start after) (ap is_some there)) in
          omega arith);
    }

pub late_last : (es : List (ℕ × Piece)) (high from : ℕ) → IsKeyed es → IsApart 0 (values_of es) high → get (held_of (values_of es)) from ≡ None
    → ((q : ℕ) → is_gt (nat_cmp from q) ≡ false → look q es ≡ None) → (at : ℕ) → from ≤ at → get (held_of (values_of es)) at ≡ None
late_last es high from keyed apart none nothing at order = late_quiet es high from at keyed apart none order (λ piece there after.
    absurd (none_is_not_some (look piece.start es) (ap is_some there) (nothing piece.start (not_gt from piece.start after))))
