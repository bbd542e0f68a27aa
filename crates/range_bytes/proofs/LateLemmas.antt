-- Pieces by where they start: what is held by them, and what becomes of it as one more is put in or taken out.
use Rattle.std.proofs.Common.{◌≡◌, ℕ, zero, suc, take, ◌+◌, ◌-◌, ◌<◌, ◌≤◌, max, List, [], ◌∷◌, length, slice_index, Option, Some, None, is_some, eqb, ◌⊎◌, refl, sym, ap, ◌∙◌, subst, inl, inr, arith}
use Rattle.std.specs.List.{slice_get}
use Rattle.std.specs.Option.{option_or}
use Rattle.std.specs.Map.{values_of, lookup, remove_entry}
use Rattle.std.specs.BTreeMap.{insert_entry, is_at}
use Rattle.std.specs.Ordering.{nat_cmp}
use Rattle.std.specs.Cmp.{unsigned_tied}
use Rattle.std.proofs.lemmas.Bool.{cond-true, cond-false, eq-eqb, ne_eqb, lt-ltb, le-ltb, cases_eq, cases_lt}
use Rattle.range_bytes.specs.declared.piece.Piece.{Piece}
use Rattle.range_bytes.specs.Held.{Cell}
use Rattle.range_bytes.specs.Pieces.{IsSized, IsApart, IsKeyed, AreFree, with_piece, with_pieces}
use Rattle.range_bytes.proofs.Runs.{or_none, or_assoc, run_cell-after, none_is_not_some, some_is}
use Rattle.range_bytes.proofs.PieceLemmas.{cell, found, get-held_of, found_before, found_after, cell_there, apart_order, apart_higher, IsPlaced, placed_first, placed_later, placed_at}

-- the piece that starts at a position
abbrev pub look : ℕ → List (ℕ × Piece) → Option Piece
look start entries = lookup (is_at (nat_cmp start)) entries

pub at_is : (start key : ℕ) → is_at (nat_cmp start) key ≡ eqb start key
at_is start key = unsigned_tied start key

pub look_head : (start : ℕ) (e : ℕ × Piece) (es : List (ℕ × Piece)) → start ≡ e.0 → look start (e ∷ es) ≡ Some e.1
look_head start e es same = cond-true _ _ _ (at_is start e.0 ∙ eq-eqb start e.0 same)

pub look_tail : (start : ℕ) (e : ℕ × Piece) (es : List (ℕ × Piece)) → (start ≡ e.0 → ⊥) → look start (e ∷ es) ≡ look start es
look_tail start e es apart = cond-false _ _ _ (at_is start e.0 ∙ ne_eqb start e.0 apart)

pub late_at : (es : List (ℕ × Piece)) (low high start : ℕ) (piece : Piece) → IsKeyed es → IsApart low (values_of es) high → look start es ≡ Some piece
    → (piece.start ≡ start) × IsPlaced low (values_of es) piece
late_at [] low high start piece keyed apart is = absurd (none_is_not_some {X = Piece} None (ap is_some is) refl)
late_at (e ∷ es) low high start piece keyed apart is = elim (cases_eq start e.0) [
  | inl same ↦
      let one : e.1 ≡ piece = some_is e.1 piece (sym (look_head start e es same) ∙ is) in
      let first : (e.1.start ≡ start) × IsPlaced low (values_of (e ∷ es)) e.1 = (sym keyed.0 ∙ sym same, placed_first low high e.1 (values_of es) apart) in
      subst (λ (p : Piece). (p.start ≡ start) × IsPlaced low (values_of (e ∷ es)) p) one first
  | inr other ↦
      let later = late_at es e.1.end high start piece keyed.1 apart.3 (sym (look_tail start e es other) ∙ is) in
      (later.0, placed_later low high e.1 piece (values_of es) apart later.1)
]

-- what is held is in a piece
pub late_there : (es : List (ℕ × Piece)) (low high q : ℕ) → IsKeyed es → IsApart low (values_of es) high
    → (found (values_of es) q ≡ None) ⊎ ((piece : Piece) × (look piece.start es ≡ Some piece) × (piece.start ≤ q) × (q < piece.end))
late_there [] low high q keyed apart = inl refl
late_there (e ∷ es) low high q keyed apart =
    let sized : e.1.start + length e.1.bytes ≡ e.1.end = apart.1 in
    let some : e.1.start < e.1.end = apart.2 in
    elim (cases_lt q e.1.start) [
      | inl before ↦ inl (found_before e.1.start (values_of (e ∷ es)) high q (omega arith, apart.1, apart.2, apart.3) before)
      | inr low_q ↦ elim (cases_lt q e.1.end) [
        | inl inside ↦ inr (e.1, look_head e.1.start e es (sym keyed.0), low_q, inside)
        | inr past ↦ elim (late_there es e.1.end high q keyed.1 apart.3) [
          | inl none ↦ inl (ap (λ (o : Option Cell). option_or o (found (values_of es) q)) (run_cell-after e.1.start e.1.bytes e.1.frame q (omega arith)) ∙ none)
          | inr there ↦
              let piece = there.0 in
              let place = late_at es e.1.end high piece.start piece keyed.1 apart.3 there.1 in
              let behind : e.1.end ≤ piece.start = place.1.low_is in
              inr (piece, look_tail piece.start e es (λ same. absurd (omega (arith, same, keyed.0))) ∙ there.1, there.2, there.3)
        ]
      ]
    ]

-- one more piece, where nothing is held
abbrev pub IsFree : List (ℕ × Piece) → Piece → Type 0
IsFree es piece = (q : ℕ) → piece.start ≤ q → q < piece.end → found (values_of es) q ≡ None

put_low : (start : ℕ) (piece : Piece) (e : ℕ × Piece) (es : List (ℕ × Piece)) → start < e.0 → insert_entry nat_cmp (e ∷ es) start piece ≡ (start, piece) ∷ e ∷ es
put_low start piece e es low = rw (lt-ltb start e.0 low) refl

put_high : (start : ℕ) (piece : Piece) (e : ℕ × Piece) (es : List (ℕ × Piece)) → e.0 < start → insert_entry nat_cmp (e ∷ es) start piece ≡ e ∷ insert_entry nat_cmp es start piece
put_high start piece e es high = rw (le-ltb start e.0 (omega arith), ne_eqb start e.0 (λ same. absurd (omega arith))) refl

-- a free piece stands before or behind the first
beside : (piece : Piece) (low high : ℕ) (e : ℕ × Piece) (es : List (ℕ × Piece)) → IsApart low (values_of (e ∷ es)) high → piece.start < piece.end → IsFree (e ∷ es) piece
    → (piece.end ≤ e.1.start) ⊎ (e.1.end ≤ piece.start)
beside piece low high e es apart some free =
    let sized : e.1.start + length e.1.bytes ≡ e.1.end = apart.1 in
    let there : (q : ℕ) → e.1.start ≤ q → q < e.1.end → found (values_of (e ∷ es)) q ≡ None → ⊥ = λ q a b none.
    none_is_not_some (found (values_of (e ∷ es)) q) (ap (λ (o : Option Cell). is_some (option_or o (found (values_of es) q))) (cell_there e.1 q sized a b)) none in
    elim (cases_lt e.1.start piece.end) [
      | inr before ↦ inl before
      | inl start ↦ elim (cases_lt piece.start e.1.end) [
        | inr behind ↦ inr behind
        | inl end ↦ absurd (there (max piece.start e.1.start) (omega arith) (omega (arith, apart.2)) (free (max piece.start e.1.start) (omega arith) (omega arith)))
      ]
    ]

free_rest : (piece : Piece) (e : ℕ × Piece) (es : List (ℕ × Piece)) → IsSized e.1 → e.1.end ≤ piece.start → IsFree (e ∷ es) piece → IsFree es piece
free_rest piece e es sized behind free = λ q a b.
    let gone : cell e.1 q ≡ None = run_cell-after e.1.start e.1.bytes e.1.frame q (omega (arith, sized)) in
    sym (ap (λ (o : Option Cell). option_or o (found (values_of es) q)) gone) ∙ free q a b

-- the first comes first, either way
swap_cells : (a b c : Option Cell) → (a ≡ None) ⊎ (b ≡ None) → option_or a (option_or b c) ≡ option_or b (option_or a c)
swap_cells a b c (inl none) = rw none refl
swap_cells a b c (inr none) = rw none refl

pub record IsLate (low : ℕ) (es : List (ℕ × Piece)) (high : ℕ) : Type 0 where
  pub keyed : IsKeyed es
  pub apart : IsApart low (values_of es) high

pub record IsWith (es fs : List (ℕ × Piece)) (piece : Piece) (low high : ℕ) : Type 0 where
  pub late : IsLate low fs high
  pub is : (q : ℕ) → found (values_of fs) q ≡ option_or (found (values_of es) q) (cell piece q)

pub late_with : (piece : Piece) (es : List (ℕ × Piece)) (low high : ℕ) → IsLate low es high → IsSized piece → piece.start < piece.end → low ≤ piece.start → IsFree es piece
    → IsWith es (with_piece es piece) piece low (max high piece.end)
late_with piece [] low high late sized some less free = record {
  late = record { keyed = (refl, tt); apart = (less, sized, some, omega arith) };
  is = λ q. or_none (cell piece q);
}
late_with piece (e ∷ es) low high late sized some less free =
    let apart = late.apart in
    let ends : e.1.start + length e.1.bytes ≡ e.1.end = apart.1 in
    let first : e.1.start < e.1.end = apart.2 in
    let key : e.0 ≡ e.1.start = late.keyed.0 in
    elim (beside piece low high e es apart some free) [
      | inl before ↦
          subst (λ (fs : List (ℕ × Piece)). IsWith (e ∷ es) fs piece low (max high piece.end)) (sym (put_low piece.start piece e es (omega arith))) (record {
            late = record {
              keyed = (refl, late.keyed);
              apart = (less, sized, some, (before, apart.1, apart.2, apart_higher e.1.end (values_of es) high (max high piece.end) apart.3 (omega arith)));
            };
            is = λ q. elim (cases_lt q piece.end) [
              | inl low_q ↦
                  let none : found (values_of (e ∷ es)) q ≡ None = found_before e.1.start (values_of (e ∷ es)) high q (omega arith, apart.1, apart.2, apart.3) (omega arith) in
                  ap (option_or (cell piece q)) none ∙ or_none (cell piece q) ∙ sym (ap (λ (o : Option Cell). option_or o (cell piece q)) none)
              | inr high_q ↦
                  let none : cell piece q ≡ None = run_cell-after piece.start piece.bytes piece.frame q (omega (arith, sized)) in
                  ap (λ (o : Option Cell). option_or o (found (values_of (e ∷ es)) q)) none
                  ∙ sym (ap (option_or (found (values_of (e ∷ es)) q)) none ∙ or_none (found (values_of (e ∷ es)) q))
            ];
          })
      | inr behind ↦
          let rest : IsWith es (with_piece es piece) piece e.1.end (max high piece.end) =
          late_with piece es e.1.end high (record { keyed = late.keyed.1; apart = apart.3 }) sized some behind (free_rest piece e es apart.1 behind free) in
          subst (λ (fs : List (ℕ × Piece)). IsWith (e ∷ es) fs piece low (max high piece.end)) (sym (put_high piece.start piece e es (omega arith))) (record {
            late = record { keyed = (key, rest.late.keyed); apart = (apart.0, apart.1, apart.2, rest.late.apart) };
            is = λ q. ap (option_or (cell e.1 q)) (rest.is q) ∙ sym (or_assoc (cell e.1 q) (found (values_of es) q) (cell piece q));
          })
    ]

-- taken out again
pub taken_out : (piece : Piece) (es : List (ℕ × Piece)) (low high : ℕ) → IsLate low es high → piece.start < piece.end → IsFree es piece
    → remove_entry (is_at (nat_cmp piece.start)) (with_piece es piece) ≡ es
taken_out piece [] low high late some free = cond-true _ _ _ (at_is piece.start piece.start ∙ eq-eqb piece.start piece.start refl)
taken_out piece (e ∷ es) low high late some free =
    let key : e.0 ≡ e.1.start = late.keyed.0 in
    let first : e.1.start < e.1.end = late.apart.2 in
    elim (beside piece low high e es late.apart some free) [
      | inl before ↦
          ap (remove_entry (is_at (nat_cmp piece.start))) (put_low piece.start piece e es (omega arith))
          ∙ cond-true _ _ _ (at_is piece.start piece.start ∙ eq-eqb piece.start piece.start refl)
      | inr behind ↦
          ap (remove_entry (is_at (nat_cmp piece.start))) (put_high piece.start piece e es (omega arith))
          ∙ cond-false _ _ _ (at_is piece.start e.0 ∙ ne_eqb piece.start e.0 (λ same. absurd (omega arith)))
          ∙ ap (λ (fs : List (ℕ × Piece)). e ∷ fs) (taken_out piece es e.1.end high (record { keyed = late.keyed.1; apart = late.apart.3 }) some (free_rest piece e es late.apart.1 behind free))
    ]

-- pieces put in one after the other
pub record IsWithAll (es fs : List (ℕ × Piece)) (pieces : List Piece) (high : ℕ) : Type 0 where
  pub late : IsLate 0 fs high
  pub is : (q : ℕ) → found (values_of fs) q ≡ option_or (found (values_of es) q) (found pieces q)

free_first : (es : List (ℕ × Piece)) (piece : Piece) (pieces : List Piece) → IsSized piece → ((q : ℕ) → (found (piece ∷ pieces) q ≡ None) ⊎ (found (values_of es) q ≡ None)) → IsFree es piece
free_first es piece pieces sized once = λ q a b. elim (once q) [
  | inl none ↦ absurd (none_is_not_some (found (piece ∷ pieces) q) (ap (λ (o : Option Cell). is_some (option_or o (found pieces q))) (cell_there piece q sized a b)) none)
  | inr none ↦ none
]

rest_none : (a b : Option Cell) → a ≡ None → option_or a b ≡ None → b ≡ None
rest_none a b none is = sym (ap (λ (o : Option Cell). option_or o b) none) ∙ is

pub late_with_all : (pieces : List Piece) (es : List (ℕ × Piece)) (low high end : ℕ) → IsLate 0 es end → IsApart low pieces high
    → ((q : ℕ) → (found pieces q ≡ None) ⊎ (found (values_of es) q ≡ None)) → IsWithAll es (with_pieces es pieces) pieces (max end high)
late_with_all [] es low high end late apart once = record {
  late = record { keyed = late.keyed; apart = apart_higher 0 (values_of es) end (max end high) late.apart (omega arith) };
  is = λ q. sym (or_none (found (values_of es) q));
}
late_with_all (piece ∷ pieces) es low high end late apart once =
    let sized : piece.start + length piece.bytes ≡ piece.end = apart.1 in
    let order : piece.end ≤ high = apart_order piece.end pieces high apart.3 in
    let one = late_with piece es 0 end late apart.1 apart.2 (omega arith) (free_first es piece pieces apart.1 once) in
    let all : IsWithAll (with_piece es piece) (with_pieces (with_piece es piece) pieces) pieces (max (max end piece.end) high) =
    late_with_all pieces (with_piece es piece) piece.end high (max end piece.end) one.late apart.3 (λ q. elim (cases_lt q piece.end) [
      | inl before ↦ inl (found_before piece.end pieces high q apart.3 before)
      | inr past ↦
          let gone : cell piece q ≡ None = run_cell-after piece.start piece.bytes piece.frame q (omega arith) in
          elim (once q) [
            | inl none ↦ inl (rest_none (cell piece q) (found pieces q) gone none)
            | inr none ↦ inr (one.is q ∙ ap (λ (o : Option Cell). option_or o (cell piece q)) none ∙ gone)
          ]
    ]) in
    let top : max (max end piece.end) high ≡ max end high = omega arith in
    record {
      late = subst (λ (n : ℕ). IsLate 0 (with_pieces (with_piece es piece) pieces) n) top all.late;
      is = λ q. all.is q ∙ ap (λ (o : Option Cell). option_or o (found pieces q)) (one.is q) ∙ or_assoc (found (values_of es) q) (cell piece q) (found pieces q);
    }

-- the first of some pieces
pub apart_take : (pieces : List Piece) (low high n : ℕ) (piece : Piece) → IsApart low pieces high → slice_get pieces n ≡ Some piece → IsApart low (take n pieces) piece.start
apart_take [] low high n piece apart is = absurd (none_is_not_some {X = Piece} None (ap is_some is) refl)
apart_take (first ∷ pieces) low high zero piece apart is = subst (λ (p : Piece). low ≤ p.start) (some_is first piece is) apart.0
apart_take (first ∷ pieces) low high (suc n) piece apart is = (apart.0, apart.1, apart.2, apart_take pieces first.end high n piece apart.3 is)

first_or : (a b c : Option Cell) → option_or a b ≡ None → (b ≡ None → c ≡ None) → option_or a c ≡ None
first_or None b c none later = later none
first_or (Some x) b c none later = none

take_none : (pieces : List Piece) (n q : ℕ) → found pieces q ≡ None → found (take n pieces) q ≡ None
take_none pieces zero q none = refl
take_none [] (suc n) q none = refl
take_none (piece ∷ pieces) (suc n) q none = first_or (cell piece q) (found pieces q) (found (take n pieces) q) none (λ rest. take_none pieces n q rest)

pub take_put : (pieces : List Piece) (es : List (ℕ × Piece)) (n : ℕ) (piece : Piece) → slice_get pieces n ≡ Some piece → with_pieces es (take (suc n) pieces) ≡ with_piece (with_pieces es (take n pieces)) piece
take_put [] es n piece is = absurd (none_is_not_some {X = Piece} None (ap is_some is) refl)
take_put (first ∷ pieces) es zero piece is = ap (with_piece es) (some_is first piece is)
take_put (first ∷ pieces) es (suc n) piece is = take_put pieces (with_piece es first) n piece is

-- the last of those that were put in, taken out again
pub undone : (pieces : List Piece) (es : List (ℕ × Piece)) (n : ℕ) (piece : Piece) → AreFree es pieces → slice_get pieces n ≡ Some piece
    → remove_entry (is_at (nat_cmp piece.start)) (with_pieces es (take (suc n) pieces)) ≡ with_pieces es (take n pieces)
undone pieces es n piece free is =
    let once : (q : ℕ) → (found pieces q ≡ None) ⊎ (found (values_of es) q ≡ None) = λ q. elim (free.once q) [
      | inl none ↦ inl (sym (get-held_of pieces q) ∙ none)
      | inr none ↦ inr (sym (get-held_of (values_of es) q) ∙ none)
    ] in
    let placed = placed_at pieces free.low free.high n piece free.apart is in
    let fronts = apart_take pieces free.low free.high n piece free.apart is in
    let all = late_with_all (take n pieces) es free.low piece.start free.end (record { keyed = free.keyed; apart = free.late_apart }) fronts (λ q. elim (once q) [
      | inl none ↦ inl (take_none pieces n q none)
      | inr none ↦ inr none
    ]) in
    ap (remove_entry (is_at (nat_cmp piece.start))) (take_put pieces es n piece is)
    ∙ taken_out piece (with_pieces es (take n pieces)) 0 _ all.late placed.some (λ q a b.
    let there : found pieces q ≡ Some (slice_index piece.bytes (q - piece.start), piece.frame) = placed.is q a b ∙ cell_there piece q placed.sized a b in
    let none : found (values_of es) q ≡ None = elim (once q) [
      | inl nothing ↦ absurd (none_is_not_some (found pieces q) (ap is_some there) nothing)
      | inr nothing ↦ nothing
    ] in
    all.is q ∙ ap (λ (o : Option Cell). option_or o (found (take n pieces) q)) none ∙ found_after free.low (take n pieces) piece.start q fronts a)

apart_front : (pieces : List Piece) (low high n : ℕ) → IsApart low pieces high → IsApart low (take n pieces) high
apart_front pieces low high zero apart = apart_order low pieces high apart
apart_front [] low high (suc n) apart = apart
apart_front (first ∷ pieces) low high (suc n) apart = (apart.0, apart.1, apart.2, apart_front pieces first.end high n apart.3)

pub free_take : (pieces : List Piece) (es : List (ℕ × Piece)) (n : ℕ) → AreFree es pieces → AreFree es (take n pieces)
free_take pieces es n free = record {
  low = free.low;
  high = free.high;
  end = free.end;
  keyed = free.keyed;
  late_apart = free.late_apart;
  apart = apart_front pieces free.low free.high n free.apart;
  once = λ q. elim (free.once q) [
    | inl none ↦ inl (get-held_of (take n pieces) q ∙ take_none pieces n q (sym (get-held_of pieces q) ∙ none))
    | inr none ↦ inr none
  ];
}
