-- The parts of a piece where nothing is held, and what is held once they are put in.
use Rattle.std.proofs.Common.{◌≡◌, ◌⊎◌, ℕ, ◌+◌, ◌<◌, ◌≤◌, min, max, cond, Bool, true, false, List, [], ◌∷◌, ◌++◌, length, Option, Some, None, is_some, IsSome, refl, sym, ap, ◌∙◌, subst, inl, inr, arith}
use Rattle.std.specs.Option.{option_or}
use Rattle.std.specs.Ordering.{nat_cmp}
use Rattle.std.specs.Cmp.{nat_cmp_total}
use Rattle.std.specs.Map.{values_of}
use Rattle.std.specs.FinMap.{get, get-empty, same_map, nat_cmp-IsAntisymmetric}
use Rattle.std.proofs.lemmas.Bool.{cases_lt}
use Rattle.range_bytes.specs.declared.piece.Piece.{Piece}
use Rattle.range_bytes.specs.Held.{Cell, Held, put_run}
use Rattle.range_bytes.specs.Pieces.{held_of, IsSized, IsApart, IsCover, IsKept, AreGaps, AreFree, filling, part_of, with_pieces}
use Rattle.range_bytes.proofs.Runs.{or_none, or_assoc, run_cell-before, run_cell-after, get-put_run}
use Rattle.range_bytes.proofs.PieceLemmas.{cell, found, found-append, get-held_of, apart_push, apart_higher, found_after, part_sized, part_inside}
use Rattle.range_bytes.proofs.LateLemmas.{IsWithAll, late_with_all}
use Rattle.range_bytes.proofs.Kept.{both, row_none, late_none}
use Rattle.range_bytes.proofs.Covering.{cover_there}

either : (b : Bool) (c : Option Cell) → c ≡ None → cond b None c ≡ None
either true c none = refl
either false c none = none

fill_outside : (held : Held) (piece : Piece) (q : ℕ) → cell piece q ≡ None → filling held piece q ≡ None
fill_outside held piece q none = either (is_some (get held q)) (cell piece q) none

fill_held : (held : Held) (piece : Piece) (q : ℕ) → IsSome (get held q) → filling held piece q ≡ None
fill_held held piece q there = rw there refl

fill_free : (held : Held) (piece : Piece) (q : ℕ) → get held q ≡ None → filling held piece q ≡ cell piece q
fill_free held piece q none = rw none refl

-- the gaps before a position
pub record AreGapsUpTo (held : Held) (piece : Piece) (at : ℕ) (gaps : List Piece) : Type 0 where
  pub low : piece.start ≤ at
  pub apart : IsApart piece.start gaps (min at piece.end)
  pub fill : (q : ℕ) → q < at → get (held_of gaps) q ≡ filling held piece q

gaps_after : (held : Held) (piece : Piece) (at q : ℕ) (gaps : List Piece) → AreGapsUpTo held piece at gaps → at ≤ q → get (held_of gaps) q ≡ None
gaps_after held piece at q gaps so_far after = get-held_of gaps q ∙ found_after piece.start gaps (min at piece.end) q so_far.apart (omega arith)

pub gaps_none : (held : Held) (piece : Piece) → piece.start < piece.end → AreGapsUpTo held piece piece.start []
gaps_none held piece some = record {
  low = omega arith;
  apart = omega arith;
  fill = λ q before. get-empty nat_cmp q ∙ sym (fill_outside held piece q (run_cell-before piece.start piece.bytes piece.frame q before));
}

pub gaps_past : (held : Held) (piece other : Piece) (at : ℕ) (gaps : List Piece) → AreGapsUpTo held piece at gaps → IsCover held at other → AreGapsUpTo held piece other.end gaps
gaps_past held piece other at gaps so_far cover =
    let low : piece.start ≤ at = so_far.low in
    let start : other.start ≤ at = cover.low in
    let high : at < other.end = cover.high in
    record {
      low = omega arith;
      apart = apart_higher piece.start gaps (min at piece.end) (min other.end piece.end) so_far.apart (omega arith);
      fill = λ q before. elim (cases_lt q at) [
        | inl less ↦ so_far.fill q less
        | inr more ↦ gaps_after held piece at q gaps so_far more ∙ sym (fill_held held piece q (cover_there held at q other cover (omega arith) before))
      ];
    }

pub gaps_more : (held : Held) (piece : Piece) (at to : ℕ) (gaps : List Piece) → IsSized piece → AreGapsUpTo held piece at gaps → at < to → to ≤ piece.end
    → ((q : ℕ) → at ≤ q → q < to → get held q ≡ None) → AreGapsUpTo held piece to (gaps ++ part_of piece at to ∷ [])
gaps_more held piece at to gaps sized so_far less within free =
    let low : piece.start ≤ at = so_far.low in
    let part = part_of piece at to in
    let size : at + length part.bytes ≡ to = part_sized piece at to sized low less within in
    let top : to ≡ min to piece.end = omega arith in
    let is : (q : ℕ) → get (held_of (gaps ++ part ∷ [])) q ≡ option_or (found gaps q) (cell part q) = λ q.
    get-held_of (gaps ++ part ∷ []) q ∙ found-append gaps (part ∷ []) q ∙ ap (option_or (found gaps q)) (or_none (cell part q)) in
    record {
      low = omega arith;
      apart = subst (λ (n : ℕ). IsApart piece.start (gaps ++ part ∷ []) n) top (apart_push piece.start gaps (min at piece.end) part so_far.apart (omega arith) size less);
      fill = λ q before. elim (cases_lt q at) [
        | inl old ↦
            is q ∙ ap (option_or (found gaps q)) (run_cell-before at part.bytes piece.frame q old) ∙ or_none (found gaps q)
            ∙ sym (get-held_of gaps q) ∙ so_far.fill q old
        | inr new ↦
            is q ∙ ap (λ (o : Option Cell). option_or o (cell part q)) (sym (get-held_of gaps q) ∙ gaps_after held piece at q gaps so_far new)
            ∙ part_inside piece at to q sized low within new before ∙ sym (fill_free held piece q (free q new before))
      ];
    }

pub gaps_all : (held : Held) (piece : Piece) (at : ℕ) (gaps : List Piece) → IsSized piece → AreGapsUpTo held piece at gaps → piece.end ≤ at → AreGaps held piece gaps
gaps_all held piece at gaps sized so_far done = record {
  apart = apart_higher piece.start gaps (min at piece.end) piece.end so_far.apart (omega arith);
  fill = λ q. elim (cases_lt q at) [
    | inl less ↦ so_far.fill q less
    | inr more ↦ gaps_after held piece at q gaps so_far more ∙ sym (fill_outside held piece q (run_cell-after piece.start piece.bytes piece.frame q (omega (arith, sized))))
  ];
}

-- pieces put in behind all others
both_is : (row : List Piece) (late : List (ℕ × Piece)) (q : ℕ) → get (both row late) q ≡ option_or (found row q) (found (values_of late) q)
both_is row late q = get-held_of (row ++ values_of late) q ∙ found-append row (values_of late) q

push_cell : (row : List Piece) (piece : Piece) (q : ℕ) → found (row ++ piece ∷ []) q ≡ option_or (found row q) (cell piece q)
push_cell row piece q = found-append row (piece ∷ []) q ∙ ap (option_or (found row q)) (or_none (cell piece q))

push_or : (a b c : Option Cell) → (c ≡ None) ⊎ ((a ≡ None) × (b ≡ None)) → option_or (option_or a c) b ≡ option_or (option_or a b) c
push_or a b c (inl none) = rw (none, or_none a, or_none (option_or a b)) refl
push_or a b c (inr none) = rw (none.0, none.1) (or_none c)

pub pushed : (row : List Piece) (late : List (ℕ × Piece)) (end : ℕ) (piece : Piece) → IsKept row late end → IsSized piece → end ≤ piece.start
    → both (row ++ piece ∷ []) late ≡ put_run (both row late) piece.start piece.bytes piece.frame
pushed row late end piece kept sized behind = same_map nat_cmp_total nat_cmp-IsAntisymmetric _ _ (λ q.
    both_is (row ++ piece ∷ []) late q
    ∙ ap (λ (o : Option Cell). option_or o (found (values_of late) q)) (push_cell row piece q)
    ∙ push_or (found row q) (found (values_of late) q) (cell piece q) (elim (cases_lt q piece.start) [
      | inl before ↦ inl (run_cell-before piece.start piece.bytes piece.frame q before)
      | inr after ↦ inr (found_after 0 row end q kept.row_apart (omega arith), found_after 0 (values_of late) end q kept.late_apart (omega arith))
    ])
    ∙ sym (get-put_run (both row late) piece.start piece.bytes piece.frame q ∙ ap (λ (o : Option Cell). option_or o (cell piece q)) (both_is row late q)))

pub kept_pushed : (row : List Piece) (late : List (ℕ × Piece)) (end : ℕ) (piece : Piece) → IsKept row late end → IsSized piece → piece.start < piece.end → end ≤ piece.start
    → IsKept (row ++ piece ∷ []) late (max end piece.end)
kept_pushed row late end piece kept sized some behind = record {
  row_apart = apart_higher 0 (row ++ piece ∷ []) piece.end (max end piece.end) (apart_push 0 row end piece kept.row_apart behind sized some) (omega arith);
  late_keyed = kept.late_keyed;
  late_apart = apart_higher 0 (values_of late) end (max end piece.end) kept.late_apart (omega arith);
  once = λ q. elim (cases_lt q piece.start) [
    | inl before ↦ elim (kept.once q) [
      | inl none ↦ inl (get-held_of (row ++ piece ∷ []) q ∙ push_cell row piece q
          ∙ ap (option_or (found row q)) (run_cell-before piece.start piece.bytes piece.frame q before) ∙ or_none (found row q) ∙ sym (get-held_of row q) ∙ none)
      | inr none ↦ inr none
    ]
    | inr after ↦ inr (get-held_of (values_of late) q ∙ found_after 0 (values_of late) end q kept.late_apart (omega arith))
  ];
}

-- gaps put in
fill_or : (a c : Option Cell) → option_or a (cond (is_some a) None c) ≡ option_or a c
fill_or None c = refl
fill_or (Some x) c = refl

gap_or_held : (a c : Option Cell) → (cond (is_some a) None c ≡ None) ⊎ (a ≡ None)
gap_or_held None c = inr refl
gap_or_held (Some x) c = inl refl

pub gaps_free : (row : List Piece) (late : List (ℕ × Piece)) (end : ℕ) (piece : Piece) (gaps : List Piece) → IsKept row late end → AreGaps (both row late) piece gaps → AreFree late gaps
gaps_free row late end piece gaps kept are = record {
  low = piece.start;
  high = piece.end;
  end = end;
  keyed = kept.late_keyed;
  late_apart = kept.late_apart;
  apart = are.apart;
  once = λ q. elim (gap_or_held (get (both row late) q) (cell piece q)) [
    | inl none ↦ inl (are.fill q ∙ none)
    | inr none ↦ inr (late_none row late q none)
  ];
}

put_parts : (row : List Piece) (late : List (ℕ × Piece)) (end : ℕ) (piece : Piece) (gaps : List Piece) → IsKept row late end → AreGaps (both row late) piece gaps
    → IsWithAll late (with_pieces late gaps) gaps (max end piece.end)
put_parts row late end piece gaps kept are =
    let free = gaps_free row late end piece gaps kept are in
    late_with_all gaps late piece.start piece.end end (record { keyed = kept.late_keyed; apart = kept.late_apart }) are.apart (λ q. elim (free.once q) [
      | inl none ↦ inl (sym (get-held_of gaps q) ∙ none)
      | inr none ↦ inr (sym (get-held_of (values_of late) q) ∙ none)
    ])

pub gaps_put : (row : List Piece) (late : List (ℕ × Piece)) (end : ℕ) (piece : Piece) (gaps : List Piece) → IsKept row late end → AreGaps (both row late) piece gaps
    → both row (with_pieces late gaps) ≡ put_run (both row late) piece.start piece.bytes piece.frame
gaps_put row late end piece gaps kept are =
    let all = put_parts row late end piece gaps kept are in
    same_map nat_cmp_total nat_cmp-IsAntisymmetric _ _ (λ q.
    both_is row (with_pieces late gaps) q
    ∙ ap (option_or (found row q)) (all.is q)
    ∙ sym (or_assoc (found row q) (found (values_of late) q) (found gaps q))
    ∙ ap (λ (o : Option Cell). option_or o (found gaps q)) (sym (both_is row late q))
    ∙ ap (option_or (get (both row late) q)) (sym (get-held_of gaps q) ∙ are.fill q)
    ∙ fill_or (get (both row late) q) (cell piece q)
    ∙ sym (get-put_run (both row late) piece.start piece.bytes piece.frame q))

pub kept_put : (row : List Piece) (late : List (ℕ × Piece)) (end : ℕ) (piece : Piece) (gaps : List Piece) → IsKept row late end → AreGaps (both row late) piece gaps
    → IsKept row (with_pieces late gaps) (max end piece.end)
kept_put row late end piece gaps kept are =
    let all = put_parts row late end piece gaps kept are in
    record {
      row_apart = apart_higher 0 row end (max end piece.end) kept.row_apart (omega arith);
      late_keyed = all.late.keyed;
      late_apart = all.late.apart;
      once = λ q. elim (kept.once q) [
        | inl none ↦ inl none
        | inr none ↦ elim (gap_or_held (get (both row late) q) (cell piece q)) [
          | inl nothing ↦ inr (get-held_of (values_of (with_pieces late gaps)) q ∙ all.is q
              ∙ ap (λ (o : Option Cell). option_or o (found gaps q)) (sym (get-held_of (values_of late) q) ∙ none) ∙ sym (get-held_of gaps q) ∙ are.fill q ∙ nothing)
          | inr nothing ↦ inl (row_none row late q nothing)
        ]
      ];
    }
