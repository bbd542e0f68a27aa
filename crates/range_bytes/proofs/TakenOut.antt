-- A piece that is taken out by where it starts.
use Rattle.std.proofs.Common.{◌≡◌, ◌⊎◌, ℕ, ◌+◌, ◌-◌, ◌<◌, ◌≤◌, List, [], ◌∷◌, length, Option, Some, None, IfSome, IfNone, is_some, refl, sym, ap, ◌∙◌, subst, inl, inr, arith}
use Rattle.std.specs.Option.{option_or}
use Rattle.std.specs.Map.{values_of, remove_entry}
use Rattle.std.specs.BTreeMap.{is_at}
use Rattle.std.specs.Ordering.{nat_cmp}
use Rattle.std.specs.Cmp.{nat_cmp_total}
use Rattle.std.specs.FinMap.{get, get-empty, same_map, nat_cmp-IsAntisymmetric}
use Rattle.std.proofs.lemmas.Bool.{cond-true, cond-false, eq-eqb, ne_eqb, cases_eq, cases_lt}
use Rattle.range_bytes.specs.declared.piece.Piece.{Piece}
use Rattle.range_bytes.specs.Held.{Cell}
use Rattle.range_bytes.specs.Pieces.{held_of, IsApart, IsKeyed, IsKept}
use Rattle.range_bytes.specs.Joined.{IsTakenOut}
use Rattle.range_bytes.proofs.Runs.{or_none, or_assoc, run_cell-after, get-put_run, none_is_not_some, some_is}
use Rattle.range_bytes.proofs.PieceLemmas.{cell, found, get-held_of, apart_lower, found_before, cell_there}
use Rattle.range_bytes.proofs.LateLemmas.{look, look_head, look_tail, late_at, late_there, at_is, IsFree, IsLate}

-- with no pieces in a row
pub late_kept : (es : List (ℕ × Piece)) (end : ℕ) → IsKeyed es → IsApart 0 (values_of es) end → IsKept [] es end
late_kept es end keyed apart = record {
  row_apart = omega arith;
  late_keyed = keyed;
  late_apart = apart;
  once = λ q. inl (get-empty nat_cmp q);
}

pub record IsOut (es fs : List (ℕ × Piece)) (piece : Piece) (low high : ℕ) : Type 0 where
  pub late : IsLate low fs high
  pub is : (q : ℕ) → found (values_of es) q ≡ option_or (found (values_of fs) q) (cell piece q)
  pub gone : IsFree fs piece

turned : (a b : Option Cell) → (a ≡ None) ⊎ (b ≡ None) → option_or a b ≡ option_or b a
turned a b (inl none) = rw none (sym (or_none b))
turned a b (inr none) = rw none (or_none a)

abbrev without : ℕ → List (ℕ × Piece) → List (ℕ × Piece)
without start es = remove_entry (is_at (nat_cmp start)) es

pub late_out : (es : List (ℕ × Piece)) (low high start : ℕ) (piece : Piece) → IsLate low es high → look start es ≡ Some piece → IsOut es (without start es) piece low high
late_out [] low high start piece late is = absurd (none_is_not_some {X = Piece} None (ap is_some is) refl)
late_out (e ∷ es) low high start piece late is =
    let low_is : low ≤ e.1.start = late.apart.0 in
    let sized : e.1.start + length e.1.bytes ≡ e.1.end = late.apart.1 in
    let some : e.1.start < e.1.end = late.apart.2 in
    elim (cases_eq start e.0) [
      | inl same ↦
          let one : e.1 ≡ piece = some_is e.1 piece (sym (look_head start e es same) ∙ is) in
          let gone : without start (e ∷ es) ≡ es = cond-true _ _ _ (at_is start e.0 ∙ eq-eqb start e.0 same) in
          let first : IsOut (e ∷ es) es e.1 low high = record {
            late = record { keyed = late.keyed.1; apart = apart_lower e.1.end low (values_of es) high late.apart.3 (omega arith) };
            is = λ q. turned (cell e.1 q) (found (values_of es) q) (elim (cases_lt q e.1.end) [
              | inl before ↦ inr (found_before e.1.end (values_of es) high q late.apart.3 before)
              | inr past ↦ inl (run_cell-after e.1.start e.1.bytes e.1.frame q (omega arith))
            ]);
            gone = λ q a b. found_before e.1.end (values_of es) high q late.apart.3 b;
          } in
          subst (λ (p : Piece). IsOut (e ∷ es) (without start (e ∷ es)) p low high) one
          (subst (λ (fs : List (ℕ × Piece)). IsOut (e ∷ es) fs e.1 low high) (sym gone) first)
      | inr other ↦
          let tail : look start es ≡ Some piece = sym (look_tail start e es other) ∙ is in
          let rest = late_out es e.1.end high start piece (record { keyed = late.keyed.1; apart = late.apart.3 }) tail in
          let place = late_at es e.1.end high start piece late.keyed.1 late.apart.3 tail in
          let behind : e.1.end ≤ piece.start = place.1.low_is in
          let left : without start (e ∷ es) ≡ e ∷ without start es = cond-false _ _ _ (at_is start e.0 ∙ ne_eqb start e.0 other) in
          subst (λ (fs : List (ℕ × Piece)). IsOut (e ∷ es) fs piece low high) (sym left) (record {
            late = record { keyed = (late.keyed.0, rest.late.keyed); apart = (late.apart.0, late.apart.1, late.apart.2, rest.late.apart) };
            is = λ q. ap (option_or (cell e.1 q)) (rest.is q) ∙ sym (or_assoc (cell e.1 q) (found (values_of (without start es)) q) (cell piece q));
            gone = λ q a b.
                ap (λ (o : Option Cell). option_or o (found (values_of (without start es)) q)) (run_cell-after e.1.start e.1.bytes e.1.frame q (omega arith)) ∙ rest.gone q a b;
          })
    ]

pub late_without : (es : List (ℕ × Piece)) (low high start : ℕ) → IsLate low es high → IsLate low (without start es) high
late_without [] low high start late = late
late_without (e ∷ es) low high start late = elim (cases_eq start e.0) [
  | inl same ↦
      let gone : without start (e ∷ es) ≡ es = cond-true _ _ _ (at_is start e.0 ∙ eq-eqb start e.0 same) in
      subst (λ (fs : List (ℕ × Piece)). IsLate low fs high) (sym gone)
      (record { keyed = late.keyed.1; apart = apart_lower e.1.end low (values_of es) high late.apart.3 (omega (arith, late.apart.0, late.apart.2)) })
  | inr other ↦
      let rest = late_without es e.1.end high start (record { keyed = late.keyed.1; apart = late.apart.3 }) in
      let left : without start (e ∷ es) ≡ e ∷ without start es = cond-false _ _ _ (at_is start e.0 ∙ ne_eqb start e.0 other) in
      subst (λ (fs : List (ℕ × Piece)). IsLate low fs high) (sym left)
      (record { keyed = (late.keyed.0, rest.keyed); apart = (late.apart.0, late.apart.1, late.apart.2, rest.apart) })
]

pub out_some : (es : List (ℕ × Piece)) (high start : ℕ) (o : Option Piece) → IsLate 0 es high → o ≡ look start es
    → IfSome o (IsTakenOut (held_of (values_of es)) (held_of (values_of (without start es))) start)
out_some es high start None late is = tt
out_some es high start (Some piece) late is =
    let out = late_out es 0 high start piece late (sym is) in
    let place = late_at es 0 high start piece late.keyed late.apart (sym is) in
    let fs = without start es in
    let same : piece.start ≡ start = place.0 in
    subst (λ (at : ℕ). IsTakenOut (held_of (values_of es)) (held_of (values_of fs)) at piece) same (record {
      sized = place.1.sized;
      start = refl;
      some = place.1.some;
      held = same_map nat_cmp_total nat_cmp-IsAntisymmetric _ _ (λ q.
          get-held_of (values_of es) q ∙ out.is q
          ∙ ap (λ (o : Option Cell). option_or o (cell piece q)) (sym (get-held_of (values_of fs) q))
          ∙ sym (get-put_run (held_of (values_of fs)) piece.start piece.bytes piece.frame q));
      gone = λ q a b. get-held_of (values_of fs) q ∙ out.gone q a b;
    })

-- nothing begins at a position that isn't held, nor at one where no piece starts if none ends before it
pub out_none : (es : List (ℕ × Piece)) (high start : ℕ) (o : Option Piece) → IsLate 0 es high → o ≡ look start es → o ≡ None
    → (start ≡ 0) ⊎ (get (held_of (values_of es)) (start - 1) ≡ None) → get (held_of (values_of es)) start ≡ None
out_none es high start o late is none begun = get-held_of (values_of es) start ∙ elim (late_there es 0 high start late.keyed late.apart) [
  | inl nothing ↦ nothing
  | inr there ↦
      let piece = there.0 in
      let low : piece.start ≤ start = there.2 in
      let high_is : start < piece.end = there.3 in
      elim (cases_eq piece.start start) [
        | inl same ↦ absurd (none_is_not_some (look start es) (ap is_some (subst (λ (at : ℕ). look at es ≡ Some piece) same there.1)) (sym is ∙ none))
        | inr other ↦ elim begun [
          | inl zero ↦ absurd (other (omega arith))
          | inr free ↦
              let placed = (late_at es 0 high piece.start piece late.keyed late.apart there.1).1 in
              let before : piece.start < start = elim (cases_lt piece.start start) [ inl less ↦ less | inr more ↦ absurd (other (omega arith)) ] in
              let held = get-held_of (values_of es) (start - 1) ∙ placed.is (start - 1) (omega arith) (omega arith) ∙ cell_there piece (start - 1) placed.sized (omega arith) (omega arith) in
              absurd (none_is_not_some (get (held_of (values_of es)) (start - 1)) (ap is_some held) free)
        ]
      ]
]

pub out_free : (es : List (ℕ × Piece)) (high start : ℕ) (o : Option Piece) → IsLate 0 es high → o ≡ look start es
    → (start ≡ 0) ⊎ (get (held_of (values_of es)) (start - 1) ≡ None) → IfNone o (get (held_of (values_of es)) start ≡ None)
out_free es high start None late is begun = out_none es high start None late is refl begun
out_free es high start (Some piece) late is begun = tt
