-- How many positions are held.
use Rattle.std.proofs.Common.{◌≡◌, ℕ, zero, suc, ◌+◌, ◌-◌, ◌≤◌, List, length, Option, None, Some, IsSome, refl, sym, ap, subst, inl, inr, arith}
use Rattle.std.specs.Ordering.{nat_cmp}
use Rattle.std.specs.FinMap.{get, empty, get-empty}
use Rattle.std.specs.Option.{option_or}
use Rattle.std.proofs.lemmas.Bool.{false≢true, cases_lt}
use Rattle.range_bytes.specs.Held.{Held, Cell, HoldsAll, put_run, run_cell, one_if_held, held_below}
use Rattle.range_bytes.proofs.Runs.{get-put_run, run_cell-before, run_cell-after}

one_some : (o : Option Cell) → IsSome o → one_if_held o ≡ 1
one_some None there = absurd (false≢true there)
one_some (Some cell) there = refl

one_most : (o : Option Cell) → one_if_held o ≤ 1
one_most None = omega arith
one_most (Some cell) = omega arith

one_or : (a b : Option Cell) → one_if_held (option_or a b) ≤ one_if_held a + one_if_held b
one_or None b = omega arith
one_or (Some cell) b = omega arith

-- a run of held positions is no longer than what is held
pub run_fits : (held : Held) (from to : ℕ) → HoldsAll held from to → to - from ≤ held_below to held
run_fits held from zero all = omega arith
run_fits held from (suc n) all = elim (cases_lt n from) [
  | inl before ↦ omega (arith, before)
  | inr after ↦
      let rest = run_fits held from n (λ p low high. all p low (omega (arith, high))) in
      omega (arith, rest, after, one_some (get held n) (all n after (omega arith)))
]

pub none_below : (n : ℕ) → held_below n empty ≡ 0
none_below zero = refl
none_below (suc n) = let here : one_if_held (get empty n) ≡ 0 = ap one_if_held (get-empty nat_cmp n) in omega (arith, here, none_below n)

-- bytes that are put in
pub record AddsFew (n : ℕ) (held more : Held) (p size : ℕ) : Type 0 where
  pub few : held_below n more ≤ held_below n held + size
  pub near : held_below n more ≤ held_below n held + (n - p)

pub put_few : (n : ℕ) (held : Held) (p : ℕ) (bytes : List ℕ) (frame : ℕ) → AddsFew n held (put_run held p bytes frame) p (length bytes)
put_few zero held p bytes frame = record { few = omega arith; near = omega arith }
put_few (suc n) held p bytes frame =
    let rest = put_few n held p bytes frame in
    let new = run_cell p bytes frame n in
    let here : one_if_held (get (put_run held p bytes frame) n) ≤ one_if_held (get held n) + one_if_held new =
    subst (λ (o : Option Cell). one_if_held o ≤ one_if_held (get held n) + one_if_held new) (sym (get-put_run held p bytes frame n)) (one_or (get held n) new) in
    elim (cases_lt n p) [
      | inl before ↦
          let none : one_if_held new ≡ 0 = ap one_if_held (run_cell-before p bytes frame n before) in
          record { few = omega (arith, rest.few, here, none); near = omega (arith, rest.near, here, none, before) }
      | inr after ↦ elim (cases_lt n (p + length bytes)) [
        | inl within ↦
            record { few = omega (arith, rest.near, here, one_most new, after, within); near = omega (arith, rest.near, here, one_most new, after) }
        | inr past ↦
            let none : one_if_held new ≡ 0 = ap one_if_held (run_cell-after p bytes frame n past) in
            record { few = omega (arith, rest.few, here, none); near = omega (arith, rest.near, here, none, after) }
      ]
    ]
