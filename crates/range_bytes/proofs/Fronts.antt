-- The least position that isn't held, as bytes are put in.
use Rattle.std.proofs.Common.{◌≡◌, ℕ, ◌+◌, ◌<◌, ◌≤◌, cond, leb, List, length, Option, Some, None, is_some, IsSome, refl, sym, ap, ◌∙◌, subst, inl, inr, arith}
use Rattle.std.specs.Option.{option_or}
use Rattle.std.specs.Ordering.{nat_cmp}
use Rattle.std.specs.Cmp.{nat_cmp_total}
use Rattle.std.specs.FinMap.{get, empty, get-empty, same_map, nat_cmp-IsAntisymmetric}
use Rattle.std.proofs.lemmas.Bool.{cases_lt, le-leb, lt-leb}
use Rattle.range_bytes.specs.Held.{Cell, Held, put_run, run_cell, IsFront, IsFreeFrom}
use Rattle.range_bytes.proofs.Runs.{run_cell-in, run_cell-before, run_cell-after, get-put_run, or_none, some_or}

-- a run where all is held changes nothing
pub put_held : (held : Held) (start : ℕ) (bytes : List ℕ) (frame : ℕ) → ((q : ℕ) → start ≤ q → q < start + length bytes → IsSome (get held q)) → put_run held start bytes frame ≡ held
put_held held start bytes frame there = same_map nat_cmp_total nat_cmp-IsAntisymmetric _ _ (λ q.
    get-put_run held start bytes frame q ∙ elim (cases_lt q start) [
      | inl before ↦ ap (option_or (get held q)) (run_cell-before start bytes frame q before) ∙ or_none (get held q)
      | inr low ↦ elim (cases_lt q (start + length bytes)) [
        | inl high ↦ some_or (get held q) (run_cell start bytes frame q) (there q low high)
        | inr past ↦ ap (option_or (get held q)) (run_cell-after start bytes frame q past) ∙ or_none (get held q)
      ]
    ])

pub front_none : IsFront empty 0
front_none = record { below = λ q before. absurd (omega arith); free = get-empty nat_cmp 0 }

second : (a b : Option Cell) → IsSome b → IsSome (option_or a b)
second None b there = there
second (Some x) b there = refl

put_some : (held : Held) (start : ℕ) (bytes : List ℕ) (frame q : ℕ) → IsSome (option_or (get held q) (run_cell start bytes frame q)) → IsSome (get (put_run held start bytes frame) q)
put_some held start bytes frame q there = subst (λ (o : Option Cell). IsSome o) (sym (get-put_run held start bytes frame q)) there

pub front_put : (held : Held) (start : ℕ) (bytes : List ℕ) (frame front known to : ℕ) → IsFront held front → known ≡ cond (leb start front) (start + length bytes) front
    → IsFreeFrom (put_run held start bytes frame) known to → IsFront (put_run held start bytes frame) to
front_put held start bytes frame front known to is known_is free = record {
  below = λ q before. elim (cases_lt q known) [
    | inr after ↦ free.run q after before
    | inl low ↦ elim (cases_lt q front) [
      | inl old ↦ put_some held start bytes frame q (subst (λ (o : Option Cell). IsSome o) (sym (some_or (get held q) (run_cell start bytes frame q) (is.below q old))) (is.below q old))
      | inr new ↦
          let inside : (start ≤ q) × (q < start + length bytes) = elim (cases_lt front start) [
            | inl apart ↦ absurd (omega (arith, known_is ∙ ap (λ b. cond b (start + length bytes) front) (lt-leb start front apart)))
            | inr touch ↦ (omega arith, omega (arith, known_is ∙ ap (λ b. cond b (start + length bytes) front) (le-leb start front touch)))
          ] in
          put_some held start bytes frame q (second (get held q) (run_cell start bytes frame q) (ap is_some (run_cell-in start bytes frame q inside.0 inside.1)))
    ]
  ];
  free = free.free;
}
