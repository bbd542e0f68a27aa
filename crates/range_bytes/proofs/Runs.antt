-- What a run of bytes leaves at each position.
use Rattle.std.proofs.Common.{◌≡◌, ℕ, zero, suc, ◌+◌, ◌-◌, ◌<◌, ◌≤◌, Bool, false, cond, List, [], ◌∷◌, ◌++◌, length, slice_index, Option, Some, None, IsSome, is_some, ltb, leb, eqb, refl, sym, ap, ◌∙◌, subst, inl, inr, arith, take, drop, drop-cons}
use Rattle.std.specs.Option.{option_or, unwrap_or}
use Rattle.std.specs.Cmp.{nat_cmp_total, unsigned_tied}
use Rattle.std.specs.FinMap.{get, insert, get-insert}
use Rattle.std.proofs.lemmas.Bool.{false≢true, cond-true, cond-false, and_from, and_left, and_right, le-leb, lt-leb, lt-ltb, le-ltb, eq-eqb, ne_eqb, cases_lt, cases_order}
use Rattle.std.proofs.lemmas.Bool.Decides.{eqb_tells}
use Rattle.range_bytes.specs.Held.{Cell, Held, put_new, put_run, run_cell, IsFront, bytes_at}

pub some_is : {X : Type 0} (x y : X) → Some x ≡ Some y → x ≡ y
some_is {X} x y same = ap (λ (o : Option X). unwrap_or o x) same

pub or_none : {X : Type 0} (o : Option X) → option_or o None ≡ o
or_none None = refl
or_none (Some x) = refl

pub some_or : {X : Type 0} (a b : Option X) → IsSome a → option_or a b ≡ a
some_or None b there = absurd (false≢true there)
some_or (Some x) b there = refl

pub or_assoc : {X : Type 0} (a b c : Option X) → option_or (option_or a b) c ≡ option_or a (option_or b c)
or_assoc None b c = refl
or_assoc (Some x) b c = refl

-- a run has its bytes at its positions, and nothing elsewhere
pub run_cell-in : (start : ℕ) (bytes : List ℕ) (frame q : ℕ) → start ≤ q → q < start + length bytes → run_cell start bytes frame q ≡ Some (slice_index bytes (q - start), frame)
run_cell-in start bytes frame q low high =
    cond-true _ _ _ (and_from (leb start q) (ltb q (start + length bytes)) (le-leb start q low) (lt-ltb q (start + length bytes) high))

pub run_cell-before : (start : ℕ) (bytes : List ℕ) (frame q : ℕ) → q < start → run_cell start bytes frame q ≡ None
run_cell-before start bytes frame q low =
    cond-false _ _ _ (and_left (leb start q) (ltb q (start + length bytes)) (lt-leb start q low))

pub run_cell-after : (start : ℕ) (bytes : List ℕ) (frame q : ℕ) → start + length bytes ≤ q → run_cell start bytes frame q ≡ None
run_cell-after start bytes frame q high =
    cond-false _ _ _ (and_right (leb start q) (ltb q (start + length bytes)) (le-ltb q (start + length bytes) high))

one_later : (bytes : List ℕ) (byte i j : ℕ) → i ≡ j + 1 → slice_index (byte ∷ bytes) i ≡ slice_index bytes j
one_later bytes byte i j e = subst (λ (k : ℕ). slice_index (byte ∷ bytes) k ≡ slice_index bytes j) (let same : suc j ≡ i = omega (arith, e) in same) refl

run_cell-empty : (start frame q : ℕ) → run_cell start [] frame q ≡ None
run_cell-empty start frame q = elim (cases_lt q start) [
  | inl low ↦ run_cell-before start [] frame q low
  | inr high ↦ run_cell-after start [] frame q (omega arith)
]

run_cell-cons : (start byte : ℕ) (bytes : List ℕ) (frame q : ℕ) → run_cell start (byte ∷ bytes) frame q ≡ option_or (cond (eqb q start) (Some (byte, frame)) None) (run_cell (start + 1) bytes frame q)
run_cell-cons start byte bytes frame q = elim (cases_order q start) [
  | inl same ↦
      let there : run_cell start (byte ∷ bytes) frame q ≡ Some (slice_index (byte ∷ bytes) (q - start), frame) = run_cell-in start (byte ∷ bytes) frame q (omega arith) (omega arith) in
      let first : q - start ≡ 0 = omega arith in
      let at : run_cell start (byte ∷ bytes) frame q ≡ Some (byte, frame) = there ∙ ap (λ (i : ℕ). Some (slice_index (byte ∷ bytes) i, frame)) first in
      rw (at, eq-eqb q start same) refl
  | inr (inl low) ↦
      rw (run_cell-before start (byte ∷ bytes) frame q low, ne_eqb q start (λ e. absurd (omega arith)), run_cell-before (start + 1) bytes frame q (omega arith)) refl
  | inr (inr high) ↦
      let apart : eqb q start ≡ false = ne_eqb q start (λ e. absurd (omega arith)) in
      elim (cases_lt q (start + 1 + length bytes)) [
        | inl inside ↦
            let here : run_cell start (byte ∷ bytes) frame q ≡ Some (slice_index (byte ∷ bytes) (q - start), frame) = run_cell-in start (byte ∷ bytes) frame q (omega arith) (omega arith) in
            let there : run_cell (start + 1) bytes frame q ≡ Some (slice_index bytes (q - (start + 1)), frame) = run_cell-in (start + 1) bytes frame q (omega arith) inside in
            rw (here, apart, there, one_later bytes byte (q - start) (q - (start + 1)) (omega arith)) refl
        | inr past ↦
            rw (run_cell-after start (byte ∷ bytes) frame q (omega arith), apart, run_cell-after (start + 1) bytes frame q past) refl
      ]
]

get-insert_at : (held : Held) (p : ℕ) (cell : Cell) (q : ℕ) → get (insert held p cell) q ≡ cond (eqb q p) (Some cell) (get held q)
get-insert_at held p cell q = get-insert nat_cmp_total held p cell q ∙ ap (λ (b : Bool). cond b (Some cell) (get held q)) (unsigned_tied q p)

get-put_new : (held : Held) (p : ℕ) (cell : Cell) (q : ℕ) → get (put_new held p cell) q ≡ option_or (get held q) (cond (eqb q p) (Some cell) None)
get-put_new held p cell q =
    elim (get held p) as (λ (o : Option Cell). get held p ≡ o → get (cond (is_some o) held (insert held p cell)) q ≡ option_or (get held q) (cond (eqb q p) (Some cell) None)) [
      | None ↦ λ e. get-insert_at held p cell q ∙ elim (eqb_tells q p) [
        | inl w ↦ let none : get held q ≡ None = subst (λ (x : ℕ). get held x ≡ None) (sym w.1) e in rw (w.0, none) refl
        | inr w ↦ rw w.0 (sym (or_none (get held q)))
      ]
      | Some d ↦ λ e. elim (eqb_tells q p) [
        | inl w ↦ let there : get held q ≡ Some d = subst (λ (x : ℕ). get held x ≡ Some d) (sym w.1) e in rw there refl
        | inr w ↦ rw w.0 (sym (or_none (get held q)))
      ]
    ] refl

-- what came first at a position stays
pub get-put_run : (held : Held) (start : ℕ) (bytes : List ℕ) (frame q : ℕ) → get (put_run held start bytes frame) q ≡ option_or (get held q) (run_cell start bytes frame q)
get-put_run held start [] frame q = rw (run_cell-empty start frame q) (sym (or_none (get held q)))
get-put_run held start (byte ∷ bytes) frame q =
    get-put_run (put_new held start (byte, frame)) (start + 1) bytes frame q
    ∙ ap (λ (o : Option Cell). option_or o (run_cell (start + 1) bytes frame q)) (get-put_new held start (byte, frame) q)
    ∙ or_assoc (get held q) (cond (eqb q start) (Some (byte, frame)) None) (run_cell (start + 1) bytes frame q)
    ∙ ap (option_or (get held q)) (sym (run_cell-cons start byte bytes frame q))

-- there is one least position that isn't held
pub none_is_not_some : {X : Type 0} (o : Option X) → IsSome o → o ≡ None → ⊥
none_is_not_some o there none = false≢true (sym (ap is_some none) ∙ there)

pub fronts_same : (held : Held) (a b : ℕ) → IsFront held a → IsFront held b → a ≡ b
fronts_same held a b fa fb = elim (cases_order a b) [
  | inl same ↦ same
  | inr (inl low) ↦ absurd (none_is_not_some (get held a) (fb.below a low) fa.free)
  | inr (inr high) ↦ absurd (none_is_not_some (get held b) (fa.below b high) fb.free)
]

-- some bytes, and then some more
pub bytes_at-append : (held : Held) (from a b : ℕ) → bytes_at held from (a + b) ≡ bytes_at held from a ++ bytes_at held (from + a) b
bytes_at-append held from zero b = let none : from + 0 ≡ from = omega arith in let all : 0 + b ≡ b = omega arith in rw (none, all) refl
bytes_at-append held from (suc a) b =
    let one : suc a + b ≡ suc (a + b) = omega arith in
    let there : from + suc a ≡ (from + 1) + a = omega arith in
    rw (one, there, bytes_at-append held (from + 1) a b) refl

-- the bytes of a run, where it is what is held
pub bytes_at-run : (held : Held) (bytes : List ℕ) (start frame at n : ℕ) → start ≤ at → at + n ≤ start + length bytes
    → ((q : ℕ) → at ≤ q → q < at + n → get held q ≡ run_cell start bytes frame q)
    → bytes_at held at n ≡ take n (drop (at - start) bytes)
bytes_at-run held bytes start frame at zero low high there = refl
bytes_at-run held bytes start frame at (suc n) low high there =
    let here : get held at ≡ Some (slice_index bytes (at - start), frame) = there at (omega arith) (omega arith) ∙ run_cell-in start bytes frame at low (omega arith) in
    let next : (at + 1) - start ≡ suc (at - start) = omega arith in
    let rest : bytes_at held (at + 1) n ≡ take n (drop (suc (at - start)) bytes) =
    subst (λ (i : ℕ). bytes_at held (at + 1) n ≡ take n (drop i bytes)) next
    (bytes_at-run held bytes start frame (at + 1) n (omega arith) (omega arith) (λ q a b. there q (omega arith) (omega arith))) in
    let inside : at - start < length bytes = omega arith in
    rw (here, rest, drop-cons bytes (at - start) 0 inside) refl
