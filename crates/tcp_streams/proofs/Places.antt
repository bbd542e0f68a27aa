-- Starts and front ends, as gaps are passed and bytes are put in.
use Rattle.std.proofs.Common.{◌≡◌, ℕ, zero, suc, ◌+◌, ◌-◌, ◌<◌, ◌≤◌, true, false, List, [], ◌∷◌, ◌++◌, length, Option, None, Some, IsSome, is_some, refl, sym, ap, ◌∙◌, subst, inl, inr, arith}
use Rattle.std.specs.Option.{option_or}
use Rattle.std.specs.FinMap.{get}
use Rattle.std.proofs.lemmas.Bool.{false≢true, cases_Bool, cases_lt, cases_order}
use Rattle.pk_base.specs.declared.lost.Lost.{Lost}
use Rattle.pk_base.specs.declared.stretch.Stretch.{Stretch}
use Rattle.range_bytes.specs.Held.{Held, IsFreeFrom, IsFirstHeld, IsNextHeld, put_run, run_cell, bytes_at}
use Rattle.range_bytes.proofs.Runs.{get-put_run, run_cell-before, run_cell-after, none_is_not_some}
use Rattle.tcp_streams.specs.Numbers.{window}
use Rattle.tcp_streams.specs.Gaps.{free_from, first_free, next_from, gaps_on, gaps, gaps_behind, start_past, end_past, left_behind}
use Rattle.tcp_streams.specs.Ways.{IsPlace, AreApart}

none_of : {X : Type 0} (o : Option X) → is_some o ≡ false → o ≡ None
none_of None e = refl
none_of (Some x) e = absurd (false≢true (sym e))

-- the least position that isn't held
pub free_from_is : (n : ℕ) (held : Held) (from : ℕ) → get held (from + n) ≡ None → IsFreeFrom held from (free_from n held from)
free_from_is zero held from none = record {
  order = omega arith;
  run = λ q a b. absurd (omega arith);
  free = let same : from + 0 ≡ from = omega arith in subst (λ (p : ℕ). get held p ≡ None) same none;
}
free_from_is (suc n) held from none = elim (cases_Bool (is_some (get held from))) [
  | inl there ↦
      let same : from + suc n ≡ (from + 1) + n = omega arith in
      let rest = free_from_is n held (from + 1) (subst (λ (p : ℕ). get held p ≡ None) same none) in
      rw there (record {
        order = omega (arith, rest.order);
        run = λ q a b. elim (cases_order q from) [
          | inl e ↦ subst (λ (p : ℕ). IsSome (get held p)) (sym e) there
          | inr (inl low) ↦ absurd (omega arith)
          | inr (inr high) ↦ rest.run q (omega arith) b
        ];
        free = rest.free;
      })
  | inr gone ↦ rw gone (record {
    order = omega arith;
    run = λ q a b. absurd (omega arith);
    free = none_of (get held from) gone;
  })
]

-- there is one
pub free_same : (held : Held) (from a b : ℕ) → IsFreeFrom held from a → IsFreeFrom held from b → a ≡ b
free_same held from a b fa fb = elim (cases_order a b) [
  | inl same ↦ same
  | inr (inl low) ↦ absurd (none_is_not_some (get held a) (fb.run a fa.order low) fa.free)
  | inr (inr high) ↦ absurd (none_is_not_some (get held b) (fa.run b fb.order high) fb.free)
]

pub first_free_is : (held : Held) (from : ℕ) → get held (from + window) ≡ None → IsFreeFrom held from (first_free held from)
first_free_is held from none = free_from_is window held from none

-- the least held position
pub next_none : (n : ℕ) (held : Held) (from : ℕ) → IsNextHeld held from None → next_from n held from ≡ None
next_none zero held from none = refl
next_none (suc n) held from none = rw (none from (omega arith)) (next_none n held (from + 1) (λ q low. none q (omega arith)))

next_later : (held : Held) (from next : ℕ) → IsFirstHeld held from next → from < next → IsFirstHeld held (from + 1) next
next_later held from next first low = record { order = omega arith; there = first.there; none = λ q a b. first.none q (omega arith) b }

pub next_near : (n : ℕ) (held : Held) (from next : ℕ) → IsFirstHeld held from next → next < from + n → next_from n held from ≡ Some next
next_near zero held from next first near = absurd (omega (arith, first.order))
next_near (suc n) held from next first near = elim (cases_lt from next) [
  | inl low ↦ rw (first.none from (omega arith) low) (next_near n held (from + 1) next (next_later held from next first low) (omega arith))
  | inr high ↦
      let same : from ≡ next = omega (arith, first.order) in
      let there : is_some (get held from) ≡ true = subst (λ (p : ℕ). IsSome (get held p)) (sym same) first.there in
      rw there (ap Some same)
]

pub next_far : (n : ℕ) (held : Held) (from next : ℕ) → IsFirstHeld held from next → from + n ≤ next → next_from n held from ≡ None
next_far zero held from next first far = refl
next_far (suc n) held from next first far =
    rw (first.none from (omega arith) (omega arith)) (next_far n held (from + 1) next (next_later held from next first (omega arith)) (omega arith))

pub record IsFound (n : ℕ) (held : Held) (from next : ℕ) : Type 0 where
  pub first : IsFirstHeld held from next
  pub near : next < from + n

some_is : (a b : ℕ) → Some a ≡ Some b → a ≡ b
some_is a b e = ap (λ (o : Option ℕ). elim o as (λ _. ℕ) [ None ↦ 0 | Some x ↦ x ]) e

pub next_is : (n : ℕ) (held : Held) (from next : ℕ) → next_from n held from ≡ Some next → IsFound n held from next
next_is zero held from next = λ e. absurd (false≢true (ap is_some e))
next_is (suc n) held from next = elim (cases_Bool (is_some (get held from))) [
  | inl there ↦ rw there (λ e.
      let same : from ≡ next = some_is from next e in
      record {
        first = record { order = omega arith; there = subst (λ (p : ℕ). IsSome (get held p)) same there; none = λ q a b. absurd (omega arith) };
        near = omega arith;
      })
  | inr gone ↦ rw gone (λ e.
      let rest = next_is n held (from + 1) next e in
      record {
        first = record {
          order = omega (arith, rest.first.order);
          there = rest.first.there;
          none = λ q a b. elim (cases_order q from) [
            | inl same ↦ subst (λ (p : ℕ). get held p ≡ None) (sym same) (none_of (get held from) gone)
            | inr (inl low) ↦ absurd (omega arith)
            | inr (inr high) ↦ rest.first.none q (omega arith) b
          ];
        };
        near = omega (arith, rest.near);
      })
]

-- a gap is passed
pub jump_free : (held : Held) (start front next : ℕ) → IsPlace held start front → front ≤ next → IsFreeFrom held next (first_free held next)
jump_free held start front next place low = first_free_is held next (place.window_is (next + window) (omega arith))

pub place_jump : (held : Held) (start front next : ℕ) → IsPlace held start front → IsFirstHeld held (front + 1) next → IsPlace held next (first_free held next)
place_jump held start front next place first =
    let order : front + 1 ≤ next = first.order in
    let free = jump_free held start front next place (omega arith) in
    let far : next ≤ first_free held next = free.order in
    record {
      order = far;
      run = free.run;
      free = free.free;
      base = λ same. absurd (none_is_not_some (get held next) first.there (subst (λ (p : ℕ). get held p ≡ None) (sym same) free.free));
      window_is = λ q low. place.window_is q (omega arith);
    }

-- more fuel changes nothing
pub gaps_enough : (n m : ℕ) (held : Held) (acked start front : ℕ) → IsPlace held start front → acked ≤ front + n → acked ≤ front + m → gaps n held acked front ≡ gaps m held acked front
gaps_enough zero zero held acked start front place a b = refl
gaps_enough zero (suc m) held acked start front place a b = let none : acked - front ≡ 0 = omega arith in rw none refl
gaps_enough (suc n) zero held acked start front place a b = let none : acked - front ≡ 0 = omega arith in rw none refl
gaps_enough (suc n) (suc m) held acked start front place a b =
    elim (next_from (acked - front) held (front + 1)) as (λ o. next_from (acked - front) held (front + 1) ≡ o → gaps_on (gaps n held acked) held front o ≡ gaps_on (gaps m held acked) held front o) [
      | None ↦ λ e. refl
      | Some next ↦ λ e.
          let found = next_is (acked - front) held (front + 1) next e in
          let order : front + 1 ≤ next = found.first.order in
          let free = jump_free held start front next place (omega arith) in
          let far : next ≤ first_free held next = free.order in
          ap (λ (gs : List Lost). record { from = front; to = next } ∷ gs)
          (gaps_enough n m held acked next (first_free held next) (place_jump held start front next place found.first) (omega arith) (omega arith))
    ] refl

pub gaps_more : (held : Held) (acked start front next : ℕ) → IsPlace held start front → next_from (acked - front) held (front + 1) ≡ Some next
    → gaps_behind held acked front ≡ record { from = front; to = next } ∷ gaps_behind held acked (first_free held next)
gaps_more held acked start front next place e =
    let found = next_is (acked - front) held (front + 1) next e in
    let order : front + 1 ≤ next = found.first.order in
    let near : next < front + 1 + (acked - front) = found.near in
    let free = jump_free held start front next place (omega arith) in
    let far : next ≤ first_free held next = free.order in
    let n = acked - front - 1 in
    let one : acked - front ≡ suc n = omega arith in
    ap (λ (k : ℕ). gaps k held acked front) one
    ∙ ap (gaps_on (gaps n held acked) held front) e
    ∙ ap (λ (gs : List Lost). record { from = front; to = next } ∷ gs)
    (gaps_enough n (acked - first_free held next) held acked next (first_free held next) (place_jump held start front next place found.first) (omega arith) (omega arith))

pub gaps_none : (held : Held) (acked front : ℕ) → next_from (acked - front) held (front + 1) ≡ None → gaps_behind held acked front ≡ []
gaps_none held acked front e =
    elim (acked - front) as (λ n. gaps n held acked front ≡ []) [
      | zero ↦ refl
      | suc n ↦ ap (gaps_on (gaps n held acked) held front) e
    ]

-- all gaps are passed
pub place_past : (n : ℕ) (held : Held) (acked start front : ℕ) → IsPlace held start front
    → IsPlace held (start_past start (gaps n held acked front)) (end_past held front (gaps n held acked front))
place_past zero held acked start front place = place
place_past (suc n) held acked start front place =
    elim (next_from (acked - front) held (front + 1)) as (λ o. next_from (acked - front) held (front + 1) ≡ o
    → IsPlace held (start_past start (gaps_on (gaps n held acked) held front o)) (end_past held front (gaps_on (gaps n held acked) held front o))) [
      | None ↦ λ e. place
      | Some next ↦ λ e. place_past n held acked next (first_free held next) (place_jump held start front next place (next_is (acked - front) held (front + 1) next e).first)
    ] refl

pub length-bytes_at : (held : Held) (from n : ℕ) → length (bytes_at held from n) ≡ n
length-bytes_at held from zero = refl
length-bytes_at held from (suc n) = let rest = length-bytes_at held (from + 1) n in omega (arith, rest)

pub apart_past : (n : ℕ) (held : Held) (acked start front low : ℕ) → IsPlace held start front → low ≤ start
    → AreApart low (left_behind held start (gaps n held acked front)) (start_past start (gaps n held acked front))
apart_past zero held acked start front low place order = order
apart_past (suc n) held acked start front low place order =
    elim (next_from (acked - front) held (front + 1)) as (λ o. next_from (acked - front) held (front + 1) ≡ o
    → AreApart low (left_behind held start (gaps_on (gaps n held acked) held front o)) (start_past start (gaps_on (gaps n held acked) held front o))) [
      | None ↦ λ e. order
      | Some next ↦ λ e.
          let found = next_is (acked - front) held (front + 1) next e in
          let far : front + 1 ≤ next = found.first.order in
          let run : start ≤ front = place.order in (
            order,
            apart_past n held acked next (first_free held next) (start + length (bytes_at held start (front - start)) + 1)
                (place_jump held start front next place found.first) (omega (arith, length-bytes_at held start (front - start))),
          )
    ] refl

pub apart_low : (low lower : ℕ) (xs : List Stretch) (next : ℕ) → lower ≤ low → AreApart low xs next → AreApart lower xs next
apart_low low lower [] next less apart = omega (arith, apart)
apart_low low lower (x ∷ xs) next less apart = (omega (arith, apart.0), apart.1)

pub apart_append : (low : ℕ) (xs : List Stretch) (mid : ℕ) (ys : List Stretch) (next : ℕ) → AreApart low xs mid → AreApart mid ys next → AreApart low (xs ++ ys) next
apart_append low [] mid ys next before after = apart_low mid low ys next before after
apart_append low (x ∷ xs) mid ys next before after = (before.0, apart_append (x.start + length x.bytes + 1) xs mid ys next before.1 after)

-- bytes are put in
pub put_stays : (held : Held) (p : ℕ) (bytes : List ℕ) (frame q : ℕ) → IsSome (get held q) → IsSome (get (put_run held p bytes frame) q)
put_stays held p bytes frame q there =
    let same : get (put_run held p bytes frame) q ≡ option_or (get held q) (run_cell p bytes frame q) = get-put_run held p bytes frame q in
    rw same (elim (get held q) as (λ o. IsSome o → IsSome (option_or o (run_cell p bytes frame q))) [
      | None ↦ λ e. absurd (false≢true e)
      | Some x ↦ λ e. refl
    ] there)

pub put_after : (held : Held) (front p : ℕ) (bytes : List ℕ) (frame q : ℕ) → get held q ≡ None → length bytes ≤ front + window - p → front + window ≤ q → get (put_run held p bytes frame) q ≡ None
put_after held front p bytes frame q none short low =
    get-put_run held p bytes frame q ∙ rw none (elim (cases_lt q p) [
      | inl before ↦ run_cell-before p bytes frame q before
      | inr after ↦ run_cell-after p bytes frame q (omega arith)
    ])

pub put_free : (held : Held) (start front p : ℕ) (bytes : List ℕ) (frame : ℕ) → IsPlace held start front → length bytes ≤ front + window - p
    → IsFreeFrom (put_run held p bytes frame) front (first_free (put_run held p bytes frame) front)
put_free held start front p bytes frame place short =
    first_free_is (put_run held p bytes frame) front (put_after held front p bytes frame (front + window) (place.window_is (front + window) (omega arith)) short (omega arith))

pub place_put : (held : Held) (start front p : ℕ) (bytes : List ℕ) (frame : ℕ) → IsPlace held start front → length bytes ≤ front + window - p
    → IsPlace (put_run held p bytes frame) start (first_free (put_run held p bytes frame) front)
place_put held start front p bytes frame place short =
    let order : start ≤ front = place.order in
    let free = put_free held start front p bytes frame place short in
    let far : front ≤ first_free (put_run held p bytes frame) front = free.order in
    record {
      order = omega arith;
      run = λ q a b. elim (cases_lt q front) [
        | inl before ↦ put_stays held p bytes frame q (place.run q a before)
        | inr after ↦ free.run q after b
      ];
      free = free.free;
      base = λ same. place.base (omega arith);
      window_is = λ q low. put_after held front p bytes frame q (place.window_is q (omega arith)) short (omega arith);
    }
