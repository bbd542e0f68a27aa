-- Runs of positions, as they are put in and joined.
use Rattle.std.proofs.Common.{◌≡◌, ℕ, ◌<◌, ◌≤◌, max, Bool, true, false, ◌||◌, List, [], ◌∷◌, Option, None, Some, IsSome, is_some, unwrap_or, eqb, refl, sym, ap, ◌∙◌, subst, inl, inr, arith}
use Rattle.std.specs.BTreeMap.{insert_entry, is_at}
use Rattle.std.specs.Ordering.{nat_cmp, is_gt, is_lt}
use Rattle.std.specs.Cmp.{unsigned_tied}
use Rattle.std.proofs.lemmas.Bool.{false≢true, cases_Bool, cases_eq, cases_lt, cases_order, cond-true, cond-false, lt-ltb, le-ltb, eq-eqb, ne_eqb}
use Rattle.std.proofs.lemmas.Bool.Decides.{nat_tests}
use Rattle.std.proofs.lemmas.Map.Keys.{le_from_not_gt, ge_from_not_lt}
use Rattle.tcp_streams.specs.Runs.{lies_in, is_among, AreAhead, end_of_run, IsLastBegun, IsFirstOut, BeginsBehind, IsOneMore, AreJoined}

-- a run's positions
pub inside : (from to p : ℕ) → from ≤ p → p < to → lies_in from to p ≡ true
inside from to p low high = grind (arith, nat_tests)

pub before : (from to p : ℕ) → p < from → lies_in from to p ≡ false
before from to p low = grind (arith, nat_tests)

pub behind : (from to p : ℕ) → to ≤ p → lies_in from to p ≡ false
behind from to p high = grind (arith, nat_tests)

pub among_before : (low : ℕ) (runs : List (ℕ × ℕ)) (high p : ℕ) → AreAhead low runs high → p ≤ low → is_among runs p ≡ false
among_before low [] high p ahead less = refl
among_before low (run ∷ runs) high p ahead less =
    rw (before run.0 run.1 p (omega (arith, ahead.0.0, less))) (among_before run.0 runs high p ahead.1 (omega (arith, ahead.0.0, less)))

pub ahead_higher : (low : ℕ) (runs : List (ℕ × ℕ)) (high more : ℕ) → AreAhead low runs high → high ≤ more → AreAhead low runs more
ahead_higher low [] high more ahead less = tt
ahead_higher low (run ∷ runs) high more ahead less = ((ahead.0.0, ahead.0.1, omega (arith, ahead.0.2, less)), ahead_higher run.0 runs high more ahead.1 less)

-- joining
pub record AreJoining (old : List (ℕ × ℕ)) (to : ℕ) (new : List (ℕ × ℕ)) (end : ℕ) : Type 0 where
  pub order : to ≤ end
  pub run : (p : ℕ) → to ≤ p → p < end → is_among old p ≡ true
  pub same : (p : ℕ) → end ≤ p → is_among new p ≡ is_among old p
  pub ahead : (low high : ℕ) → AreAhead low old high → to ≤ high → (lower : ℕ) × AreAhead lower new high × (end ≤ high)

pub joining_begins : (old : List (ℕ × ℕ)) (to : ℕ) → AreJoining old to old to
joining_begins old to = record {
  order = omega arith;
  run = λ p a b. absurd (omega (arith, a, b));
  same = λ p a. refl;
  ahead = λ low high ahead within. (low, ahead, within);
}

or_left : (a b : Bool) → a ≡ true → (a || b) ≡ true
or_left a b e = rw e refl

or_right : (a b c : Bool) → a ≡ false → b ≡ c → (a || b) ≡ c
or_right a b c none e = rw none e

pub joining_more : (old : List (ℕ × ℕ)) (to : ℕ) (mid new : List (ℕ × ℕ)) (at end : ℕ) → AreJoining old to mid at → IsFirstOut mid new at end → AreJoining old to new (max at end)
joining_more old to mid new at end so_far out = record {
  order = omega (arith, so_far.order);
  run = λ p a b. elim (cases_lt p at) [
    | inl low ↦ so_far.run p a low
    | inr past ↦ sym (so_far.same p past) ∙ ap (λ (runs : List (ℕ × ℕ)). is_among runs p) out.is
        ∙ or_left (lies_in out.start end p) (is_among new p) (inside out.start end p (omega (arith, out.low, past)) (omega (arith, b, past)))
  ];
  same = λ p a.
      sym (ap (λ (runs : List (ℕ × ℕ)). is_among runs p) out.is ∙ or_right (lies_in out.start end p) (is_among new p) (is_among new p) (behind out.start end p (omega (arith, a))) refl)
      ∙ so_far.same p (omega (arith, a));
  ahead = λ low high ahead within.
      let was = so_far.ahead low high ahead within in
      let rest = subst (λ (runs : List (ℕ × ℕ)). AreAhead was.0 runs high) out.is was.1 in
      (out.start, rest.1, omega (arith, was.2, rest.0.2));
}

ahead_from : (lower at : ℕ) (runs : List (ℕ × ℕ)) (high : ℕ) → AreAhead lower runs high → BeginsBehind at runs → AreAhead at runs high
ahead_from lower at [] high ahead begins = tt
ahead_from lower at (run ∷ runs) high ahead begins = ((begins, ahead.0.1, ahead.0.2), ahead.1)

pub joining_ends : (old : List (ℕ × ℕ)) (to : ℕ) (new : List (ℕ × ℕ)) (end : ℕ) → AreJoining old to new end → BeginsBehind end new → AreJoined old to new end
joining_ends old to new end so_far begins = record {
  order = so_far.order;
  run = so_far.run;
  same = so_far.same;
  ahead = λ low high ahead within.
      let was = so_far.ahead low high ahead within in
      (ahead_from was.0 end new high was.1 begins, was.2);
}

-- one run more
at_is : (start key : ℕ) → is_at (nat_cmp start) key ≡ eqb start key
at_is start key = unsigned_tied start key

look_head : (start : ℕ) (e : ℕ × ℕ) (es : List (ℕ × ℕ)) → start ≡ e.0 → end_of_run start (e ∷ es) ≡ Some e.1
look_head start e es same = cond-true _ _ _ (at_is start e.0 ∙ eq-eqb start e.0 same)

look_tail : (start : ℕ) (e : ℕ × ℕ) (es : List (ℕ × ℕ)) → (start ≡ e.0 → ⊥) → end_of_run start (e ∷ es) ≡ end_of_run start es
look_tail start e es apart = cond-false _ _ _ (at_is start e.0 ∙ ne_eqb start e.0 apart)

put_low : (start end : ℕ) (e : ℕ × ℕ) (es : List (ℕ × ℕ)) → start < e.0 → insert_entry nat_cmp (e ∷ es) start end ≡ (start, end) ∷ e ∷ es
put_low start end e es low = rw (lt-ltb start e.0 low) refl

put_high : (start end : ℕ) (e : ℕ × ℕ) (es : List (ℕ × ℕ)) → e.0 < start → insert_entry nat_cmp (e ∷ es) start end ≡ e ∷ insert_entry nat_cmp es start end
put_high start end e es high = rw (le-ltb start e.0 (omega (arith, high)), ne_eqb start e.0 (λ same. absurd (omega (arith, high, same)))) refl

put_same : (start end : ℕ) (e : ℕ × ℕ) (es : List (ℕ × ℕ)) → start ≡ e.0 → insert_entry nat_cmp (e ∷ es) start end ≡ (e.0, end) ∷ es
put_same start end e es same = rw (le-ltb start e.0 (omega (arith, same)), eq-eqb start e.0 same) refl

or_swap : (a b c : Bool) → (a || (b || c)) ≡ (b || (a || c))
or_swap true true c = refl
or_swap true false c = refl
or_swap false b c = refl

some_of : (a b : ℕ) → Some a ≡ Some b → a ≡ b
some_of a b e = ap (λ (o : Option ℕ). unwrap_or o 0) e

-- a longer run in the place of one that begins where it does
longer : (start mid end p : ℕ) (more : Bool) → mid ≤ end → (lies_in start end p || more) ≡ (lies_in start end p || (lies_in start mid p || more))
longer start mid end p more order = elim (cases_Bool (lies_in start end p)) [
  | inl t ↦ rw t refl
  | inr f ↦ rw f (sym (or_right (lies_in start mid p) more more (elim (cases_lt p start) [
    | inl low ↦ before start mid p low
    | inr past ↦ elim (cases_lt p end) [
      | inl within ↦ absurd (false≢true (sym f ∙ inside start end p past within))
      | inr out ↦ behind start mid p (omega (arith, order, out))
    ]
  ]) refl))
]

put_among : (es : List (ℕ × ℕ)) (start end p : ℕ) → ((mid : ℕ) → end_of_run start es ≡ Some mid → mid ≤ end)
    → is_among (insert_entry nat_cmp es start end) p ≡ (lies_in start end p || is_among es p)
put_among [] start end p longest = refl
put_among (e ∷ es) start end p longest = elim (cases_order start e.0) [
  | inl same ↦
      ap (λ (runs : List (ℕ × ℕ)). is_among runs p) (put_same start end e es same)
      ∙ longer e.0 e.1 end p (is_among es p) (longest e.1 (look_head start e es same))
      ∙ ap (λ (n : ℕ). lies_in n end p || (lies_in e.0 e.1 p || is_among es p)) (sym same)
  | inr (inl low) ↦ ap (λ (runs : List (ℕ × ℕ)). is_among runs p) (put_low start end e es low)
  | inr (inr high) ↦
      ap (λ (runs : List (ℕ × ℕ)). is_among runs p) (put_high start end e es high)
      ∙ ap (λ (b : Bool). lies_in e.0 e.1 p || b)
      (put_among es start end p (λ mid is. longest mid (look_tail start e es (λ same. absurd (omega (arith, high, same))) ∙ is)))
      ∙ or_swap (lies_in e.0 e.1 p) (lies_in start end p) (is_among es p)
]

put_ahead : (es : List (ℕ × ℕ)) (low high start end : ℕ) → AreAhead low es high → low < start → start < end → end ≤ high → AreAhead low (insert_entry nat_cmp es start end) high
put_ahead [] low high start end ahead less some within = ((less, some, within), tt)
put_ahead (e ∷ es) low high start end ahead less some within = elim (cases_order start e.0) [
  | inl same ↦ subst (λ (runs : List (ℕ × ℕ)). AreAhead low runs high) (sym (put_same start end e es same)) ((ahead.0.0, omega (arith, same, some), within), ahead.1)
  | inr (inl first) ↦ subst (λ (runs : List (ℕ × ℕ)). AreAhead low runs high) (sym (put_low start end e es first)) ((less, some, within), ((first, ahead.0.1, ahead.0.2), ahead.1))
  | inr (inr later) ↦ subst (λ (runs : List (ℕ × ℕ)). AreAhead low runs high) (sym (put_high start end e es later))
      ((ahead.0.0, ahead.0.1, ahead.0.2), put_ahead es e.0 high start end ahead.1 later some within)
]

-- a run that is there
there : (es : List (ℕ × ℕ)) (start end p : ℕ) → end_of_run start es ≡ Some end → start ≤ p → p < end → is_among es p ≡ true
there [] start end p is low high = absurd (false≢true (ap is_some is))
there (e ∷ es) start end p is low high = elim (cases_eq start e.0) [
  | inl same ↦
      let last : e.1 ≡ end = some_of e.1 end (sym (look_head start e es same) ∙ is) in
      or_left (lies_in e.0 e.1 p) (is_among es p) (inside e.0 e.1 p (omega (arith, same, low)) (omega (arith, last, high)))
  | inr other ↦ elim (cases_Bool (lies_in e.0 e.1 p)) [
    | inl t ↦ rw t refl
    | inr f ↦ rw f (there es start end p (sym (look_tail start e es other) ∙ is) low high)
  ]
]

start_ahead : (es : List (ℕ × ℕ)) (low high start end : ℕ) → AreAhead low es high → end_of_run start es ≡ Some end → (low < start) × (end ≤ high)
start_ahead [] low high start end ahead is = absurd (false≢true (ap is_some is))
start_ahead (e ∷ es) low high start end ahead is = elim (cases_eq start e.0) [
  | inl same ↦
      let last : e.1 ≡ end = some_of e.1 end (sym (look_head start e es same) ∙ is) in
      (omega (arith, same, ahead.0.0), omega (arith, last, ahead.0.2))
  | inr other ↦
      let rest = start_ahead es e.0 high start end ahead.1 (sym (look_tail start e es other) ∙ is) in
      (omega (arith, ahead.0.0, rest.0), rest.1)
]

or_none : (a b : Bool) → b ≡ false → (a || b) ≡ a
or_none true b e = refl
or_none false b e = e

or_flip : (a b : Bool) → (a || b) ≡ (b || a)
or_flip true true = refl
or_flip true false = refl
or_flip false true = refl
or_flip false false = refl

-- a run that begins in another, or where that ends, makes it longer
widened : (es : List (ℕ × ℕ)) (start mid from to p : ℕ) → end_of_run start es ≡ Some mid → start ≤ from → from ≤ mid
    → (lies_in start (max to mid) p || is_among es p) ≡ (is_among es p || lies_in from to p)
widened es start mid from to p is low high = elim (cases_Bool (is_among es p)) [
  | inl t ↦ rw t (or_flip (lies_in start (max to mid) p) true)
  | inr f ↦ rw f (or_none (lies_in start (max to mid) p) false refl ∙ elim (cases_lt p mid) [
    | inl early ↦ elim (cases_lt p start) [
      | inl first ↦ before start (max to mid) p first ∙ sym (before from to p (omega (arith, first, low)))
      | inr past ↦ absurd (false≢true (sym f ∙ there es start mid p is past early))
    ]
    | inr late ↦ elim (cases_lt p to) [
      | inl within ↦ inside start (max to mid) p (omega (arith, low, high, late)) (omega (arith, within)) ∙ sym (inside from to p (omega (arith, high, late)) within)
      | inr out ↦ behind start (max to mid) p (omega (arith, late, out)) ∙ sym (behind from to p out)
    ]
  ])
]

pub one_longer : (es new : List (ℕ × ℕ)) (start mid from to end : ℕ) → IsLastBegun es from start mid → from ≤ mid → from < to → end ≡ max to mid
    → new ≡ insert_entry nat_cmp es start end → IsOneMore es from to new
one_longer es new start mid from to end begun touch some end_is put =
    let same : (m : ℕ) → end_of_run start es ≡ Some m → m ≤ max to mid = λ m at. let one : mid ≡ m = some_of mid m (sym begun.there ∙ at) in omega (arith, one) in
    let done : new ≡ insert_entry nat_cmp es start (max to mid) = put ∙ ap (insert_entry nat_cmp es start) end_is in
    record {
      is = λ p. ap (λ (runs : List (ℕ × ℕ)). is_among runs p) done ∙ put_among es start (max to mid) p same ∙ widened es start mid from to p begun.there begun.low touch;
      ahead = λ low_end high ahead less within.
          let at = start_ahead es low_end high start mid ahead begun.there in
          subst (λ (runs : List (ℕ × ℕ)). AreAhead low_end runs high) (sym done)
          (put_ahead es low_end high start (max to mid) ahead at.0 (omega (arith, begun.low, some)) (omega (arith, at.1, within)));
    }

one_new : (es new : List (ℕ × ℕ)) (from to : ℕ) → ((mid : ℕ) → end_of_run from es ≡ Some mid → mid ≤ to) → from < to → new ≡ insert_entry nat_cmp es from to → IsOneMore es from to new
one_new es new from to longest some put = record {
  is = λ p. ap (λ (runs : List (ℕ × ℕ)). is_among runs p) put ∙ put_among es from to p longest ∙ or_flip (lies_in from to p) (is_among es p);
  ahead = λ low high ahead less within. subst (λ (runs : List (ℕ × ℕ)). AreAhead low runs high) (sym put) (put_ahead es low high from to ahead less some within);
}

-- the last run that begins at or before another doesn't reach it
pub one_apart : (es new : List (ℕ × ℕ)) (start mid from to : ℕ) → IsLastBegun es from start mid → mid < from → from < to → new ≡ insert_entry nat_cmp es from to → IsOneMore es from to new
one_apart es new start mid from to begun short some put = one_new es new from to (λ other at.
    let order : from ≤ start = begun.last from (omega arith) (ap is_some at) in
    let same : start ≡ from = omega (arith, order, begun.low) in
    let one : mid ≡ other = some_of mid other (sym begun.there ∙ ap (λ (q : ℕ). end_of_run q es) same ∙ at) in
    omega (arith, one, short, some)) some put

-- none begins at or before it
pub one_first : (es new : List (ℕ × ℕ)) (from to : ℕ) → ((start : ℕ) → start ≤ from → end_of_run start es ≡ None) → from < to → new ≡ insert_entry nat_cmp es from to → IsOneMore es from to new
one_first es new from to none some put = one_new es new from to (λ other at. absurd (false≢true (ap is_some (sym (none from (omega arith)) ∙ at)))) some put

pub not_past : (a b : ℕ) → a ≤ b → is_gt (nat_cmp a b) ≡ false
not_past a b order = elim (cases_lt a b) [
  | inl less ↦ rw (lt-ltb a b less) refl
  | inr more ↦ let same : a ≡ b = omega (arith, order, more) in rw (le-ltb a b more, eq-eqb a b same) refl
]

pub last_begun : (es : List (ℕ × ℕ)) (at start end : ℕ) → end_of_run start es ≡ Some end → is_gt (nat_cmp start at) ≡ false
    → ((q : ℕ) → is_gt (nat_cmp q at) ≡ false → IsSome (end_of_run q es) → is_lt (nat_cmp start q) ≡ false) → IsLastBegun es at start end
last_begun es at start end is low greatest = record {
  there = is;
  low = le_from_not_gt start at low;
  last = λ other order there. ge_from_not_lt start other (greatest other (not_past other at order) there);
}
