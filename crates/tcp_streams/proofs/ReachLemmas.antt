-- The numbers of a direction go on as the direction does.
use Rattle.std.proofs.Common.{◌≡◌, ℕ, ◌+◌, ◌-◌, ◌^◌, ◌<◌, ◌≤◌, max, min, Bool, true, false, ◌||◌, List, [], ◌∷◌, ◌++◌, length, drop, Option, None, Some, IsSome, is_some, unwrap_or, refl, sym, ap, ◌∙◌, subst, inl, inr, arith}
use Rattle.std.specs.Ordering.{nat_cmp}
use Rattle.std.specs.FinMap.{get, get-empty}
use Rattle.std.specs.Option.{option_or}
use Rattle.std.proofs.lemmas.Bool.{false≢true, cases_Bool, cases_lt, cond-true, cond-false, lt-ltb, le-ltb}
use Rattle.std.proofs.lemmas.Bool.Decides.{leb_tells}
use Rattle.std.proofs.lemmas.List.{length-take, length-drop}
use Rattle.pk_base.specs.declared.lost.Lost.{Lost}
use Rattle.pk_base.specs.declared.stretch.Stretch.{Stretch}
use Rattle.range_bytes.specs.Held.{Held, IsFreeFrom, IsFirstHeld, run_cell, bytes_at}
use Rattle.range_bytes.proofs.Runs.{get-put_run}
use Rattle.tcp_streams.specs.declared.segment.Segment.{Segment}
use Rattle.tcp_streams.specs.Numbers.{first_number, ahead, place, skipped, taken_bytes, window}
use Rattle.tcp_streams.specs.Gaps.{first_free, next_from, AreBetween}
use Rattle.tcp_streams.specs.Ways.{WayState, nothing, end_of, lost_in, start_for, front_for, origin_for, held_after, own_step, other_step, acked_by, IsWay}
use Rattle.tcp_streams.specs.Runs.{lies_in, is_among, AreAhead, AreJoined, IsOneMore}
use Rattle.tcp_streams.specs.Reaches.{ReachState, begun, AreHeldFrom, IsReachOf, IsNear, HasPassed, run_low, run_high, IsPutIn, TakesOwn, TakesOther, next_acked, raised}
use Rattle.tcp_streams.specs.PlacesKept.{ReachSteps}
use Rattle.tcp_streams.proofs.GapLemmas.{here, beyond, nowhere, behind_none, IsPassing, passing_begins, passing_more, passing_ends}
use Rattle.tcp_streams.proofs.Places.{length-bytes_at, free_same, put_free, place_past}
use Rattle.tcp_streams.proofs.WayLemmas.{taken_short}
use Rattle.tcp_streams.proofs.RunLemmas.{among_before, ahead_higher, before, behind, inside}

-- a run is put in
pub high_small : (u count : ℕ) → run_high u count ≤ 2 ^ 24
unfolding window
high_small u count = omega arith

or_none : (a b : Bool) → b ≡ false → (a || b) ≡ a
or_none true b e = refl
or_none false b e = e

or_right : (a b c : Bool) → a ≡ c → (a || b) ≡ (c || b)
or_right a b c e = ap (λ (x : Bool). x || b) e

or_true : (a b : Bool) → b ≡ true → (a || b) ≡ true
or_true true b e = refl
or_true false b e = e

or_first : (a b : Bool) → a ≡ true → (a || b) ≡ true
or_first a b e = rw e refl

-- there is none to put in
pub put_none : (old : ReachState) (from to : ℕ) → to ≤ from → IsPutIn old from to old
put_none old from to none =
    let out : (p : ℕ) → lies_in from to p ≡ false = λ p. elim (cases_lt p from) [
      | inl low ↦ before from to p low
      | inr past ↦ behind from to p (omega (arith, none, past))
    ] in
    record {
      origin = refl;
      acked = refl;
      order = omega arith;
      run = λ p a b. absurd (omega (arith, a, b));
      same = λ p a. sym (or_none (is_among old.ahead p) (lies_in from to p) (out p));
      near = λ top ahead within room. (ahead, room);
    }

-- it begins at the front end
pub put_at_end : (old new : ReachState) (from to : ℕ) → from ≡ old.end → from < to → new.origin ≡ old.origin → new.acked ≡ old.acked
    → AreJoined old.ahead to new.ahead new.end → IsPutIn old from to new
put_at_end old new from to at some origin acked joined = record {
  origin = origin;
  acked = acked;
  order = omega (arith, at, some, joined.order);
  run = λ p a b. elim (cases_lt p to) [
    | inl low ↦ or_true (is_among old.ahead p) (lies_in from to p) (inside from to p (omega (arith, at, a)) low)
    | inr past ↦ or_first (is_among old.ahead p) (lies_in from to p) (joined.run p past b)
  ];
  same = λ p a. joined.same p a ∙ sym (or_none (is_among old.ahead p) (lies_in from to p) (behind from to p (omega (arith, a, joined.order))));
  near = λ top ahead within room. joined.ahead old.end top ahead within;
}

-- it begins behind the front end
pub put_later : (old new : ReachState) (from to : ℕ) → old.end < from → new.origin ≡ old.origin → new.acked ≡ old.acked → new.end ≡ old.end
    → IsOneMore old.ahead from to new.ahead → IsPutIn old from to new
put_later old new from to past origin acked end more = record {
  origin = origin;
  acked = acked;
  order = omega (arith, end);
  run = λ p a b. absurd (omega (arith, a, b, end));
  same = λ p a. more.is p;
  near = λ top ahead within room.
      (subst (λ (n : ℕ). AreAhead n new.ahead top) (sym end) (more.ahead old.end top ahead past within), omega (arith, end, room));
}

-- what is held, by the runs
held_there : (from : ℕ) (held : Held) (runs : List (ℕ × ℕ)) (p : ℕ) → AreHeldFrom from held runs → from ≤ p → is_among runs p ≡ true → IsSome (get held p)
held_there from held runs p are low e = are p low ∙ e

none_of : {X : Type 0} (o : Option X) → is_some o ≡ false → o ≡ None
none_of None e = refl
none_of (Some x) e = absurd (false≢true (sym e))

held_none : (from : ℕ) (held : Held) (runs : List (ℕ × ℕ)) (p : ℕ) → AreHeldFrom from held runs → from ≤ p → is_among runs p ≡ false → get held p ≡ None
held_none from held runs p are low e = none_of (get held p) (are p low ∙ e)

first_held : (front : ℕ) (held : Held) (run : ℕ × ℕ) (runs : List (ℕ × ℕ)) (high : ℕ) → AreHeldFrom front held (run ∷ runs) → AreAhead front (run ∷ runs) high → IsFirstHeld held (front + 1) run.0
first_held front held run runs high are ahead = record {
  order = omega (arith, ahead.0.0);
  there = held_there front held (run ∷ runs) run.0 are (omega (arith, ahead.0.0)) (or_first (lies_in run.0 run.1 run.0) (is_among runs run.0) (inside run.0 run.1 run.0 (omega arith) ahead.0.1));
  none = λ q a b. held_none front held (run ∷ runs) q are (omega (arith, a))
      (rw (before run.0 run.1 q b) (among_before run.0 runs high q ahead.1 (omega (arith, b))));
}

pub next_is_acked : (front acked : ℕ) (held : Held) (runs : List (ℕ × ℕ)) (high : ℕ) → AreHeldFrom front held runs → AreAhead front runs high
    → next_acked runs acked ≡ next_from (acked - front) held (front + 1)
next_is_acked front acked held [] high are ahead = sym (nowhere held acked front (λ q low. held_none front held [] q are (omega (arith, low)) refl))
next_is_acked front acked held (run ∷ runs) high are ahead =
    let first = first_held front held run runs high are ahead in
    elim (leb_tells run.0 acked) [
      | inl w ↦ rw w.0 (sym (here held acked front run.0 first w.1))
      | inr w ↦ rw w.0 (sym (elim (cases_lt front acked) [
        | inl less ↦ beyond held acked front run.0 first w.1 less
        | inr more ↦ behind_none held acked front more
      ]))
    ]

-- gaps that are passed
pub record PassesOn (w : WayState) (lost : List Lost) (now : ReachState) : Type 0 where
  pub left : List Stretch
  pub begins : ℕ
  pub so_far : IsPassing w.held w.start (end_of w) w.acked lost left begins now.end
  pub ahead : AreHeldFrom now.end w.held now.ahead

pub passes_begin : (w : WayState) (old : ReachState) → IsWay w → IsReachOf w old → PassesOn w [] old
passes_begin w old way is = record {
  left = [];
  begins = w.start;
  so_far = subst (λ (p : ℕ). IsPassing w.held w.start (end_of w) w.acked [] [] w.start p) (sym is.end) (passing_begins w.held w.start (end_of w) w.acked way.place);
  ahead = λ p low. is.ahead p (omega (arith, is.end, low));
}

moved_free : (held : Held) (now new : ReachState) (next high : ℕ) → AreHeldFrom now.end held now.ahead → AreAhead now.end now.ahead high → now.end < next → next ≤ high
    → AreJoined now.ahead next new.ahead new.end → IsFreeFrom held next new.end
moved_free held now new next high are ahead past within joined = record {
  order = joined.order;
  run = λ p a b. held_there now.end held now.ahead p are (omega (arith, a, past)) (joined.run p a b);
  free = held_none now.end held now.ahead new.end are (omega (arith, past, joined.order))
      (sym (joined.same new.end (omega arith)) ∙ among_before new.end new.ahead high new.end (joined.ahead now.end high ahead within).0 (omega arith));
}

pub passes_more : (w : WayState) (lost : List Lost) (now new : ReachState) (next high : ℕ) → PassesOn w lost now → now.acked ≡ w.acked → AreAhead now.end now.ahead high
    → next_acked now.ahead now.acked ≡ Some next → now.end < next → next ≤ high → AreJoined now.ahead next new.ahead new.end
    → PassesOn w (lost ++ record { from = now.end; to = next } ∷ []) new
passes_more w lost now new next high on acked ahead is past within joined = record {
  left = on.left ++ record { start = on.begins; bytes = bytes_at w.held on.begins (now.end - on.begins) } ∷ [];
  begins = next;
  so_far = passing_more w.held w.start (end_of w) w.acked lost on.left on.begins now.end next new.end (bytes_at w.held on.begins (now.end - on.begins)) on.so_far
      (sym (next_is_acked now.end w.acked w.held now.ahead high on.ahead ahead) ∙ ap (next_acked now.ahead) (sym acked) ∙ is)
      (moved_free w.held now new next high on.ahead ahead past within joined) refl;
  ahead = λ p low. on.ahead p (omega (arith, past, low, joined.order)) ∙ sym (joined.same p low);
}

pub passes_end : (w : WayState) (lost : List Lost) (now : ReachState) (high : ℕ) → PassesOn w lost now → now.acked ≡ w.acked → AreAhead now.end now.ahead high
    → next_acked now.ahead now.acked ≡ None → HasPassed w lost now
passes_end w lost now high on acked ahead is =
    let done = passing_ends w.held w.start (end_of w) w.acked lost on.left on.begins now.end on.so_far
    (sym (next_is_acked now.end w.acked w.held now.ahead high on.ahead ahead) ∙ ap (next_acked now.ahead) (sym acked) ∙ is) in
    record {
      lost_is = done.lost_is;
      end = done.end_is;
      ahead = subst (λ (p : ℕ). AreHeldFrom p w.held now.ahead) done.end_is on.ahead;
    }

pub between_push : (low : ℕ) (lost : List Lost) (mid next high : ℕ) → AreBetween low lost mid → mid < next → next ≤ high → AreBetween low (lost ++ record { from = mid; to = next } ∷ []) high
between_push low [] mid next high between past within = (omega (arith, between), (past, within))
between_push low (gap ∷ gaps) mid next high between past within = (between.0, (between.1.0, between_push gap.to gaps mid next high between.1.1 past within))

pub between_higher : (low : ℕ) (lost : List Lost) (high more : ℕ) → AreBetween low lost high → high ≤ more → AreBetween low lost more
between_higher low [] high more between less = omega (arith, between, less)
between_higher low (gap ∷ gaps) high more between less = (between.0, (between.1.0, between_higher gap.to gaps high more between.1.1 less))

pub acked_head : (front : ℕ) (runs : List (ℕ × ℕ)) (high acked next : ℕ) → AreAhead front runs high → next_acked runs acked ≡ Some next → (front < next) × (next ≤ high) × (next ≤ acked)
acked_head front [] high acked next ahead = λ is. absurd (false≢true (ap is_some is))
acked_head front (run ∷ runs) high acked next ahead = elim (leb_tells run.0 acked) [
  | inl w ↦ rw w.0 (λ is. let same : run.0 ≡ next = ap (λ (o : Option ℕ). unwrap_or o 0) is in
      (omega (arith, ahead.0.0, same), omega (arith, ahead.0.1, ahead.0.2, same), omega (arith, w.1, same)))
  | inr w ↦ rw w.0 (λ is. absurd (false≢true (ap is_some is)))
]

-- the positions of a segment's bytes
lies_same : (a b c d p : ℕ) → (a ≤ p → p < b → (c ≤ p) × (p < d)) → (c ≤ p → p < d → (a ≤ p) × (p < b)) → lies_in a b p ≡ lies_in c d p
lies_same a b c d p there back = elim (cases_lt p a) [
  | inl low ↦ before a b p low ∙ sym (elim (cases_lt p c) [
    | inl under ↦ before c d p under
    | inr over ↦ elim (cases_lt p d) [
      | inl within ↦ absurd (omega (arith, low, (back over within).0))
      | inr out ↦ behind c d p out
    ]
  ])
  | inr past ↦ elim (cases_lt p b) [
    | inl within ↦ let at = there past within in inside a b p past within ∙ sym (inside c d p at.0 at.1)
    | inr out ↦ behind a b p out ∙ sym (elim (cases_lt p c) [
      | inl under ↦ before c d p under
      | inr over ↦ elim (cases_lt p d) [
        | inl inner ↦ absurd (omega (arith, out, (back over inner).1))
        | inr outer ↦ behind c d p outer
      ]
    ])
  ]
]

cell_lies : (start : ℕ) (bytes : List ℕ) (frame p : ℕ) → is_some (run_cell start bytes frame p) ≡ lies_in start (start + length bytes) p
cell_lies start bytes frame p = elim (cases_Bool (lies_in start (start + length bytes) p)) [
  | inl t ↦ rw t refl
  | inr f ↦ rw f refl
]

taken_count : (start front u : ℕ) (payload : List ℕ) → length (taken_bytes start front u payload) ≡ min (front + window - place start front u) (length payload - skipped start front u)
taken_count start front u payload =
    length-take (front + window - place start front u) (drop (skipped start front u) payload)
    ∙ ap (min (front + window - place start front u)) (length-drop (skipped start front u) payload)

taken_lies : (start front u count size p : ℕ) → start ≤ front → front ≤ p → size ≡ min (front + window - place start front u) (count - skipped start front u)
    → lies_in (place start front u) (place start front u + size) p ≡ lies_in (front + run_low u) (front + run_high u count) p
taken_lies start front u count size p order low is = elim (cases_lt u (2 ^ 31)) [
  | inl less ↦
      let near = lt-ltb u (2 ^ 31) less in
      let at : place start front u ≡ front + u = cond-true _ _ _ near in
      let none : skipped start front u ≡ 0 = cond-true _ _ _ near in
      let begins : run_low u ≡ u = cond-true _ _ _ near in
      let ends : run_high u count ≡ min window (u + count) = ap (min window) (cond-true _ _ _ near) in
      lies_same (place start front u) (place start front u + size) (front + run_low u) (front + run_high u count) p
      (λ a b. (omega (arith, at, begins, a), omega (arith, is, at, none, ends, a, b)))
      (λ a b. (omega (arith, at, begins, a), omega (arith, is, at, none, begins, ends, a, b)))
  | inr more ↦
      let far = le-ltb u (2 ^ 31) more in
      let at : place start front u ≡ max start (front - (2 ^ 32 - u)) = cond-false _ _ _ far in
      let some : skipped start front u ≡ (start + (2 ^ 32 - u)) - front = cond-false _ _ _ far in
      let begins : run_low u ≡ 0 = cond-false _ _ _ far in
      let ends : run_high u count ≡ min window (count - (2 ^ 32 - u)) = ap (min window) (cond-false _ _ _ far) in
      lies_same (place start front u) (place start front u + size) (front + run_low u) (front + run_high u count) p
      (λ a b. (omega (arith, begins, low), omega (arith, is, at, some, ends, order, low, a, b)))
      (λ a b. (omega (arith, at, order, low), omega (arith, is, at, some, ends, order, low, a, b)))
]

some_or : {X : Type 0} (a b : Option X) → is_some (option_or a b) ≡ (is_some a || is_some b)
some_or None b = refl
some_or (Some x) b = refl

-- what is held once a segment is put in
put_held : (w : WayState) (s : Segment) (mid : ReachState) (u p : ℕ) → start_for w ≤ front_for w → HasPassed w (lost_in w) mid → u ≡ ahead (origin_for w s) (front_for w) (first_number s) → front_for w ≤ p
    → is_some (get (held_after w s) p) ≡ (is_among mid.ahead p || lies_in (front_for w + run_low u) (front_for w + run_high u (length s.payload)) p)
put_held w s mid u p order passed u_is low =
    let v = ahead (origin_for w s) (front_for w) (first_number s) in
    let from = place (start_for w) (front_for w) v in
    let bytes = taken_bytes (start_for w) (front_for w) v s.payload in
    ap is_some (get-put_run w.held from bytes s.frame p)
    ∙ some_or (get w.held p) (run_cell from bytes s.frame p)
    ∙ ap (λ (b : Bool). b || is_some (run_cell from bytes s.frame p)) (passed.ahead p low)
    ∙ ap (λ (b : Bool). is_among mid.ahead p || b)
    (cell_lies from bytes s.frame p ∙ taken_lies (start_for w) (front_for w) v (length s.payload) (length bytes) p order low (taken_count (start_for w) (front_for w) v s.payload))
    ∙ ap (λ (n : ℕ). is_among mid.ahead p || lies_in (front_for w + run_low n) (front_for w + run_high n (length s.payload)) p) (sym u_is)

high_near : (u count : ℕ) → run_high u count ≤ window
high_near u count = omega arith

own_end : (w : WayState) (s : Segment) → start_for w ≤ first_free (held_after w s) (front_for w) → end_of (own_step w s) ≡ first_free (held_after w s) (front_for w)
unfolding own_step
own_end w s order = omega (arith, length-bytes_at (held_after w s) (start_for w) (first_free (held_after w s) (front_for w) - start_for w), order)

own_held : (w : WayState) (s : Segment) → (own_step w s).held ≡ held_after w s
unfolding own_step
own_held w s = refl

own_origin : (w : WayState) (s : Segment) → (own_step w s).origin ≡ Some (origin_for w s)
unfolding own_step
own_origin w s = refl

own_acked : (w : WayState) (s : Segment) → (own_step w s).acked ≡ w.acked
unfolding own_step
own_acked w s = refl

abbrev pub set_origin : ℕ → ReachState → ReachState
set_origin origin reach = record { origin = Some origin; end = reach.end; acked = reach.acked; ahead = reach.ahead }

pub own_taken : (w : WayState) (s : Segment) (old mid put : ReachState) (lost : List Lost) (origin u : ℕ) → IsWay w → IsReachOf w old → HasPassed w lost mid → mid.acked ≡ old.acked
    → origin ≡ unwrap_or old.origin (first_number s) → u ≡ ahead origin mid.end (first_number s) → AreAhead mid.end mid.ahead (mid.end + window)
    → IsPutIn mid (mid.end + run_low u) (mid.end + run_high u (length s.payload)) put → IsReachOf (own_step w s) (set_origin origin put)
own_taken w s old mid put lost origin u way is passed acked origin_is u_is near put_in =
    let place = place_past (w.acked - end_of w) w.held w.acked w.start (end_of w) way.place in
    let same_origin : origin ≡ origin_for w s = origin_is ∙ ap (λ (o : Option ℕ). unwrap_or o (first_number s)) is.origin in
    let u_for : u ≡ ahead (origin_for w s) (front_for w) (first_number s) =
    u_is ∙ ap (λ (n : ℕ). ahead n mid.end (first_number s)) same_origin ∙ ap (λ (n : ℕ). ahead (origin_for w s) n (first_number s)) passed.end in
    let all : HasPassed w (lost_in w) mid = record { lost_is = refl; end = passed.end; ahead = passed.ahead } in
    let held : (p : ℕ) → front_for w ≤ p → is_some (get (held_after w s) p)
    ≡ (is_among mid.ahead p || lies_in (mid.end + run_low u) (mid.end + run_high u (length s.payload)) p) = λ p low.
    put_held w s mid u p place.order all u_for low
    ∙ ap (λ (n : ℕ). is_among mid.ahead p || lies_in (n + run_low u) (n + run_high u (length s.payload)) p) (sym passed.end) in
    let kept = put_in.near (mid.end + window) near (omega (arith, high_near u (length s.payload))) (omega arith) in
    let free : IsFreeFrom (held_after w s) (front_for w) put.end = record {
      order = omega (arith, put_in.order, passed.end);
      run = λ p a b. held p a ∙ put_in.run p (omega (arith, a, passed.end)) b;
      free = none_of (get (held_after w s) put.end)
          (held put.end (omega (arith, put_in.order, passed.end)) ∙ sym (put_in.same put.end (omega arith)) ∙ among_before put.end put.ahead (mid.end + window) put.end kept.0 (omega arith));
    } in
    let v = ahead (origin_for w s) (front_for w) (first_number s) in
    let to : put.end ≡ first_free (held_after w s) (front_for w) =
    free_same (held_after w s) (front_for w) put.end (first_free (held_after w s) (front_for w)) free
    (put_free w.held (start_for w) (front_for w) _ (taken_bytes (start_for w) (front_for w) v s.payload) s.frame place
    (taken_short (start_for w) (front_for w) v s.payload)) in
    let end : end_of (own_step w s) ≡ first_free (held_after w s) (front_for w) = own_end w s (omega (arith, place.order, free.order, to)) in
    record {
      origin = ap Some same_origin ∙ sym (own_origin w s);
      end = to ∙ sym end;
      acked = put_in.acked ∙ acked ∙ is.acked ∙ sym (own_acked w s);
      ahead = λ p low.
          let past : put.end ≤ p = omega (arith, low, end, to) in
          ap (λ (h : Held). is_some (get h p)) (own_held w s) ∙ held p (omega (arith, past, put_in.order, passed.end)) ∙ sym (put_in.same p past);
    }

-- a segment of the other side
raised_is : (w : WayState) (s : Segment) (o : Option ℕ) → raised o (end_of w) w.acked s ≡ acked_by w o s
raised_is w s None = refl
raised_is w s (Some origin) = refl

pub other_taken : (w : WayState) (s : Segment) (old new : ReachState) → IsReachOf w old → new.origin ≡ old.origin → new.end ≡ old.end → new.acked ≡ raised old.origin old.end old.acked s
    → new.ahead ≡ old.ahead → IsReachOf (other_step w s) new
unfolding other_step
other_taken w s old new is origin end acked ahead = record {
  origin = origin ∙ is.origin;
  end = end ∙ is.end;
  acked = acked ∙ ap (λ (o : Option ℕ). raised o old.end old.acked s) is.origin ∙ ap (λ (n : ℕ). raised w.origin n old.acked s) is.end
      ∙ ap (λ (n : ℕ). raised w.origin (end_of w) n s) is.acked ∙ raised_is w s w.origin;
  ahead = λ p low. is.ahead p low ∙ ap (λ (runs : List (ℕ × ℕ)). is_among runs p) (sym ahead);
}

-- how far that is
mid_room : (old mid : ℕ) → old < 2 ^ 60 → mid ≤ old + window → mid < 2 ^ 61
unfolding window
mid_room old mid room far = omega (arith, room, far)

pub mid_small : (old mid : ℕ) → old < 2 ^ 60 → mid ≤ old + window → mid < 2 ^ 62
mid_small old mid room far = omega (arith, mid_room old mid room far)

pub put_kept : (mid put : ReachState) (u count : ℕ) → AreAhead mid.end mid.ahead (mid.end + window) → IsPutIn mid (mid.end + run_low u) (mid.end + run_high u count) put
    → AreAhead put.end put.ahead (mid.end + window) × (put.end ≤ mid.end + window)
put_kept mid put u count near is = is.near (mid.end + window) near (omega (arith, high_near u count)) (omega arith)

pub two_windows : (old mid put : ℕ) → mid ≤ old + window → put ≤ mid + window → put ≤ old + 2 ^ 25
unfolding window
two_windows old mid put first second = omega (arith, first, second)

pub nearer : (mid : ReachState) (old : ℕ) → AreAhead mid.end mid.ahead (old + window) → old ≤ mid.end → AreAhead mid.end mid.ahead (mid.end + window)
nearer mid old near grown = ahead_higher mid.end mid.ahead (old + window) (mid.end + window) near (omega (arith, grown))

pub begun_is : IsReachOf nothing (begun None)
begun_is = record { origin = refl; end = refl; acked = refl; ahead = λ p low. ap is_some (get-empty nat_cmp p) }

-- both directions of a stream
pub own_steps : (s : Segment) (old new : ReachState) → TakesOwn old s new → IsNear new → new.end ≤ old.end + 2 ^ 25 → ReachSteps true s old new
own_steps s old new step near far = record { step = step; near = near; far = far }

pub other_steps : (s : Segment) (old new : ReachState) → TakesOther old s new → IsNear old → new.end ≡ old.end → new.ahead ≡ old.ahead → ReachSteps false s old new
other_steps s old new step near end ahead = record {
  step = λ w way is. step w is;
  near = subst (λ (runs : List (ℕ × ℕ)). AreAhead new.end runs (new.end + window)) (sym ahead) (subst (λ (n : ℕ). AreAhead n old.ahead (n + window)) (sym end) near);
  far = omega (arith, end);
}
