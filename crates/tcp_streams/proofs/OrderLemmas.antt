-- What a direction holds is what its segments say, in whatever order they come.
use Rattle.std.proofs.Common.{◌≡◌, ℕ, zero, suc, ◌+◌, ◌-◌, ◌%◌, ◌^◌, ◌<◌, ◌≤◌, max, Bool, true, false, cond, List, [], ◌∷◌, ◌++◌, length, take, drop, slice_index, Option, None, Some, IsSome, is_some, unwrap_or, refl, sym, ap, ◌∙◌, subst, ◌⊎◌, inl, inr, arith}
use Rattle.std.specs.Ordering.{nat_cmp}
use Rattle.std.specs.FinMap.{get, get-empty}
use Rattle.std.specs.Option.{option_or}
use Rattle.std.proofs.lemmas.Bool.{false≢true, cases_lt, cases_order, lt-ltb, le-ltb, cond-true, cond-false}
use Rattle.std.proofs.lemmas.List.{length-take, length-drop, get_or-take, get_or-drop, ext_get_or}
use Rattle.pk_base.specs.declared.lost.Lost.{Lost}
use Rattle.range_bytes.specs.Held.{Held, Cell, run_cell, byte_of, bytes_at}
use Rattle.range_bytes.proofs.Runs.{some_is, get-put_run, run_cell-in, run_cell-before, run_cell-after}
use Rattle.tcp_streams.specs.declared.segment.Segment.{Segment}
use Rattle.tcp_streams.specs.Numbers.{first_number, ahead, place, skipped, taken_bytes, window}
use Rattle.tcp_streams.specs.Gaps.{start_past, left_behind}
use Rattle.tcp_streams.specs.Ways.{WayState, Sided, end_of, lost_in, start_for, front_for, origin_for, held_with, held_after, own_step, other_step, way_step, way_after, same_side, IsPlace}
use Rattle.tcp_streams.specs.Order.{offset, Gives, IsSent, IsGiven, AllInWindow, AllShort, HasOrigin, IsOrderly, HoldsSent, HoldsGiven, IsRunOf, IsAlike, HasAlike, HaveSameSent}
use Rattle.tcp_streams.proofs.Places.{place_past, put_stays}
use Rattle.tcp_streams.proofs.WayLemmas.{after_is}

-- numbers: by a front end, and by the origin alone
turn_on : (origin front first : ℕ) → front ≤ 2 ^ 31 → ahead origin 0 first < 2 ^ 31 → ahead origin front first < 2 ^ 31 → front + ahead origin front first ≡ ahead origin 0 first
turn_on origin front first low near on = omega arith

turn_back : (origin front first : ℕ) → front ≤ 2 ^ 31 → ahead origin 0 first < 2 ^ 31 → 2 ^ 31 ≤ ahead origin front first → front ≡ ahead origin 0 first + (2 ^ 32 - ahead origin front first)
turn_back origin front first low near back = omega arith

placed : (origin start front first : ℕ) → front ≤ 2 ^ 31 → ahead origin 0 first < 2 ^ 31
    → ahead origin 0 first + skipped start front (ahead origin front first) ≡ place start front (ahead origin front first)
placed origin start front first low near =
    let u = ahead origin front first in
    elim (cases_lt u (2 ^ 31)) [
      | inl less ↦
          let at : place start front u ≡ front + u = cond-true _ _ _ (lt-ltb u (2 ^ 31) less) in
          let none : skipped start front u ≡ 0 = cond-true _ _ _ (lt-ltb u (2 ^ 31) less) in
          let same : front + u ≡ ahead origin 0 first = turn_on origin front first low near less in
          omega (arith, at, none, same)
      | inr more ↦
          let at : place start front u ≡ max start (front - (2 ^ 32 - u)) = cond-false _ _ _ (le-ltb u (2 ^ 31) more) in
          let some : skipped start front u ≡ (start + (2 ^ 32 - u)) - front = cond-false _ _ _ (le-ltb u (2 ^ 31) more) in
          let same : front ≡ ahead origin 0 first + (2 ^ 32 - u) = turn_back origin front first low near more in
          omega (arith, at, some, same)
    ]

none_skipped : (origin front first : ℕ) → front ≤ 2 ^ 31 → ahead origin 0 first < 2 ^ 31 → skipped 0 front (ahead origin front first) ≡ 0
none_skipped origin front first low near =
    let u = ahead origin front first in
    elim (cases_lt u (2 ^ 31)) [
      | inl less ↦ cond-true _ _ _ (lt-ltb u (2 ^ 31) less)
      | inr more ↦
          let some : skipped 0 front u ≡ (0 + (2 ^ 32 - u)) - front = cond-false _ _ _ (le-ltb u (2 ^ 31) more) in
          let same : front ≡ ahead origin 0 first + (2 ^ 32 - u) = turn_back origin front first low near more in
          omega (arith, some, same)
    ]

-- cells of a run
record IsCellOf (at : ℕ) (bytes : List ℕ) (frame p : ℕ) (cell : Cell) : Type 0 where
  low : at ≤ p
  high : p < at + length bytes
  is : cell.0 ≡ slice_index bytes (p - at)

cell_of : (at : ℕ) (bytes : List ℕ) (frame p : ℕ) (cell : Cell) → run_cell at bytes frame p ≡ Some cell → IsCellOf at bytes frame p cell
cell_of at bytes frame p cell e = elim (cases_lt p at) [
  | inl before ↦ absurd (false≢true (ap is_some (sym (run_cell-before at bytes frame p before) ∙ e)))
  | inr low ↦ elim (cases_lt p (at + length bytes)) [
    | inl high ↦
        let same : (slice_index bytes (p - at), frame) ≡ cell = some_is (slice_index bytes (p - at), frame) cell (sym (run_cell-in at bytes frame p low high) ∙ e) in
        record { low = low; high = high; is = sym (ap (λ (c : Cell). c.0) same) }
    | inr past ↦ absurd (false≢true (ap is_some (sym (run_cell-after at bytes frame p past) ∙ e)))
  ]
]

taken_at : (most skip i : ℕ) (payload : List ℕ) → i < length (take most (drop skip payload)) → slice_index (take most (drop skip payload)) i ≡ slice_index payload (skip + i)
taken_at most skip i payload inside =
    let within : i < most = omega (arith, inside, length-take most (drop skip payload)) in
    get_or-take most (drop skip payload) i 0 within ∙ get_or-drop skip payload i 0

taken_within : (most skip i : ℕ) (payload : List ℕ) → i < length (take most (drop skip payload)) → skip + i < length payload
taken_within most skip i payload inside = omega (arith, inside, length-take most (drop skip payload), length-drop skip payload)

-- the origin was the same before
origin_own : (origin : ℕ) (w : WayState) (s : Segment) → unwrap_or (own_step w s).origin origin ≡ origin → origin_for w s ≡ origin
unfolding own_step
origin_own origin w s e = e

origin_none : (origin first : ℕ) (o : Option ℕ) → unwrap_or o first ≡ origin → unwrap_or o origin ≡ origin
origin_none origin first None e = refl
origin_none origin first (Some x) e = e

origin_other : (origin : ℕ) (w : WayState) (s : Segment) → unwrap_or (other_step w s).origin origin ≡ origin → unwrap_or w.origin origin ≡ origin
unfolding other_step
origin_other origin w s e = e

held_own : (w : WayState) (s : Segment) → (own_step w s).held ≡ held_after w s
unfolding own_step
held_own w s = refl

held_other : (w : WayState) (s : Segment) → (other_step w s).held ≡ w.held
unfolding other_step
held_other w s = refl

-- one segment more
given_more : (origin : ℕ) (side : Bool) (l : Sided) (ls : List Sided) (p byte : ℕ) → IsGiven origin side ls p byte → IsGiven origin side (l ∷ ls) p byte
given_more origin side l ls p byte given = record { segment = given.segment; sent = inr given.sent; gives = given.gives }

short_less : (origin : ℕ) (side : Bool) (l : Sided) (ls : List Sided) → AllShort origin side (l ∷ ls) → AllShort origin side ls
short_less origin side l ls short s sent some = short s (inr sent) some

-- no held position lies at 2^31 or behind, so that no front end lies past it
held_low : (origin : ℕ) (side : Bool) (ls : List Sided) (p byte : ℕ) → AllShort origin side ls → IsGiven origin side ls p byte → p < 2 ^ 31
held_low origin side ls p byte short given =
    let high : p < offset origin given.segment + length given.segment.payload = given.gives.high in
    let low : offset origin given.segment ≤ p = given.gives.low in
    let near = short given.segment given.sent (omega arith) in
    omega (arith, near, high)

cell_at : (held : Held) (p : ℕ) → IsSome (get held p) → (cell : Cell) × (get held p ≡ Some cell)
cell_at held p there = elim (get held p) as (λ (o : Option Cell). IsSome o → (cell : Cell) × (o ≡ Some cell)) [
  | None ↦ λ e. absurd (false≢true e)
  | Some cell ↦ λ e. (cell, refl)
] there

front_low : (held : Held) (start front : ℕ) → IsPlace held start front → ((p : ℕ) → IsSome (get held p) → p < 2 ^ 31) → front ≤ 2 ^ 31
front_low held start front place low = elim (cases_lt start front) [
  | inl less ↦
      let order : start ≤ front = place.order in
      let last = low (front - 1) (place.run (front - 1) (omega arith) (omega arith)) in
      omega (arith, last)
  | inr more ↦
      let order : start ≤ front = place.order in
      let same : start ≡ front = omega (arith, order, more) in
      let none : start ≡ 0 = place.base same in
      omega (arith, same, none)
]

front_for_place : (side : Bool) (ls : List Sided) → IsPlace (way_after side ls).held (start_for (way_after side ls)) (front_for (way_after side ls))
front_for_place side ls =
    let w = way_after side ls in
    place_past (w.acked - end_of w) w.held w.acked w.start (end_of w) (after_is side ls).place

front_for_low : (origin : ℕ) (side : Bool) (ls : List Sided) → AllShort origin side ls → HoldsSent origin side ls → front_for (way_after side ls) ≤ 2 ^ 31
front_for_low origin side ls short holds =
    let w = way_after side ls in
    front_low w.held (start_for w) (front_for w) (front_for_place side ls) (λ p there.
    let cell = cell_at w.held p there in
    held_low origin side ls p cell.0.0 short (holds p cell.0 cell.1))

-- a cell that a segment brings is one that it gives
cell_given : (origin start front : ℕ) (s : Segment) (p : ℕ) (cell : Cell) → front ≤ 2 ^ 31 → (0 < length s.payload → offset origin s + length s.payload < 2 ^ 31)
    → run_cell (place start front (ahead origin front (first_number s))) (taken_bytes start front (ahead origin front (first_number s)) s.payload) s.frame p ≡ Some cell
    → Gives origin s p cell.0
cell_given origin start front s p cell low short e =
    let u = ahead origin front (first_number s) in
    let at = place start front u in
    let skip = skipped start front u in
    let bytes = taken_bytes start front u s.payload in
    let is = cell_of at bytes s.frame p cell e in
    let begin : at ≤ p = is.low in
    let end : p < at + length bytes = is.high in
    let inside : p - at < length bytes = omega (arith, begin, end) in
    let within : skip + (p - at) < length s.payload = taken_within (front + window - at) skip (p - at) s.payload inside in
    let near : offset origin s + length s.payload < 2 ^ 31 = short (omega (arith, within)) in
    let same : offset origin s + skip ≡ at = placed origin start front (first_number s) low (omega (arith, near)) in
    let there : skip + (p - at) ≡ p - offset origin s = omega (arith, same, begin) in
    record {
      low = omega (arith, same, begin);
      high = omega (arith, same, begin, within);
      is = sym (is.is ∙ taken_at (front + window - at) skip (p - at) s.payload inside ∙ ap (slice_index s.payload) there);
    }

or_cell : (a b : Option Cell) (cell : Cell) → option_or a b ≡ Some cell → (a ≡ Some cell) ⊎ (b ≡ Some cell)
or_cell None b cell e = inr e
or_cell (Some x) b cell e = inl e

-- what is held was sent
abbrev OwnHolds : ℕ → Bool → Sided → List Sided → Bool → Type 0
OwnHolds origin side l ls own = same_side side l.side ≡ own → HasOrigin origin side ls → HoldsSent origin side ls
    → unwrap_or (way_step own (way_after side ls) l.segment).origin origin ≡ origin
    → (p : ℕ) (cell : Cell) → get (way_step own (way_after side ls) l.segment).held p ≡ Some cell → IsGiven origin side (l ∷ ls) p cell.0

own_holds : (origin : ℕ) (side : Bool) (l : Sided) (ls : List Sided) → AllShort origin side (l ∷ ls) → OwnHolds origin side l ls true
own_holds origin side l ls short own before holds now p cell e =
    let w = way_after side ls in
    let s = l.segment in
    let origin_is : origin_for w s ≡ origin = origin_own origin w s now in
    let low : front_for w ≤ 2 ^ 31 = front_for_low origin side ls (short_less origin side l ls short) holds in
    let u = ahead (origin_for w s) (front_for w) (first_number s) in
    let cells : get (held_after w s) p ≡ option_or (get w.held p) (run_cell (place (start_for w) (front_for w) u) (taken_bytes (start_for w) (front_for w) u s.payload) s.frame p) =
    get-put_run w.held (place (start_for w) (front_for w) u) (taken_bytes (start_for w) (front_for w) u s.payload) s.frame p in
    elim (or_cell (get w.held p) _ cell (sym cells ∙ ap (λ (h : Held). get h p) (sym (held_own w s)) ∙ e)) [
      | inl old ↦ given_more origin side l ls p cell.0 (holds p cell old)
      | inr new ↦
          let here = subst (λ (o : ℕ). run_cell (place (start_for w) (front_for w) (ahead o (front_for w) (first_number s)))
          (taken_bytes (start_for w) (front_for w) (ahead o (front_for w) (first_number s)) s.payload) s.frame p ≡ Some cell) origin_is new in
          record { segment = s; sent = inl (own, refl); gives = cell_given origin (start_for w) (front_for w) s p cell low (short s (inl (own, refl))) here }
    ]

other_holds : (origin : ℕ) (side : Bool) (l : Sided) (ls : List Sided) → OwnHolds origin side l ls false
other_holds origin side l ls own before holds now p cell e =
    let w = way_after side ls in
    given_more origin side l ls p cell.0 (holds p cell (ap (λ (h : Held). get h p) (sym (held_other w l.segment)) ∙ e))

step_holds : (origin : ℕ) (side : Bool) (l : Sided) (ls : List Sided) → AllShort origin side (l ∷ ls) → (own : Bool) → OwnHolds origin side l ls own
step_holds origin side l ls short true = own_holds origin side l ls short
step_holds origin side l ls short false = other_holds origin side l ls

origin_back : (origin : ℕ) (w : WayState) (s : Segment) (own : Bool) → unwrap_or (way_step own w s).origin origin ≡ origin → unwrap_or w.origin origin ≡ origin
origin_back origin w s true e = origin_none origin (first_number s) w.origin (origin_own origin w s e)
origin_back origin w s false e = origin_other origin w s e

pub holds_sent : (origin : ℕ) (side : Bool) (ls : List Sided) → HasOrigin origin side ls → AllShort origin side ls → HoldsSent origin side ls
holds_sent origin side [] has short p cell = λ e. absurd (false≢true (ap is_some (sym (get-empty nat_cmp p) ∙ e)))
holds_sent origin side (l ∷ ls) has short p cell =
    let before = origin_back origin (way_after side ls) l.segment (same_side side l.side) has in
    step_holds origin side l ls short (same_side side l.side) refl before (holds_sent origin side ls before (short_less origin side l ls short)) has p cell

-- where no gap was passed
left_none : (held : Held) (start : ℕ) (gaps : List Lost) → left_behind held start gaps ≡ [] → gaps ≡ []
left_none held start [] = λ e. refl
left_none held start (gap ∷ gaps) = λ e. absurd (let size : length (left_behind held start (gap ∷ gaps)) ≡ 0 = ap length e in omega (arith, size))

first_none : {X : Type 0} (xs ys : List X) → xs ++ ys ≡ [] → xs ≡ []
first_none [] ys e = refl
first_none (x ∷ xs) ys e = absurd (let size : length (x ∷ xs ++ ys) ≡ 0 = ap length e in omega (arith, size))

last_none : {X : Type 0} (xs ys : List X) → xs ++ ys ≡ [] → ys ≡ []
last_none [] ys e = e
last_none (x ∷ xs) ys e = absurd (let size : length (x ∷ xs ++ ys) ≡ 0 = ap length e in omega (arith, size))

pub record IsPlain (w : WayState) (s : Segment) : Type 0 where
  pub earlier : w.earlier ≡ []
  pub none : lost_in w ≡ []

pub own_plain : (w : WayState) (s : Segment) → (own_step w s).earlier ≡ [] → IsPlain w s
unfolding own_step
own_plain w s e = record {
  earlier = first_none w.earlier (left_behind w.held w.start (lost_in w)) e;
  none = left_none w.held w.start (lost_in w) (last_none w.earlier (left_behind w.held w.start (lost_in w)) e);
}

pub earlier_back : (w : WayState) (s : Segment) (own : Bool) → (way_step own w s).earlier ≡ [] → w.earlier ≡ []
unfolding other_step
earlier_back w s true e = (own_plain w s e).earlier
earlier_back w s false e = e

start_own : (w : WayState) (s : Segment) → (own_step w s).start ≡ start_past w.start (lost_in w)
unfolding own_step
start_own w s = refl

start_none : (w : WayState) (s : Segment) (own : Bool) → w.start ≡ 0 → (way_step own w s).earlier ≡ [] → (way_step own w s).start ≡ 0
unfolding other_step
start_none w s true is e = start_own w s ∙ ap (start_past w.start) (own_plain w s e).none ∙ is
start_none w s false is e = is

pub start_is : (side : Bool) (ls : List Sided) → (way_after side ls).earlier ≡ [] → (way_after side ls).start ≡ 0
start_is side [] e = refl
start_is side (l ∷ ls) e =
    start_none (way_after side ls) l.segment (same_side side l.side) (start_is side ls (earlier_back (way_after side ls) l.segment (same_side side l.side) e)) e

-- what was sent is held
some_second : (a b : Option Cell) → IsSome b → IsSome (option_or a b)
some_second None b there = there
some_second (Some x) b there = refl

-- a segment that ends in the window of a front without gaps enters whole
enters : (origin front : ℕ) (s : Segment) (held : Held) (p byte : ℕ) → front ≤ 2 ^ 31 → (0 < length s.payload → offset origin s + length s.payload < 2 ^ 31)
    → (0 < length s.payload → offset origin s + length s.payload ≤ front + window) → Gives origin s p byte
    → IsSome (get (held_with held 0 front (ahead origin front (first_number s)) s) p)
enters origin front s held p byte low short near gives =
    let u = ahead origin front (first_number s) in
    let at = place 0 front u in
    let bytes = taken_bytes 0 front u s.payload in
    let begin : offset origin s ≤ p = gives.low in
    let end : p < offset origin s + length s.payload = gives.high in
    let small : offset origin s + length s.payload < 2 ^ 31 = short (omega (arith, begin, end)) in
    let within : offset origin s + length s.payload ≤ front + window = near (omega (arith, begin, end)) in
    let none : skipped 0 front u ≡ 0 = none_skipped origin front (first_number s) low (omega (arith, small, begin, end)) in
    let same : offset origin s + skipped 0 front u ≡ at = placed origin 0 front (first_number s) low (omega (arith, small, begin, end)) in
    let size : length bytes ≡ length (take (front + window - at) (drop 0 s.payload)) = ap (λ (k : ℕ). length (take (front + window - at) (drop k s.payload))) none in
    let high : p < at + length bytes = omega (arith, size, length-take (front + window - at) (drop 0 s.payload), same, none, begin, end, within) in
    subst (λ (o : Option Cell). IsSome o) (sym (get-put_run held at bytes s.frame p))
    (some_second (get held p) (run_cell at bytes s.frame p) (subst (λ (o : Option Cell). IsSome o) (sym (run_cell-in at bytes s.frame p (omega (arith, same, none, begin)) high)) refl))

abbrev SentThere : ℕ → Bool → List Sided → Type 0
SentThere origin side ls = (s : Segment) → IsSent side ls s → (p byte : ℕ) → Gives origin s p byte → IsSome (get (way_after side ls).held p)

abbrev StepThere : ℕ → Bool → Sided → List Sided → Bool → Type 0
StepThere origin side l ls own = same_side side l.side ≡ own → (s : Segment) → IsSent side (l ∷ ls) s → (p byte : ℕ) → Gives origin s p byte
    → IsSome (get (way_step own (way_after side ls) l.segment).held p)

own_there : (origin : ℕ) (side : Bool) (l : Sided) (ls : List Sided) → HasOrigin origin side ls → unwrap_or (own_step (way_after side ls) l.segment).origin origin ≡ origin
    → AllShort origin side (l ∷ ls) → AllInWindow origin side (l ∷ ls) → (own_step (way_after side ls) l.segment).earlier ≡ [] → SentThere origin side ls
    → StepThere origin side l ls true
own_there origin side l ls before has short window_is none there own s (inr old) p byte gives =
    let w = way_after side ls in
    subst (λ (h : Held). IsSome (get h p)) (sym (held_own w l.segment)) (put_stays w.held (place (start_for w) (front_for w) (ahead (origin_for w l.segment) (front_for w) (first_number l.segment)))
    (taken_bytes (start_for w) (front_for w) (ahead (origin_for w l.segment) (front_for w) (first_number l.segment)) l.segment.payload) l.segment.frame p (there s old p byte gives))
own_there origin side l ls before has short window_is none there own s (inl now) p byte gives =
    let w = way_after side ls in
    let n = l.segment in
    let plain = own_plain w n none in
    let starts : start_for w ≡ 0 = ap (start_past w.start) plain.none ∙ start_is side ls plain.earlier in
    let origin_is : origin_for w n ≡ origin = origin_own origin w n has in
    let low = front_for_low origin side ls (short_less origin side l ls short) (holds_sent origin side ls before (short_less origin side l ls short)) in
    let here : Gives origin n p byte = subst (λ (t : Segment). Gives origin t p byte) (sym now.1) gives in
    let in_it = enters origin (front_for w) n w.held p byte low (short n (inl (own, refl))) (window_is.0 own) here in
    subst (λ (h : Held). IsSome (get h p)) (sym (held_own w n))
    (subst (λ (o : ℕ). IsSome (get (held_with w.held (start_for w) (front_for w) (ahead o (front_for w) (first_number n)) n) p)) (sym origin_is)
    (subst (λ (k : ℕ). IsSome (get (held_with w.held k (front_for w) (ahead origin (front_for w) (first_number n)) n) p)) (sym starts) in_it))

other_there : (origin : ℕ) (side : Bool) (l : Sided) (ls : List Sided) → SentThere origin side ls → StepThere origin side l ls false
other_there origin side l ls there own s (inl now) p byte gives = absurd (false≢true (sym own ∙ now.0))
other_there origin side l ls there own s (inr old) p byte gives =
    subst (λ (h : Held). IsSome (get h p)) (sym (held_other (way_after side ls) l.segment)) (there s old p byte gives)

step_there : (origin : ℕ) (side : Bool) (l : Sided) (ls : List Sided) (own : Bool) → HasOrigin origin side ls → unwrap_or (way_step own (way_after side ls) l.segment).origin origin ≡ origin
    → AllShort origin side (l ∷ ls) → AllInWindow origin side (l ∷ ls) → (way_step own (way_after side ls) l.segment).earlier ≡ [] → SentThere origin side ls
    → StepThere origin side l ls own
step_there origin side l ls true before has short window_is none there = own_there origin side l ls before has short window_is none there
step_there origin side l ls false before has short window_is none there = other_there origin side l ls there

pub sent_there : (origin : ℕ) (side : Bool) (ls : List Sided) → HasOrigin origin side ls → AllShort origin side ls → AllInWindow origin side ls
    → (way_after side ls).earlier ≡ [] → SentThere origin side ls
sent_there origin side [] has short window_is none s sent p byte gives = absurd sent
sent_there origin side (l ∷ ls) has short window_is none s sent p byte gives =
    let own = same_side side l.side in
    let before = origin_back origin (way_after side ls) l.segment own has in
    step_there origin side l ls own before has short window_is none
    (sent_there origin side ls before (short_less origin side l ls short) window_is.1 (earlier_back (way_after side ls) l.segment own none)) refl s sent p byte gives

pub holds_given : (origin : ℕ) (side : Bool) (ls : List Sided) → IsOrderly origin side ls → HoldsGiven origin side ls
holds_given origin side ls is p byte given =
    let w = way_after side ls in
    let cell = cell_at w.held p (sent_there origin side ls is.origin_is is.short is.in_window is.none_lost given.segment given.sent p byte given.gives) in
    let same : cell.0.0 ≡ byte = is.agree p cell.0.0 byte (holds_sent origin side ls is.origin_is is.short p cell.0 cell.1) given in
    (cell.0.1, cell.1 ∙ ap (λ (b : ℕ). Some (b, cell.0.1)) same)

-- the front
index_bytes : (held : Held) (from n i : ℕ) → i < n → slice_index (bytes_at held from n) i ≡ byte_of (get held (from + i))
index_bytes held from zero i low = absurd (omega (arith, low))
index_bytes held from (suc n) zero low = let same : from ≡ from + 0 = omega arith in ap (λ (p : ℕ). byte_of (get held p)) same
index_bytes held from (suc n) (suc i) low =
    let same : (from + 1) + i ≡ from + suc i = omega arith in
    index_bytes held (from + 1) n i (omega (arith, low)) ∙ ap (λ (p : ℕ). byte_of (get held p)) same

pub run_is : (origin : ℕ) (side : Bool) (ls : List Sided) → IsOrderly origin side ls → IsRunOf origin side ls (way_after side ls).front
run_is origin side ls is =
    let w = way_after side ls in
    let way = after_is side ls in
    let begins : w.start ≡ 0 = start_is side ls is.none_lost in
    record {
      given = λ p low.
          let cell = cell_at w.held p (way.place.run p (omega (arith, begins)) (omega (arith, low, begins))) in
          let at : slice_index (bytes_at w.held w.start (length w.front)) p ≡ byte_of (get w.held (w.start + p)) = index_bytes w.held w.start (length w.front) p low in
          let place : w.start + p ≡ p = omega (arith, begins) in
          let byte : slice_index w.front p ≡ cell.0.0 =
          ap (λ (bytes : List ℕ). slice_index bytes p) way.bytes ∙ at ∙ ap (λ (q : ℕ). byte_of (get w.held q)) place ∙ ap byte_of cell.1 in
          subst (IsGiven origin side ls p) (sym byte) (holds_sent origin side ls is.origin_is is.short p cell.0 cell.1);
      ends = λ byte given.
          let there = holds_given origin side ls is (length w.front) byte given in
          let end : end_of w ≡ length w.front = omega (arith, begins) in
          false≢true (ap is_some (sym (subst (λ (p : ℕ). get w.held p ≡ None) end way.place.free) ∙ there.1));
    }

-- the same segments give the same bytes
alike_gives : (origin : ℕ) (s t : Segment) (p byte : ℕ) → IsAlike s t → Gives origin s p byte → Gives origin t p byte
alike_gives origin s t p byte alike gives =
    let first : first_number s ≡ first_number t = λ i. (alike.seq i + cond (alike.syn i) 1 0) % 2 ^ 32 in
    let same : offset origin s ≡ offset origin t = ap (ahead origin 0) first in
    let size : length s.payload ≡ length t.payload = ap length alike.payload in
    record {
      low = subst (λ (k : ℕ). k ≤ p) same gives.low;
      high = omega (arith, gives.high, same, size);
      is = sym (λ i. slice_index (alike.payload i) (p - same i)) ∙ gives.is;
    }

given_alike : (origin : ℕ) (side : Bool) (ls ms : List Sided) (p byte : ℕ) → ((s : Segment) → IsSent side ls s → HasAlike side ms s) → IsGiven origin side ls p byte → IsGiven origin side ms p byte
given_alike origin side ls ms p byte there given =
    let other = there given.segment given.sent in
    record { segment = other.0; sent = other.1; gives = alike_gives origin given.segment other.0 p byte other.2 given.gives }

pub order_is_free : (origin : ℕ) (side : Bool) (ls ms : List Sided) → IsOrderly origin side ls → IsOrderly origin side ms → HaveSameSent side ls ms
    → (way_after side ls).front ≡ (way_after side ms).front
order_is_free origin side ls ms is other same =
    let xs = (way_after side ls).front in
    let ys = (way_after side ms).front in
    let run = run_is origin side ls is in
    let more = run_is origin side ms other in
    elim (cases_order (length xs) (length ys)) [
      | inl equal ↦ ext_get_or 0 xs ys equal (λ i low. is.agree i (slice_index xs i) (slice_index ys i) (run.given i low)
          (given_alike origin side ms ls i (slice_index ys i) same.back (more.given i (omega (arith, low, equal)))))
      | inr (inl less) ↦ absurd (run.ends (slice_index ys (length xs)) (given_alike origin side ms ls (length xs) (slice_index ys (length xs)) same.back (more.given (length xs) less)))
      | inr (inr greater) ↦ absurd (more.ends (slice_index xs (length ys)) (given_alike origin side ls ms (length ys) (slice_index xs (length ys)) same.there (run.given (length ys) greater)))
    ]
