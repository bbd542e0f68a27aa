-- One direction's step.
use Rattle.std.proofs.Common.{◌≡◌, ℕ, zero, suc, ◌+◌, ◌-◌, ◌^◌, ◌<◌, ◌≤◌, max, Bool, true, false, List, [], ◌∷◌, ◌++◌, length, take, drop, None, Some, IsSome, refl, sym, ap, ◌∙◌, subst, inl, inr, arith}
use Rattle.std.specs.Ordering.{nat_cmp}
use Rattle.std.specs.FinMap.{get, get-empty}
use Rattle.std.specs.Option.{option_or}
use Rattle.std.proofs.lemmas.Bool.{false≢true, cases_lt, lt-ltb, le-ltb, cond-true, cond-false}
use Rattle.std.proofs.lemmas.List.{length-take}
use Rattle.range_bytes.specs.Held.{Held, HoldsAll, IsFreeFrom, put_run, run_cell, bytes_at}
use Rattle.range_bytes.specs.Joined.{Joined, front_end, IsInOrder, IsJoined}
use Rattle.range_bytes.proofs.Runs.{get-put_run, none_is_not_some}
use Rattle.tcp_streams.specs.declared.segment.Segment.{Segment}
use Rattle.pk_base.specs.declared.lost.Lost.{Lost}
use Rattle.pk_base.specs.declared.stretch.Stretch.{Stretch}
use Rattle.tcp_streams.specs.Gaps.{first_free, start_past, next_from, gaps_on, gaps, end_past, left_behind, lost_bytes, AreBetween}
use Rattle.tcp_streams.specs.Ways.{WayState, Sided, nothing, end_of, lost_in, start_for, front_for, origin_for, held_with, held_after, own_step, other_step, way_step, way_after, same_side, IsPlace, IsWay, AreApart}
use Rattle.tcp_streams.proofs.Places.{length-bytes_at, next_is, jump_free, place_jump, place_past, apart_past, apart_append, free_same, put_after, put_free, place_put}
use Rattle.tcp_streams.specs.Numbers.{first_number, ahead, place, skipped, taken_bytes, window}

pub place_most : (start front u : ℕ) → start ≤ front → place start front u ≤ front + 2 ^ 31
place_most start front u order = elim (cases_lt u (2 ^ 31)) [
  | inl less ↦
      let is : place start front u ≡ front + u = cond-true _ _ _ (lt-ltb u (2 ^ 31) less) in
      omega (arith, is)
  | inr more ↦
      let is : place start front u ≡ max start (front - (2 ^ 32 - u)) = cond-false _ _ _ (le-ltb u (2 ^ 31) more) in
      omega (arith, is)
]

pub taken_short : (start front u : ℕ) (payload : List ℕ) → length (taken_bytes start front u payload) ≤ front + window - place start front u
taken_short start front u payload = omega (arith, length-take (front + window - place start front u) (drop (skipped start front u) payload))

pub put_room : (start front u p : ℕ) (bytes rest : List ℕ) → p ≡ place start front u → start ≤ front → front < 2 ^ 61 → bytes ≡ take (front + window - p) rest → p + length bytes ≤ 2 ^ 63
unfolding window
put_room start front u p bytes rest is order room cut =
    let size : length bytes ≡ length (take (front + window - p) rest) = ap length cut in
    omega (arith, length-take (front + window - p) rest, place_most start front u order)

-- what is held stays
cell_stays : (held : Held) (p : ℕ) (bytes : List ℕ) (frame q : ℕ) → IsSome (get held q) → get (put_run held p bytes frame) q ≡ get held q
cell_stays held p bytes frame q there =
    get-put_run held p bytes frame q ∙ elim (get held q) as (λ o. IsSome o → option_or o (run_cell p bytes frame q) ≡ o) [
      | None ↦ λ e. absurd (false≢true e)
      | Some x ↦ λ e. refl
    ] there

pub bytes_stay : (held : Held) (p : ℕ) (bytes : List ℕ) (frame from n : ℕ) → HoldsAll held from (from + n) → bytes_at (put_run held p bytes frame) from n ≡ bytes_at held from n
bytes_stay held p bytes frame from zero run = refl
bytes_stay held p bytes frame from (suc n) run =
    let here : get (put_run held p bytes frame) from ≡ get held from = cell_stays held p bytes frame from (run from (omega arith) (omega arith)) in
    rw (here, bytes_stay held p bytes frame (from + 1) n (λ q a b. run q (omega arith) (omega arith))) refl

-- what stood in order still does, where no gap is passed
pub renew_same : (w : WayState) (s : Segment) (held : Held) (start end u : ℕ) → IsWay w → lost_in w ≡ [] → start ≡ start_for w → end ≡ front_for w
    → held ≡ held_with w.held start end u s → w.front ≡ bytes_at held start (end - start)
renew_same w s held start end u way none start_is end_is held_is =
    let starts : start ≡ w.start = start_is ∙ ap (start_past w.start) none in
    let ends : end ≡ end_of w = end_is ∙ ap (end_past w.held (end_of w)) none in
    let size : end - start ≡ length w.front = omega (arith, starts, ends) in
    way.bytes
    ∙ sym (bytes_stay w.held (place start end u) (taken_bytes start end u s.payload) s.frame w.start (length w.front) way.place.run)
    ∙ ap (λ (h : Held). bytes_at h w.start (length w.front)) (sym held_is)
    ∙ ap (λ (p : ℕ). bytes_at held p (length w.front)) (sym starts)
    ∙ ap (bytes_at held start) (sym size)

pub end_small : (front ends : ℕ) → front < 2 ^ 60 → ends ≤ front + window → ends < 2 ^ 61
unfolding window
end_small front ends room near = omega arith

pub step_is : (w : WayState) (s : Segment) (origin : ℕ) (held : Held) (earlier : List Stretch) (start end u to : ℕ) (front : List ℕ)
    → origin ≡ origin_for w s → start ≡ start_for w → end ≡ front_for w → u ≡ ahead origin end (first_number s) → held ≡ held_with w.held start end u s
    → earlier ≡ w.earlier ++ left_behind w.held w.start (lost_in w) → IsPlace w.held start end → IsFreeFrom held end to → front ≡ bytes_at held start (to - start)
    → (record { origin = Some origin; held = held; earlier = earlier; start = start; front = front; acked = w.acked }) ≡ own_step w s
unfolding own_step
step_is w s origin held earlier start end u to front origin_is start_is end_is u_is held_is earlier_is place free front_is =
    let moved : IsFreeFrom (held_with w.held start end u s) end to = subst (λ (h : Held). IsFreeFrom h end to) held_is free in
    let last : to ≡ first_free (held_with w.held start end u s) end =
    free_same (held_with w.held start end u s) end to (first_free (held_with w.held start end u s) end) moved
    (put_free w.held start end _ _ s.frame place (taken_short start end u s.payload)) in
    let final : to ≡ first_free held end = last ∙ ap (λ (h : Held). first_free h end) (sym held_is) in
    let bytes : front ≡ bytes_at held start (first_free held end - start) = front_is ∙ ap (λ (p : ℕ). bytes_at held start (p - start)) final in
    cc

-- the stretches before the last stay apart
pub own_apart : (w : WayState) → IsWay w → AreApart 0 (w.earlier ++ left_behind w.held w.start (lost_in w)) (start_for w)
own_apart w way =
    apart_append 0 w.earlier w.start (left_behind w.held w.start (lost_in w)) (start_for w) way.apart
    (apart_past (w.acked - end_of w) w.held w.acked w.start (end_of w) w.start way.place (omega arith))

-- a step keeps what is known of a direction
pub own_keeps : (w : WayState) (s : Segment) → IsWay w → IsWay (own_step w s)
unfolding own_step
own_keeps w s way =
    let gaps_past = place_past (w.acked - end_of w) w.held w.acked w.start (end_of w) way.place in
    let u = ahead (origin_for w s) (front_for w) (first_number s) in
    let after = place_put w.held (start_for w) (front_for w) (place (start_for w) (front_for w) u) (taken_bytes (start_for w) (front_for w) u s.payload) s.frame gaps_past
    (taken_short (start_for w) (front_for w) u s.payload) in
    let size = length-bytes_at (held_after w s) (start_for w) (first_free (held_after w s) (front_for w) - start_for w) in
    let order : start_for w ≤ first_free (held_after w s) (front_for w) = after.order in
    let same : end_of (own_step w s) ≡ first_free (held_after w s) (front_for w) = omega (arith, size, order) in
    record {
      place = subst (IsPlace (held_after w s) (start_for w)) (sym same) after;
      bytes = ap (bytes_at (held_after w s) (start_for w)) (sym size);
      apart = own_apart w way;
    }

pub other_keeps : (w : WayState) (s : Segment) → IsWay w → IsWay (other_step w s)
unfolding other_step
other_keeps w s way = record { place = way.place; bytes = way.bytes; apart = way.apart }

pub nothing_is : IsWay nothing
nothing_is = record {
  place = record {
    order = omega arith;
    run = λ q a b. absurd (omega arith);
    free = get-empty nat_cmp 0;
    base = λ _. refl;
    window_is = λ q _. get-empty nat_cmp q;
  };
  bytes = refl;
  apart = omega arith;
}

pub step_keeps : (own : Bool) (w : WayState) (s : Segment) → IsWay w → IsWay (way_step own w s)
step_keeps true w s way = own_keeps w s way
step_keeps false w s way = other_keeps w s way

pub after_is : (side : Bool) (ls : List Sided) → IsWay (way_after side ls)
after_is side [] = nothing_is
after_is side (l ∷ ls) = step_keeps (same_side side l.side) (way_after side ls) l.segment (after_is side ls)

-- how far a step goes
free_most : (held : Held) (from to top : ℕ) → IsFreeFrom held from to → from ≤ top → ((q : ℕ) → top ≤ q → get held q ≡ None) → to ≤ top
free_most held from to top free low none = elim (cases_lt top to) [
  | inr less ↦ less
  | inl past ↦ absurd (none_is_not_some (get held top) (free.run top low past) (none top (omega arith)))
]

free_near : (held : Held) (next to top : ℕ) → IsSome (get held next) → IsFreeFrom held next to → ((q : ℕ) → top ≤ q → get held q ≡ None) → to ≤ top
free_near held next to top there free none = elim (cases_lt next top) [
  | inl within ↦ free_most held next to top free (omega arith) none
  | inr out ↦ absurd (none_is_not_some (get held next) there (none next out))
]

pub past_near : (n : ℕ) (held : Held) (acked start front top : ℕ) → IsPlace held start front → front ≤ top → ((q : ℕ) → top ≤ q → get held q ≡ None)
    → end_past held front (gaps n held acked front) ≤ top
past_near zero held acked start front top place low none = low
past_near (suc n) held acked start front top place low none =
    elim (next_from (acked - front) held (front + 1)) as (λ o. next_from (acked - front) held (front + 1) ≡ o → end_past held front (gaps_on (gaps n held acked) held front o) ≤ top) [
      | None ↦ λ e. low
      | Some next ↦ λ e.
          let found = next_is (acked - front) held (front + 1) next e in
          let order : front + 1 ≤ next = found.first.order in
          let free = jump_free held start front next place (omega arith) in
          past_near n held acked next (first_free held next) top (place_jump held start front next place found.first) (free_near held next (first_free held next) top found.first.there free none) none
    ] refl

-- gaps lie in order behind the front end
pub gaps_between : (n : ℕ) (held : Held) (acked start front low top : ℕ) → IsPlace held start front → low ≤ front → front ≤ top → ((q : ℕ) → top ≤ q → get held q ≡ None)
    → AreBetween low (gaps n held acked front) top
gaps_between zero held acked start front low top place order room none = omega arith
gaps_between (suc n) held acked start front low top place order room none =
    elim (next_from (acked - front) held (front + 1)) as (λ o. next_from (acked - front) held (front + 1) ≡ o → AreBetween low (gaps_on (gaps n held acked) held front o) top) [
      | None ↦ λ e. omega arith
      | Some next ↦ λ e.
          let found = next_is (acked - front) held (front + 1) next e in
          let far : front + 1 ≤ next = found.first.order in
          let past : front < next = omega (arith, far) in
          let free = jump_free held start front next place (omega arith) in (
            order,
            (
              past,
              gaps_between n held acked next (first_free held next) next top (place_jump held start front next place found.first) free.order
                  (free_near held next (first_free held next) top found.first.there free none) none,
            ),
          )
    ] refl

pub lost_between : (w : WayState) → IsWay w → AreBetween (end_of w) (lost_in w) (end_of w + window)
lost_between w way =
    gaps_between (w.acked - end_of w) w.held w.acked w.start (end_of w) (end_of w) (end_of w + window) way.place (omega arith) (omega arith) way.place.window_is

pub lost_most : (low : ℕ) (gaps : List Lost) (high : ℕ) → AreBetween low gaps high → low + lost_bytes gaps ≤ high
lost_most low [] high between = omega (arith, between)
lost_most low (gap ∷ gaps) high between =
    let rest = lost_most gap.to gaps high between.1.1 in
    omega (arith, between.0, between.1.0, rest)

pub lost_few : (low : ℕ) (gaps : List Lost) → AreBetween low gaps (low + window) → lost_bytes gaps < 2 ^ 32
unfolding window
lost_few low gaps between = omega (arith, lost_most low gaps (low + window) between)

reach : (start front last old : ℕ) (bytes : List ℕ) → start ≤ front → front ≤ old + window → last ≤ front + window → length bytes ≡ last - start → start + length bytes ≤ old + window + window
reach start front last old bytes order far near size = omega arith

pub own_room : (w : WayState) (s : Segment) → IsWay w → end_of (own_step w s) ≤ end_of w + window + window
unfolding own_step
own_room w s way =
    let gaps_past = place_past (w.acked - end_of w) w.held w.acked w.start (end_of w) way.place in
    let u = ahead (origin_for w s) (front_for w) (first_number s) in
    let p = place (start_for w) (front_for w) u in
    let bytes = taken_bytes (start_for w) (front_for w) u s.payload in
    let short = taken_short (start_for w) (front_for w) u s.payload in
    let last = first_free (held_after w s) (front_for w) in
    let far : front_for w ≤ end_of w + window = past_near (w.acked - end_of w) w.held w.acked w.start (end_of w) (end_of w + window) way.place (omega arith) way.place.window_is in
    let near : last ≤ front_for w + window = free_most (held_after w s) (front_for w) last (front_for w + window) (put_free w.held (start_for w) (front_for w) p bytes s.frame gaps_past short)
    (omega arith) (λ q low. put_after w.held (front_for w) p bytes s.frame q (gaps_past.window_is q low) short low) in
    reach (start_for w) (front_for w) last (end_of w) (bytes_at (held_after w s) (start_for w) (last - start_for w)) gaps_past.order far near (length-bytes_at (held_after w s) (start_for w) (last - start_for w))

twice : (old next : ℕ) → next ≤ old + window + window → next ≤ old + 2 ^ 25
unfolding window
twice old next near = omega arith

other_room : (w : WayState) (s : Segment) → end_of (other_step w s) ≤ end_of w + 2 ^ 25
unfolding other_step
other_room w s = omega arith

pub step_room : (own : Bool) (w : WayState) (s : Segment) → IsWay w → end_of (way_step own w s) ≤ end_of w + 2 ^ 25
step_room true w s way = twice (end_of w) (end_of (own_step w s)) (own_room w s way)
step_room false w s way = other_room w s

below_next : (old next : ℕ) → old < 2 ^ 60 → next ≤ old + 2 ^ 25 → next < 2 ^ 61
below_next old next low near = omega arith

pub near_is : (w next : WayState) (s : Segment) → IsWay w → end_of w < 2 ^ 60 → next ≡ own_step w s → end_of next < 2 ^ 61
near_is w next s way low is = below_next (end_of w) (end_of next) low (subst (λ (v : WayState). end_of v ≤ end_of w + 2 ^ 25) (sym is) (twice (end_of w) (end_of (own_step w s)) (own_room w s way)))

-- what the joined bytes say of a direction
pub place_low : (start front u : ℕ) → start ≤ front → start ≤ place start front u
place_low start front u order = elim (cases_lt u (2 ^ 31)) [
  | inl less ↦
      let is : place start front u ≡ front + u = cond-true _ _ _ (lt-ltb u (2 ^ 31) less) in
      omega (arith, is)
  | inr more ↦
      let is : place start front u ≡ max start (front - (2 ^ 32 - u)) = cond-false _ _ _ (le-ltb u (2 ^ 31) more) in
      omega (arith, is)
]

pub joined_free : (j : Joined) (end : ℕ) → IsJoined j → j.start ≤ end → end ≤ front_end j → IsFreeFrom j.held end (front_end j)
joined_free j end joined low high = record {
  order = high;
  run = λ q a b. joined.order.run q (omega arith) b;
  free = joined.free;
}

pub joined_front : (j : Joined) (start : ℕ) → IsInOrder j → j.start ≡ start → j.front ≡ bytes_at j.held start (front_end j - start)
joined_front j start order at =
    let size : front_end j - start ≡ length j.front = omega (arith, at) in
    order.bytes ∙ ap (λ (p : ℕ). bytes_at j.held p (length j.front)) at ∙ ap (bytes_at j.held start) (sym size)

pub apart_later : (low : ℕ) (xs : List Stretch) (next later : ℕ) → AreApart low xs next → next ≤ later → AreApart low xs later
apart_later low [] next later apart order = omega (arith, apart)
apart_later low (x ∷ xs) next later apart order = (apart.0, apart_later (x.start + length x.bytes + 1) xs next later apart.1 order)
