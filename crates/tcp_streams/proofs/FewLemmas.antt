-- Where a direction's segments have few bytes and no gap was passed, none of them reaches far.
use Rattle.std.proofs.Common.{◌≡◌, ℕ, ◌+◌, ◌-◌, ◌^◌, ◌<◌, ◌≤◌, Bool, true, false, cond, List, [], ◌∷◌, length, drop, sym, ap, subst, inl, inr, arith}
use Rattle.std.proofs.lemmas.List.{length-take, length-drop}
use Rattle.range_bytes.specs.Held.{held_below}
use Rattle.range_bytes.proofs.Counting.{run_fits, none_below, put_few}
use Rattle.tcp_streams.specs.declared.segment.Segment.{Segment}
use Rattle.tcp_streams.specs.Numbers.{first_number, ahead, place, skipped, taken_bytes, window}
use Rattle.tcp_streams.specs.Gaps.{end_past}
use Rattle.tcp_streams.specs.Ways.{WayState, Sided, end_of, start_for, front_for, origin_for, own_step, other_step, way_step, way_after, same_side}
use Rattle.tcp_streams.specs.Order.{offset, AllInWindow, AllShort, bytes_sent, IsOrderFree}
use Rattle.tcp_streams.proofs.WayLemmas.{after_is}
use Rattle.tcp_streams.proofs.OrderLemmas.{own_plain, earlier_back, start_is, holds_sent, holds_given, run_is, order_is_free}

pub step_few : (n : ℕ) (w : WayState) (s : Segment) (sent : ℕ) (own : Bool) → held_below n w.held ≤ sent → held_below n (way_step own w s).held ≤ cond own (length s.payload) 0 + sent
unfolding own_step other_step
step_few n w s sent true few =
    let u = ahead (origin_for w s) (front_for w) (first_number s) in
    let p = place (start_for w) (front_for w) u in
    let bytes = taken_bytes (start_for w) (front_for w) u s.payload in
    let more = put_few n w.held p bytes s.frame in
    omega (arith, few, more.few, length-take (front_for w + window - p) (drop (skipped (start_for w) (front_for w) u) s.payload), length-drop (skipped (start_for w) (front_for w) u) s.payload)
step_few n w s sent false few = omega (arith, few)

sent_few : (n : ℕ) (side : Bool) (ls : List Sided) → held_below n (way_after side ls).held ≤ bytes_sent side ls
sent_few n side [] = omega (arith, none_below n)
sent_few n side (l ∷ ls) = step_few n (way_after side ls) l.segment (bytes_sent side ls) (same_side side l.side) (sent_few n side ls)

-- the front end
front_few : (side : Bool) (ls : List Sided) → (way_after side ls).earlier ≡ [] → end_of (way_after side ls) ≤ bytes_sent side ls
front_few side ls none =
    let w = way_after side ls in
    let begins : w.start ≡ 0 = start_is side ls none in
    let run = run_fits w.held w.start (end_of w) (after_is side ls).place.run in
    omega (arith, run, begins, sent_few (end_of w) side ls)

new_short : (origin : ℕ) (side : Bool) (l : Sided) (ls : List Sided) → AllInWindow origin side (l ∷ ls) → (way_step true (way_after side ls) l.segment).earlier ≡ []
    → same_side side l.side ≡ true → bytes_sent side ls ≤ 2 ^ 30 → 0 < length l.segment.payload → offset origin l.segment + length l.segment.payload < 2 ^ 31
unfolding window
new_short origin side l ls in_window none own few some =
    let w = way_after side ls in
    let plain = own_plain w l.segment none in
    let end : front_for w ≡ end_of w = ap (end_past w.held (end_of w)) plain.none in
    let near : offset origin l.segment + length l.segment.payload ≤ front_for w + window = in_window.0 own some in
    omega (arith, near, end, front_few side ls plain.earlier, few)

few_short : (origin : ℕ) (side : Bool) (ls : List Sided) → AllInWindow origin side ls → (way_after side ls).earlier ≡ [] → bytes_sent side ls ≤ 2 ^ 30 → AllShort origin side ls
few_short origin side [] in_window none few s sent some = absurd sent
few_short origin side (l ∷ ls) in_window none few s (inl now) some =
    let before : bytes_sent side ls ≤ 2 ^ 30 = omega (arith, few) in
    let own : (way_step true (way_after side ls) l.segment).earlier ≡ [] = subst (λ (b : Bool). (way_step b (way_after side ls) l.segment).earlier ≡ []) now.0 none in
    let has : 0 < length l.segment.payload = subst (λ (t : Segment). 0 < length t.payload) (sym now.1) some in
    subst (λ (t : Segment). offset origin t + length t.payload < 2 ^ 31) now.1 (new_short origin side l ls in_window own now.0 before has)
few_short origin side (l ∷ ls) in_window none few s (inr old) some =
    let before : bytes_sent side ls ≤ 2 ^ 30 = omega (arith, few) in
    few_short origin side ls in_window.1 (earlier_back (way_after side ls) l.segment (same_side side l.side) none) before s old some

pub is_order_free : (origin : ℕ) (side : Bool) (ls : List Sided) → IsOrderFree origin side ls
is_order_free origin side ls = record {
  sent = holds_sent origin side ls;
  given = holds_given origin side ls;
  run = run_is origin side ls;
  short = few_short origin side ls;
  free = order_is_free origin side ls;
}
