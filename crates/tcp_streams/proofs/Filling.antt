-- How many bytes a direction holds, and each of its stretches has.
use Rattle.std.proofs.Common.{◌≡◌, ℕ, zero, suc, ◌+◌, ◌-◌, ◌≤◌, Bool, true, false, cond, eqb, List, [], ◌∷◌, ◌++◌, length, Option, None, Some, slice_get, refl, sym, subst, arith}
use Rattle.pk_base.specs.declared.stretch.Stretch.{Stretch}
use Rattle.range_bytes.specs.Held.{Held, HoldsAll, held_below}
use Rattle.range_bytes.proofs.Counting.{run_fits, none_below}
use Rattle.tcp_streams.specs.declared.segment.Segment.{Segment}
use Rattle.tcp_streams.specs.declared.segment.Taken.{Taken}
use Rattle.tcp_streams.specs.declared.stream.Stream.{Stream}
use Rattle.tcp_streams.specs.Gaps.{first_free, next_from, gaps_on, gaps, left_behind}
use Rattle.tcp_streams.specs.Ways.{WayState, nothing, end_of, lost_in, stretches, own_step, other_step, way_step, same_side, IsPlace, IsWay, AreShort, HoldsAtMost}
use Rattle.tcp_streams.specs.Stands.{IsFilled, AreFilled}
use Rattle.tcp_streams.specs.Standing.{AreStepped, AreSteppedAt, way_kept}
use Rattle.tcp_streams.proofs.Places.{length-bytes_at, next_is, place_jump}
use Rattle.tcp_streams.proofs.FewLemmas.{step_few}

-- ---- stretches

short_more : (most more : ℕ) (xs : List Stretch) → most ≤ more → AreShort most xs → AreShort more xs
short_more most more [] less short = tt
short_more most more (x ∷ xs) less short = (omega (arith, less, short.0), short_more most more xs less short.1)

short_append : (most : ℕ) (xs ys : List Stretch) → AreShort most xs → AreShort most ys → AreShort most (xs ++ ys)
short_append most [] ys before after = after
short_append most (x ∷ xs) ys before after = (before.0, short_append most xs ys before.1 after)

run_short : (held : Held) (start front bytes : ℕ) → HoldsAll held start front → ((position : ℕ) → held_below position held ≤ bytes) → front - start ≤ bytes
run_short held start front bytes run few = omega (arith, run_fits held start front run, few front)

past_short : (n : ℕ) (held : Held) (acked start front bytes : ℕ) → IsPlace held start front → ((position : ℕ) → held_below position held ≤ bytes)
    → AreShort bytes (left_behind held start (gaps n held acked front))
past_short zero held acked start front bytes place few = tt
past_short (suc n) held acked start front bytes place few =
    elim (next_from (acked - front) held (front + 1)) as (λ o. next_from (acked - front) held (front + 1) ≡ o
    → AreShort bytes (left_behind held start (gaps_on (gaps n held acked) held front o))) [
      | None ↦ λ e. tt
      | Some next ↦ λ e. (
        omega (arith, length-bytes_at held start (front - start), run_short held start front bytes place.run few),
        past_short n held acked next (first_free held next) bytes (place_jump held start front next place (next_is (acked - front) held (front + 1) next e).first) few,
      )
    ] refl

pub stretches_short : (bytes : ℕ) (w : WayState) → IsWay w → HoldsAtMost bytes w → AreShort bytes (stretches w)
stretches_short bytes w way filled =
    let size : length w.front ≤ bytes = omega (arith, run_short w.held w.start (end_of w) bytes way.place.run filled.held) in
    short_append bytes w.earlier (record { start = w.start; bytes = w.front } ∷ []) filled.earlier (size, tt)

-- ---- a segment more

filled_more : (bytes more : ℕ) (w : WayState) → bytes ≤ more → HoldsAtMost bytes w → HoldsAtMost more w
filled_more bytes more w less filled = record {
  held = λ position. omega (arith, less, filled.held position);
  earlier = short_more bytes more w.earlier less filled.earlier;
}

own_earlier : (w : WayState) (s : Segment) → (own_step w s).earlier ≡ w.earlier ++ left_behind w.held w.start (lost_in w)
unfolding own_step
own_earlier w s = refl

own_filled : (bytes : ℕ) (w : WayState) (s : Segment) → IsWay w → HoldsAtMost bytes w → HoldsAtMost (bytes + length s.payload) (own_step w s)
own_filled bytes w s way filled =
    let more : ℕ = bytes + length s.payload in
    record {
      held = λ position. omega (arith, step_few position w s bytes true (filled.held position));
      earlier = subst (AreShort more) (sym (own_earlier w s))
          (short_append more w.earlier (left_behind w.held w.start (lost_in w)) (short_more bytes more w.earlier (omega arith) filled.earlier)
          (past_short (w.acked - end_of w) w.held w.acked w.start (end_of w) more way.place (λ position. omega (arith, filled.held position))));
    }

other_filled : (bytes : ℕ) (w : WayState) (s : Segment) → HoldsAtMost bytes w → HoldsAtMost bytes (other_step w s)
unfolding other_step
other_filled bytes w s filled = record { held = filled.held; earlier = filled.earlier }

step_filled : (own : Bool) (bytes : ℕ) (w : WayState) (s : Segment) → IsWay w → HoldsAtMost bytes w → HoldsAtMost (bytes + length s.payload) (way_step own w s)
step_filled true bytes w s way filled = own_filled bytes w s way filled
step_filled false bytes w s way filled = filled_more bytes (bytes + length s.payload) (other_step w s) (omega arith) (other_filled bytes w s filled)

-- ---- all streams

nothing_filled : (bytes : ℕ) → HoldsAtMost bytes nothing
nothing_filled bytes = record { held = λ position. omega (arith, none_below position); earlier = tt }

pub ways_filled : (bytes : ℕ) (streams : List Stream) (number : ℕ) (one : Bool) → AreFilled bytes streams → HoldsAtMost bytes (way_kept (slice_get streams number) one)
ways_filled bytes streams number one filled =
    elim (slice_get streams number) as (λ (o : Option Stream). slice_get streams number ≡ o → HoldsAtMost bytes (way_kept o one)) [
      | None ↦ λ none. nothing_filled bytes
      | Some stream ↦ λ there. by stream (filled number stream there) one
    ] refl
  where
    by : (stream : Stream) → IsFilled bytes stream → (one : Bool) → HoldsAtMost bytes (way_kept (Some stream) one)
    by stream is true = is.one
    by stream is false = is.zero

either : (P : WayState → Type 0) (b : Bool) (v w : WayState) → P v → P w → P (cond b v w)
either P true v w one other = one
either P false v w one other = other

way_filled : (bytes : ℕ) (s : Segment) (taken : Taken) (number : ℕ) (side : Bool) (old new : List Stream) → ((k : ℕ) (one : Bool) → IsWay (way_kept (slice_get old k) one)) → AreFilled bytes old
    → AreSteppedAt s taken number side old new → (k : ℕ) (one : Bool) → HoldsAtMost (bytes + length s.payload) (way_kept (slice_get new k) one)
way_filled bytes s taken number side old new ways filled stepped k one =
    let w : WayState = way_kept (slice_get old k) one in
    let was : HoldsAtMost bytes w = ways_filled bytes old k one filled in
    subst (HoldsAtMost (bytes + length s.payload)) (sym (stepped.ways k one))
    (either (HoldsAtMost (bytes + length s.payload)) (eqb k number) (way_step (same_side one side) w s) w
    (step_filled (same_side one side) bytes w s (ways k one) was) (filled_more bytes (bytes + length s.payload) w (omega arith) was))

pub are_filled : (bytes more : ℕ) (s : Segment) (taken : Taken) (old new : List Stream) → ((k : ℕ) (one : Bool) → IsWay (way_kept (slice_get old k) one)) → AreFilled bytes old → AreStepped s taken old new
    → more ≡ bytes + length s.payload → AreFilled more new
are_filled bytes more s taken old new ways filled stepped is =
    let all : (k : ℕ) (one : Bool) → HoldsAtMost (bytes + length s.payload) (way_kept (slice_get new k) one) = way_filled bytes s taken taken.stream stepped.0 old new ways filled stepped.1 in
    subst (λ (n : ℕ). AreFilled n new) (sym is) (λ number stream there. record {
      zero = subst (λ (o : Option Stream). HoldsAtMost (bytes + length s.payload) (way_kept o false)) there (all number false);
      one = subst (λ (o : Option Stream). HoldsAtMost (bytes + length s.payload) (way_kept o true)) there (all number true);
    })
