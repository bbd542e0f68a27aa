-- The bytes of a direction's messages are held.
use Rattle.std.proofs.Common.{◌≡◌, ℕ, zero, suc, ◌+◌, ◌-◌, ◌≤◌, Bool, true, false, nat_lt, List, [], ◌∷◌, ◌++◌, length, Option, Some, None, refl, inl, inr, arith}
use Rattle.std.proofs.lemmas.Bool.{cases_Bool}
use Rattle.pk_base.specs.declared.stretch.Stretch.{Stretch}
use Rattle.stream_messages.specs.declared.shape.Then.{Then}
use Rattle.stream_messages.specs.declared.shape.Then.TheVariants.{Follows, Opaque}
use Rattle.range_bytes.specs.Held.{Held, HoldsAll, put_run}
use Rattle.tcp_streams.specs.declared.segment.Segment.{Segment}
use Rattle.tcp_streams.specs.Numbers.{first_number, ahead, place, taken_bytes}
use Rattle.tcp_streams.specs.Gaps.{first_free, next_from, gaps_on, gaps, left_behind}
use Rattle.tcp_streams.specs.Ways.{WayState, Sided, stretches, end_of as end_in, lost_in, start_for, front_for, origin_for, own_step, other_step, way_step, way_after, same_side, IsPlace, IsWay}
use Rattle.tcp_streams.proofs.Places.{length-bytes_at, next_is, place_jump, put_stays}
use Rattle.tcp_streams.proofs.WayLemmas.{after_is, own_keeps}
use Rattle.stream_messages.specs.declared.framer.Framer.{Framer}
use Rattle.stream_messages.specs.declared.told.Told.{Told}
use Rattle.stream_messages.specs.declared.placed.Placed.{Placed}
use Rattle.stream_messages.specs.Tellings.{first_of, end_of, then_of, passed, answers}
use Rattle.stream_messages.specs.Messages.{Asked, follow, with_first, messages, of_front, of_stretches, answered, above, end_at}
use Rattle.stream_messages.proofs.FirstLemmas.{first_within}

-- ---- stretches

abbrev AreHeldIn : Held → List Stretch → Type 0
AreHeldIn held [] = Unit {0}
AreHeldIn held (x ∷ xs) = HoldsAll held x.start (x.start + length x.bytes) × AreHeldIn held xs

held_stay : (held : Held) (p : ℕ) (bytes : List ℕ) (frame : ℕ) (xs : List Stretch) → AreHeldIn held xs → AreHeldIn (put_run held p bytes frame) xs
held_stay held p bytes frame [] all = tt
held_stay held p bytes frame (x ∷ xs) all = (λ q a b. put_stays held p bytes frame q (all.0 q a b), held_stay held p bytes frame xs all.1)

held_append : (held : Held) (xs ys : List Stretch) → AreHeldIn held xs → AreHeldIn held ys → AreHeldIn held (xs ++ ys)
held_append held [] ys before after = after
held_append held (x ∷ xs) ys before after = (before.0, held_append held xs ys before.1 after)

held_past : (n : ℕ) (held : Held) (acked start front : ℕ) → IsPlace held start front → AreHeldIn held (left_behind held start (gaps n held acked front))
held_past zero held acked start front place = tt
held_past (suc n) held acked start front place =
    elim (next_from (acked - front) held (front + 1)) as (λ o. next_from (acked - front) held (front + 1) ≡ o → AreHeldIn held (left_behind held start (gaps_on (gaps n held acked) held front o))) [
      | None ↦ λ e. tt
      | Some next ↦ λ e.
          let size = length-bytes_at held start (front - start) in
          let order : start ≤ front = place.order in (
            λ q a b. place.run q a (omega (arith, size, order, b)),
            held_past n held acked next (first_free held next) (place_jump held start front next place (next_is (acked - front) held (front + 1) next e).first),
          )
    ] refl

own_held : (w : WayState) (s : Segment) → IsWay w → AreHeldIn w.held w.earlier → AreHeldIn (own_step w s).held (own_step w s).earlier
unfolding own_step
own_held w s way all =
    let u = ahead (origin_for w s) (front_for w) (first_number s) in
    held_stay w.held (place (start_for w) (front_for w) u) (taken_bytes (start_for w) (front_for w) u s.payload) s.frame (w.earlier ++ left_behind w.held w.start (lost_in w))
    (held_append w.held w.earlier (left_behind w.held w.start (lost_in w)) all (held_past (w.acked - end_in w) w.held w.acked w.start (end_in w) way.place))

other_held : (w : WayState) (s : Segment) → AreHeldIn w.held w.earlier → AreHeldIn (other_step w s).held (other_step w s).earlier
unfolding other_step
other_held w s all = all

step_held : (own : Bool) (w : WayState) (s : Segment) → IsWay w → AreHeldIn w.held w.earlier → AreHeldIn (way_step own w s).held (way_step own w s).earlier
step_held true w s way all = own_held w s way all
step_held false w s way all = other_held w s all

after_held : (side : Bool) (ls : List Sided) → AreHeldIn (way_after side ls).held (way_after side ls).earlier
after_held side [] = tt
after_held side (l ∷ ls) = step_held (same_side side l.side) (way_after side ls) l.segment (after_is side ls) (after_held side ls)

-- with a segment of the direction
stretches_held : (side : Bool) (ls : List Sided) (s : Segment) → AreHeldIn (own_step (way_after side ls) s).held (stretches (own_step (way_after side ls) s))
stretches_held side ls s =
    let w : WayState = way_after side ls in
    let v : WayState = own_step w s in
    held_append v.held v.earlier _ (own_held w s (after_is side ls) (after_held side ls)) ((own_keeps w s (after_is side ls)).place.run, tt)

-- ---- messages

abbrev pub AreIn : Held → List Placed → Type 0
AreIn held [] = Unit {0}
AreIn held (m ∷ ms) = HoldsAll held m.at (end_at m) × AreIn held ms

in_append : (held : Held) (ms ns : List Placed) → AreIn held ms → AreIn held ns → AreIn held (ms ++ ns)
in_append held [] ns before after = after
in_append held (m ∷ ms) ns before after = (before.0, in_append held ms ns before.1 after)

follow_in : (held : Held) (next : Then) (ms : List Placed) → AreIn held ms → AreIn held (follow next ms)
follow_in held (Follows count) ms all = all
follow_in held Opaque ms all = tt

first_in : (held : Held) (at : ℕ) (o : Option Told) (more : Told → List Placed) → ((told : Told) → o ≡ Some told → HoldsAll held at (at + end_of told))
    → ((told : Told) → AreIn held (more told)) → AreIn held (with_first at o more)
first_in held at None more run rest = tt
first_in held at (Some told) more run rest = (run told refl, follow_in held (then_of told) (more told) (rest told))

messages_in : (framer : Framer) (asked : Asked) (held : Held) (count at skip : ℕ) (bytes : List ℕ) → HoldsAll held at (at + length bytes) → AreIn held (messages framer asked count at skip bytes)
unfolding messages
messages_in framer asked held count at skip [] run = tt
messages_in framer asked held count at (suc skip) (b ∷ rest) run =
    messages_in framer asked held count (suc at) skip rest (λ q low high. run q (omega (arith, low)) (omega (arith, high)))
messages_in framer asked held count at zero (b ∷ rest) run =
    first_in held at (first_of framer (asked at count) (b ∷ rest))
    (λ (told : Told). messages framer asked (count + answers told) (suc at) (end_of told - 1 + passed (then_of told)) rest)
    (λ told e q low high. run q low (omega (arith, high, first_within framer (asked at count) (b ∷ rest) told e)))
    (λ told. messages_in framer asked held (count + answers told) (suc at) (end_of told - 1 + passed (then_of told)) rest
    (λ q low high. run q (omega (arith, low)) (omega (arith, high))))

all_in : (framer : Framer) (asked : Asked) (held : Held) (count : ℕ) (ss : List Stretch) → AreHeldIn held ss → AreIn held (of_stretches framer asked count ss)
all_in framer asked held count [] all = tt
all_in framer asked held count (s ∷ ss) all =
    in_append held (of_front framer asked count s.start s.bytes) _ (messages_in framer asked held count s.start 0 s.bytes all.0)
    (all_in framer asked held (answered count (of_front framer asked count s.start s.bytes)) ss all.1)

above_in : (held : Held) (before : ℕ) (ms : List Placed) → AreIn held ms → AreIn held (above before ms)
above_in held before [] all = tt
above_in held before (m ∷ ms) all = elim (cases_Bool (nat_lt before (end_at m))) [
  | inl late ↦ rw late (all.0, above_in held before ms all.1)
  | inr early ↦ rw early (above_in held before ms all.1)
]

-- those of a direction's stretches with a segment of it
pub shown_in_held : (framer : Framer) (asked : Asked) (side : Bool) (ls : List Sided) (s : Segment) (before : ℕ)
    → AreIn (own_step (way_after side ls) s).held (above before (of_stretches framer asked 0 (stretches (own_step (way_after side ls) s))))
shown_in_held framer asked side ls s before =
    let v : WayState = own_step (way_after side ls) s in
    above_in v.held before (of_stretches framer asked 0 (stretches v)) (all_in framer asked v.held 0 (stretches v) (stretches_held side ls s))
