-- A segment leaves the earlier stretches of its direction as they were, and has the last one grow, or others begin behind it.
use Rattle.std.proofs.Common.{◌≡◌, ℕ, zero, suc, ◌+◌, ◌-◌, ◌≤◌, Bool, true, false, List, [], ◌∷◌, ◌++◌, length, None, Some, refl, sym, ap, subst, ◌∙◌, inl, inr, arith, append_assoc, append-nil}
use Rattle.std.specs.Prelude.{◌⊎◌, if◌then◌else◌}
use Rattle.std.proofs.lemmas.Bool.Decides.{eqb_tells}
use Rattle.pk_base.specs.declared.lost.Lost.{Lost}
use Rattle.pk_base.specs.declared.stretch.Stretch.{Stretch}
use Rattle.range_bytes.specs.Held.{Held, bytes_at}
use Rattle.range_bytes.proofs.Runs.{bytes_at-append}
use Rattle.tcp_streams.specs.declared.segment.Segment.{Segment}
use Rattle.tcp_streams.specs.Numbers.{first_number, ahead, place, taken_bytes}
use Rattle.tcp_streams.specs.Gaps.{first_free, next_from, gaps_on, gaps, start_past, left_behind}
use Rattle.tcp_streams.specs.Labels.{Label, labels, sided_of, way_of}
use Rattle.tcp_streams.specs.Ways.{WayState, stretches, end_of, lost_in, start_for, front_for, origin_for, held_after, own_step, other_step, way_step, same_side, IsWay, AreApart}
use Rattle.tcp_streams.proofs.Places.{length-bytes_at, apart_past, place_past, put_free}
use Rattle.tcp_streams.proofs.WayLemmas.{renew_same, taken_short, own_keeps, after_is}
use Rattle.stream_messages.specs.declared.framer.Framer.{Framer}
use Rattle.stream_messages.specs.Messages.{Asked, AllFrom, AreLonger, messages, of_stretches}
use Rattle.stream_messages.specs.Sides.{Brought, same_side as is_same, end_behind, stretches_in, asked_in, noted, AreInOrder, AllGrow}
use Rattle.stream_messages.proofs.SideLemmas.{laws_of_sides}
use Rattle.tcp_messages.specs.Brought.{brought, MessagesOnce}

-- ---- stretches that are apart

pub apart_order : (low : ℕ) (xs : List Stretch) (next : ℕ) → AreApart low xs next → low ≤ next
apart_order low [] next apart = apart
apart_order low (x ∷ xs) next apart = omega (arith, apart.0, apart_order (x.start + length x.bytes + 1) xs next apart.1)

pub all_from : (end low : ℕ) (xs : List Stretch) (last : Stretch) → end ≤ low → AreApart low xs last.start → AllFrom end (xs ++ last ∷ [])
all_from end low [] last within apart = (omega (arith, apart), tt)
all_from end low (x ∷ xs) last within apart =
    (omega (arith, apart.0), all_from end (x.start + length x.bytes + 1) xs last (omega (arith, apart.0)) apart.1)

pub from_zero : (xs : List Stretch) → AllFrom 0 xs
from_zero [] = tt
from_zero (x ∷ xs) = (omega arith, from_zero xs)

pub in_order : (low lower : ℕ) (xs : List Stretch) (last : Stretch) → lower ≤ low → AreApart low xs last.start → AreInOrder lower (xs ++ last ∷ [])
in_order low lower [] last within apart = (omega (arith, apart), tt)
in_order low lower (x ∷ xs) last within apart =
    (omega (arith, apart.0), in_order (x.start + length x.bytes + 1) (x.start + length x.bytes) xs last (omega arith) apart.1)

pub end_is : (end : ℕ) (xs : List Stretch) (last : Stretch) → end_behind end (xs ++ last ∷ []) ≡ last.start + length last.bytes
end_is end [] last = refl
end_is end (x ∷ xs) last = end_is (x.start + length x.bytes) xs last

-- ---- a stretch more or a longer one

longer_behind : (end low : ℕ) (xs : List Stretch) (s t : Stretch) (ts : List Stretch) → AreApart low xs s.start → s.start ≤ end
    → AreLonger end (s ∷ []) (t ∷ ts) → AreLonger end (xs ++ s ∷ []) (xs ++ t ∷ ts)
longer_behind end low [] s t ts apart within longer = longer
longer_behind end low (x ∷ []) s t ts apart within longer = (refl, omega (arith, apart.1), longer)
longer_behind end low (x ∷ y ∷ xs) s t ts apart within longer =
    let order : x.start + length x.bytes + 1 ≤ s.start = apart_order (x.start + length x.bytes + 1) (y ∷ xs) s.start apart.1 in
    (refl, omega (arith, order), longer_behind end (x.start + length x.bytes + 1) (y ∷ xs) s t ts apart.1 within longer)

-- the first gap begins at the front end
abbrev pub BeginAt : ℕ → List Lost → Type 0
BeginAt front [] = Unit {0}
BeginAt front (gap ∷ gaps) = gap.from ≡ front

pub begins_at : (n : ℕ) (held : Held) (acked front : ℕ) → BeginAt front (gaps n held acked front)
begins_at zero held acked front = tt
begins_at (suc n) held acked front =
    elim (next_from (acked - front) held (front + 1)) as (λ o. BeginAt front (gaps_on (gaps n held acked) held front o)) [
      | None ↦ tt
      | Some next ↦ refl
    ]

-- the last stretch, and what comes of it
last_longer : (w : WayState) (lost : List Lost) (bytes : List ℕ) → IsWay w → BeginAt (end_of w) lost
    → AreApart w.start (left_behind w.held w.start lost) (start_past w.start lost)
    → (lost ≡ [] → (more : List ℕ) × (bytes ≡ w.front ++ more))
    → AreLonger (end_of w) (stretches w) (w.earlier ++ (left_behind w.held w.start lost ++ record { start = start_past w.start lost; bytes = bytes } ∷ []))
last_longer w [] bytes way begins apart same =
    let grown = same refl in
    longer_behind (end_of w) 0 w.earlier (record { start = w.start; bytes = w.front }) (record { start = w.start; bytes = bytes }) [] way.apart (omega arith)
    (refl, grown, refl, tt)
last_longer w (gap ∷ lost) bytes way begins apart same =
    let left : List ℕ = bytes_at w.held w.start (gap.from - w.start) in
    let size : gap.from - w.start ≡ length w.front = omega (arith, begins) in
    let is : left ≡ w.front ++ [] = ap (bytes_at w.held w.start) size ∙ sym way.bytes ∙ sym (append-nil w.front) in
    let far : length left ≡ gap.from - w.start = length-bytes_at w.held w.start (gap.from - w.start) in
    let last : Stretch = record { start = start_past gap.to lost; bytes = bytes } in
    longer_behind (end_of w) 0 w.earlier (record { start = w.start; bytes = w.front }) (record { start = w.start; bytes = left })
    (left_behind w.held gap.to lost ++ last ∷ []) way.apart (omega arith)
    (refl, ([], is), refl, all_from (end_of w) (w.start + length left + 1) (left_behind w.held gap.to lost) last (omega (arith, far, size)) apart.1)

-- where no gap is passed, the bytes in order are those before and more
pub grows_on : (w : WayState) (s : Segment) → IsWay w → lost_in w ≡ []
    → (more : List ℕ) × (bytes_at (held_after w s) (start_for w) (first_free (held_after w s) (front_for w) - start_for w) ≡ w.front ++ more)
grows_on w s way none =
    let u = ahead (origin_for w s) (front_for w) (first_number s) in
    let held = held_after w s in
    let placed = place_past (w.acked - end_of w) w.held w.acked w.start (end_of w) way.place in
    let free = put_free w.held (start_for w) (front_for w) (place (start_for w) (front_for w) u) (taken_bytes (start_for w) (front_for w) u s.payload) s.frame placed
    (taken_short (start_for w) (front_for w) u s.payload) in
    let near : front_for w ≤ first_free held (front_for w) = free.order in
    let order : start_for w ≤ front_for w = placed.order in
    let old : ℕ = front_for w - start_for w in
    let new : ℕ = first_free held (front_for w) - front_for w in
    let size : first_free held (front_for w) - start_for w ≡ old + new = omega (arith, near, order) in
    let same : w.front ≡ bytes_at held (start_for w) old = renew_same w s held (start_for w) (front_for w) u way none refl refl refl in (
      bytes_at held (start_for w + old) new,
      ap (bytes_at held (start_for w)) size ∙ bytes_at-append held (start_for w) old new ∙ ap (λ (bytes : List ℕ). bytes ++ bytes_at held (start_for w + old) new) (sym same),
    )

pub own_longer : (w : WayState) (s : Segment) → IsWay w → AreLonger (end_of w) (stretches w) (stretches (own_step w s))
unfolding own_step
own_longer w s way =
    let bytes : List ℕ = bytes_at (held_after w s) (start_for w) (first_free (held_after w s) (front_for w) - start_for w) in
    let last : Stretch = record { start = start_for w; bytes = bytes } in
    subst (AreLonger (end_of w) (stretches w)) (sym (append_assoc w.earlier (left_behind w.held w.start (lost_in w)) (last ∷ [])))
    (last_longer w (lost_in w) bytes way (begins_at (w.acked - end_of w) w.held w.acked (end_of w))
    (apart_past (w.acked - end_of w) w.held w.acked w.start (end_of w) w.start way.place (omega arith)) (grows_on w s way))

pub other_same : (w : WayState) (s : Segment) → stretches (other_step w s) ≡ stretches w
unfolding other_step
other_same w s = refl

-- ---- what the segments of a stream brought

-- the stretches of a direction are those that its newest segment brought; before the first, it has no bytes
abbrev pub IsBrought : List Stretch → List Stretch → Type 0
IsBrought found ss = (found ≡ ss) ⊎ ((found ≡ []) × (ss ≡ record { start = 0; bytes = [] } ∷ []))

brought_next : (side from : Bool) (own old : List Stretch) (w : WayState) (s : Segment) → (from ≡ side → own ≡ stretches (own_step w s)) → IsBrought old (stretches w)
    → IsBrought (if is_same side from then own else old) (stretches (way_step (same_side side from) w s))
brought_next true true own old w s here is = inl (here refl)
brought_next false false own old w s here is = inl (here refl)
brought_next true false own old w s here is = subst (IsBrought old) (sym (other_same w s)) is
brought_next false true own old w s here is = subst (IsBrought old) (sym (other_same w s)) is

pub brought_is : (framer : Framer) (stream : ℕ) (side : Bool) (ls : List Label) → IsBrought (stretches_in side (noted framer (brought stream ls))) (stretches (way_of stream side ls))
brought_is framer stream side [] = inr (refl, refl)
brought_is framer stream side (l ∷ ls) = elim (eqb_tells l.stream stream) [
  | inl here ↦
      let own : List Stretch = stretches (own_step (way_of l.stream l.side ls) l.segment) in
      let same : (l.side ≡ side → own ≡ stretches (own_step (way_of stream side ls) l.segment)) =
      λ from. ap (λ (n : ℕ). stretches (own_step (way_of n l.side ls) l.segment)) here.1 ∙ ap (λ (b : Bool). stretches (own_step (way_of stream b ls) l.segment)) from in
      rw here.0 (brought_next side l.side own (stretches_in side (noted framer (brought stream ls))) (way_of stream side ls) l.segment same (brought_is framer stream side ls))
  | inr other ↦ rw other.0 (brought_is framer stream side ls)
]

longer_by : (found : List Stretch) (w : WayState) (s : Segment) → IsWay w → IsBrought found (stretches w) → AreLonger (end_behind 0 found) found (stretches (own_step w s))
longer_by found w s way (inl same) =
    subst (λ (xs : List Stretch). AreLonger (end_behind 0 xs) xs (stretches (own_step w s))) (sym same)
    (subst (λ (end : ℕ). AreLonger end (stretches w) (stretches (own_step w s))) (sym (end_is 0 w.earlier (record { start = w.start; bytes = w.front }))) (own_longer w s way))
longer_by found w s way (inr none) =
    subst (λ (xs : List Stretch). AreLonger (end_behind 0 xs) xs (stretches (own_step w s))) (sym none.0) (from_zero (stretches (own_step w s)))

order_of : (w : WayState) → IsWay w → AreInOrder 0 (stretches w)
order_of w way = in_order 0 0 w.earlier (record { start = w.start; bytes = w.front }) (omega arith) way.apart

pub all_grow : (framer : Framer) (stream : ℕ) (ls : List Label) → AllGrow framer (brought stream ls)
all_grow framer stream [] = tt
all_grow framer stream (l ∷ ls) = elim (eqb_tells l.stream stream) [
  | inl here ↦
      let w : WayState = way_of l.stream l.side ls in
      let way : IsWay w = after_is l.side (sided_of l.stream ls) in
      let found = subst (λ (n : ℕ). IsBrought (stretches_in l.side (noted framer (brought stream ls))) (stretches (way_of n l.side ls))) (sym here.1) (brought_is framer stream l.side ls) in
      rw here.0 (longer_by (stretches_in l.side (noted framer (brought stream ls))) w l.segment way found, (order_of (own_step w l.segment) (own_keeps w l.segment way), all_grow framer stream ls))
  | inr other ↦ rw other.0 (all_grow framer stream ls)
]

no_messages : (framer : Framer) (asked : Asked) → of_stretches framer asked 0 (record { start = 0; bytes = [] } ∷ []) ≡ []
unfolding messages
no_messages framer asked = refl

same_messages : (framer : Framer) (asked : Asked) (found ss : List Stretch) → IsBrought found ss → of_stretches framer asked 0 found ≡ of_stretches framer asked 0 ss
same_messages framer asked found ss (inl same) = ap (of_stretches framer asked 0) same
same_messages framer asked found ss (inr none) = ap (of_stretches framer asked 0) none.0 ∙ sym (no_messages framer asked) ∙ sym (ap (of_stretches framer asked 0) none.1)

pub each_once : MessagesOnce
each_once framer past stream side =
    let bs : List Brought = brought stream (labels past) in
    laws_of_sides.once framer side bs (all_grow framer stream (labels past))
    ∙ same_messages framer (asked_in side (noted framer bs)) (stretches_in side (noted framer bs)) (stretches (way_of stream side (labels past))) (brought_is framer stream side (labels past))
