-- What is kept of a direction goes on as the direction does.
use Rattle.std.proofs.Common.{◌≡◌, ◌⊎◌, ℕ, zero, suc, ◌+◌, ◌-◌, ◌^◌, ◌<◌, ◌≤◌, max, Bool, true, false, cond, List, [], ◌∷◌, ◌++◌, length, take, drop, slice_index, Option, None, Some, is_some, unwrap_or, refl, sym, ap, ◌∙◌, subst, inl, inr, arith}
use Rattle.std.specs.FinMap.{get}
use Rattle.std.specs.Option.{option_or}
use Rattle.std.proofs.lemmas.Bool.{cases_lt, cases_Bool, lt-ltb, le-ltb, cond-false}
use Rattle.std.proofs.lemmas.List.{length-take, length-drop, get_or-take, get_or-drop}
use Rattle.pk_base.specs.declared.lost.Lost.{Lost}
use Rattle.pk_base.specs.declared.stretch.Stretch.{Stretch}
use Rattle.range_bytes.specs.Held.{Cell, Held, HoldsAll, run_cell, byte_of, bytes_at, frame_of, frames_at, put_number}
use Rattle.range_bytes.proofs.Runs.{get-put_run, run_cell-in, run_cell-before, run_cell-after, none_is_not_some, some_or}
use Rattle.tcp_streams.specs.declared.segment.Segment.{Segment}
use Rattle.tcp_streams.specs.Numbers.{first_number, ahead, position_ahead, place, skipped, taken_bytes, window}
use Rattle.tcp_streams.specs.Gaps.{free_from, first_free, next_from, gaps_on, gaps, gaps_behind, start_past, end_past, left_behind, AreBetween}
use Rattle.tcp_streams.specs.Labels.{ack_in, number_in, number_of_side, told}
use Rattle.tcp_streams.specs.LetGo.{AllBegin, AreHeldIn, IsKeptOf}
use Rattle.tcp_streams.specs.Ways.{WayState, end_of, stretches, lost_in, start_for, front_for, origin_for, held_with, held_after, acked_by, own_step, other_step, way_step, IsWay}
use Rattle.tcp_streams.proofs.Places.{length-bytes_at, next_is, place_past, place_put}
use Rattle.tcp_streams.proofs.PartLemmas.{held_append, step_held}
use Rattle.tcp_streams.proofs.WayLemmas.{lost_between, place_low, taken_short}

-- maps that hold the same from a position on
abbrev pub AreSameFrom : ℕ → Held → Held → Type 0
AreSameFrom from h g = (q : ℕ) → from ≤ q → get h q ≡ get g q

free_same_from : (n : ℕ) (h g : Held) (from : ℕ) → AreSameFrom from h g → free_from n h from ≡ free_from n g from
free_same_from zero h g from same = refl
free_same_from (suc n) h g from same =
    ap (λ (o : Option Cell). cond (is_some o) (free_from n h (from + 1)) from) (same from (omega arith))
    ∙ ap (λ (p : ℕ). cond (is_some (get g from)) p from) (free_same_from n h g (from + 1) (λ q low. same q (omega (arith, low))))

free_low : (n : ℕ) (h : Held) (from : ℕ) → from ≤ free_from n h from
free_low zero h from = omega arith
free_low (suc n) h from = elim (cases_Bool (is_some (get h from))) [
  | inl there ↦ rw there (let later = free_low n h (from + 1) in omega (arith, later))
  | inr none ↦ rw none (omega arith)
]

next_same_from : (n : ℕ) (h g : Held) (from : ℕ) → AreSameFrom from h g → next_from n h from ≡ next_from n g from
next_same_from zero h g from same = refl
next_same_from (suc n) h g from same =
    ap (λ (o : Option Cell). cond (is_some o) (Some from) (next_from n h (from + 1))) (same from (omega arith))
    ∙ ap (λ (o : Option ℕ). cond (is_some (get g from)) (Some from) o) (next_same_from n h g (from + 1) (λ q low. same q (omega (arith, low))))

pub gaps_same_from : (n : ℕ) (h g : Held) (acked front : ℕ) → AreSameFrom front h g → gaps n h acked front ≡ gaps n g acked front
gaps_same_from zero h g acked front same = refl
gaps_same_from (suc n) h g acked front same =
    ap (gaps_on (gaps n h acked) h front) (next_same_from (acked - front) h g (front + 1) (λ q low. same q (omega (arith, low))))
    ∙ elim (next_from (acked - front) g (front + 1)) as (λ (o : Option ℕ). next_from (acked - front) g (front + 1) ≡ o → gaps_on (gaps n h acked) h front o ≡ gaps_on (gaps n g acked) g front o) [
      | None ↦ λ e. refl
      | Some next ↦ λ e.
          let first = (next_is (acked - front) g (front + 1) next e).first in
          let order : front + 1 ≤ next = first.order in
          let free : first_free h next ≡ first_free g next = free_same_from window h g next (λ q low. same q (omega (arith, low, order))) in
          let past : next ≤ first_free g next = free_low window g next in
          ap (λ (p : ℕ). record { from = front; to = next } ∷ gaps n h acked p) free
          ∙ ap (λ (gs : List Lost). record { from = front; to = next } ∷ gs)
          (gaps_same_from n h g acked (first_free g next) (λ q low. same q (omega (arith, low, past, order))))
    ] refl

pub end_same_from : (h g : Held) (end low : ℕ) (gs : List Lost) (high : ℕ) → AreBetween low gs high → AreSameFrom low h g → end_past h end gs ≡ end_past g end gs
end_same_from h g end low [] high between same = refl
end_same_from h g end low (gap ∷ gs) high between same =
    let later : AreSameFrom gap.to h g = λ q past. same q (omega (arith, past, between.0, between.1.0)) in
    ap (λ (p : ℕ). end_past h p gs) (free_same_from window h g gap.to later)
    ∙ end_same_from h g (first_free g gap.to) gap.to gs high between.1.1 later

pub bytes_same_from : (h g : Held) (from n : ℕ) → AreSameFrom from h g → bytes_at h from n ≡ bytes_at g from n
bytes_same_from h g from zero same = refl
bytes_same_from h g from (suc n) same =
    ap (λ (o : Option Cell). byte_of o ∷ bytes_at h (from + 1) n) (same from (omega arith))
    ∙ ap (λ (bs : List ℕ). byte_of (get g from) ∷ bs) (bytes_same_from h g (from + 1) n (λ q low. same q (omega (arith, low))))

-- the stretches before gaps, but the first
pub left_same_from : (h g : Held) (start low : ℕ) (gs : List Lost) (high : ℕ) → AreBetween low gs high → AreSameFrom start h g → AreSameFrom low h g
    → left_behind h start gs ≡ left_behind g start gs
left_same_from h g start low [] high between same later = refl
left_same_from h g start low (gap ∷ gs) high between same later =
    let past : AreSameFrom gap.to h g = λ q far. later q (omega (arith, far, between.0, between.1.0)) in
    ap (λ (bs : List ℕ). record { start = start; bytes = bs } ∷ left_behind h gap.to gs) (bytes_same_from h g start (gap.from - start) same)
    ∙ ap (λ (ss : List Stretch). record { start = start; bytes = bytes_at g start (gap.from - start) } ∷ ss) (left_same_from h g gap.to gap.to gs high between.1.1 past past)

pub begin_left : (from : ℕ) (h : Held) (start low : ℕ) (gs : List Lost) (high : ℕ) → AreBetween low gs high → from ≤ start → from ≤ low → AllBegin from (left_behind h start gs)
begin_left from h start low [] high between order later = tt
begin_left from h start low (gap ∷ gs) high between order later =
    let past : from ≤ gap.to = omega (arith, later, between.0, between.1.0) in
    (order, begin_left from h gap.to gap.to gs high between.1.1 past past)

pub begin_append : (from : ℕ) (xs ys : List Stretch) → AllBegin from xs → AllBegin from ys → AllBegin from (xs ++ ys)
begin_append from [] ys before after = after
begin_append from (x ∷ xs) ys before after = (before.0, begin_append from xs ys before.1 after)

pub begin_init : (from : ℕ) (xs ys : List Stretch) → AllBegin from (xs ++ ys) → AllBegin from xs
begin_init from [] ys all = tt
begin_init from (x ∷ xs) ys all = (all.0, begin_init from xs ys all.1)

pub begin_last : (from : ℕ) (xs : List Stretch) (y : Stretch) → AllBegin from (xs ++ y ∷ []) → from ≤ y.start
begin_last from [] y all = all.0
begin_last from (x ∷ xs) y all = begin_last from xs y all.1

-- ---- bytes that are put in

pub drop-bytes_at : (h : Held) (k from n : ℕ) → drop k (bytes_at h from n) ≡ bytes_at h (from + k) (n - k)
drop-bytes_at h zero from n = let none : from + 0 ≡ from = omega arith in let all : n - 0 ≡ n = omega arith in ap (λ (p : ℕ). bytes_at h p n) (sym none) ∙ ap (bytes_at h (from + 0)) (sym all)
drop-bytes_at h (suc k) from zero = let none : 0 - suc k ≡ 0 = omega arith in ap (bytes_at h (from + suc k)) (sym none)
drop-bytes_at h (suc k) from (suc n) =
    let next : (from + 1) + k ≡ from + suc k = omega arith in
    let rest : suc n - suc k ≡ n - k = omega arith in
    drop-bytes_at h k (from + 1) n ∙ ap (λ (p : ℕ). bytes_at h p (n - k)) next ∙ ap (bytes_at h (from + suc k)) (sym rest)

-- what a run brings that begins behind a front end, by any start
record IsBehind (start front back : ℕ) (payload : List ℕ) (at skip : ℕ) (bytes : List ℕ) : Type 0 where
  at_is : at ≡ max start (front - back)
  skip_is : skip ≡ (start + back) - front
  bytes_is : bytes ≡ take (front + window - at) (drop skip payload)

behind_size : (start front back : ℕ) (payload : List ℕ) (at skip : ℕ) (bytes : List ℕ) → IsBehind start front back payload at skip bytes → start ≤ front
    → (at ≤ front) × (at + back ≡ front + skip) × (at + length bytes ≤ front + window) × (at + length bytes ≤ at + (length payload - skip))
    × ((q : ℕ) → q < front + window → q + skip < at + length payload → q < at + length bytes)
behind_size start front back payload at skip bytes is order =
    let size : length bytes ≡ length (take (front + window - at) (drop skip payload)) = ap length is.bytes_is in
    let cut = length-take (front + window - at) (drop skip payload) in
    let rest = length-drop skip payload in
    let low : at ≤ front = omega (arith, is.at_is, order) in (
      low,
      omega (arith, is.at_is, is.skip_is, order),
      omega (arith, size, cut, low),
      omega (arith, size, cut, rest),
      λ q near within. omega (arith, size, cut, rest, near, within, low),
    )

behind_cell : (start front back : ℕ) (payload : List ℕ) (at skip : ℕ) (bytes : List ℕ) (q : ℕ) → IsBehind start front back payload at skip bytes → start ≤ front → front ≤ q → q < at + length bytes
    → slice_index bytes (q - at) ≡ slice_index payload (q + back - front)
behind_cell start front back payload at skip bytes q is order past inside =
    let sizes = behind_size start front back payload at skip bytes is order in
    let low : at ≤ front = sizes.0 in
    let within : q - at < front + window - at = omega (arith, inside, sizes.2, low, past) in
    let where_is : skip + (q - at) ≡ q + back - front = omega (arith, sizes.1, low, past) in
    ap (λ (bs : List ℕ). slice_index bs (q - at)) is.bytes_is
    ∙ get_or-take (front + window - at) (drop skip payload) (q - at) 0 within
    ∙ get_or-drop skip payload (q - at) 0 ∙ ap (slice_index payload) where_is

behind_same : (start other front back : ℕ) (payload : List ℕ) (at skip : ℕ) (bytes : List ℕ) (at_other skip_other : ℕ) (bytes_other : List ℕ) (frame q : ℕ)
    → IsBehind start front back payload at skip bytes → IsBehind other front back payload at_other skip_other bytes_other
    → start ≤ front → other ≤ front → front ≤ q → run_cell at bytes frame q ≡ run_cell at_other bytes_other frame q
behind_same start other front back payload at skip bytes at_other skip_other bytes_other frame q is is_other order order_other past =
    let sizes = behind_size start front back payload at skip bytes is order in
    let others = behind_size other front back payload at_other skip_other bytes_other is_other order_other in
    elim (cases_lt q (at + length bytes)) [
      | inl inside ↦
          let there : q < at_other + length bytes_other = others.4 q (omega (arith, inside, sizes.2)) (omega (arith, inside, sizes.1, others.1, sizes.3)) in
          run_cell-in at bytes frame q (omega (arith, sizes.0, past)) inside
          ∙ ap (λ (b : ℕ). Some (b, frame)) (behind_cell start front back payload at skip bytes q is order past inside
          ∙ sym (behind_cell other front back payload at_other skip_other bytes_other q is_other order_other past there))
          ∙ sym (run_cell-in at_other bytes_other frame q (omega (arith, others.0, past)) there)
      | inr outside ↦ elim (cases_lt q (at_other + length bytes_other)) [
        | inl inside ↦ absurd (let there : q < at + length bytes = sizes.4 q (omega (arith, inside, others.2)) (omega (arith, inside, sizes.1, others.1, others.3)) in omega (arith, there, outside))
        | inr past_other ↦ run_cell-after at bytes frame q outside ∙ sym (run_cell-after at_other bytes_other frame q past_other)
      ]
    ]

is_behind : (start front u : ℕ) (payload : List ℕ) → 2 ^ 31 ≤ u → IsBehind start front (2 ^ 32 - u) payload (place start front u) (skipped start front u) (taken_bytes start front u payload)
is_behind start front u payload far = record {
  at_is = cond-false _ _ _ (le-ltb u (2 ^ 31) far);
  skip_is = cond-false _ _ _ (le-ltb u (2 ^ 31) far);
  bytes_is = refl;
}

put_cell : (start other front u : ℕ) (payload : List ℕ) (frame q : ℕ) → start ≤ front → other ≤ front → front ≤ q
    → run_cell (place start front u) (taken_bytes start front u payload) frame q ≡ run_cell (place other front u) (taken_bytes other front u payload) frame q
put_cell start other front u payload frame q order order_other past = elim (cases_lt u (2 ^ 31)) [
  | inl near ↦ rw (lt-ltb u (2 ^ 31) near) refl
  | inr far ↦ behind_same start other front (2 ^ 32 - u) payload _ _ _ _ _ _ frame q (is_behind start front u payload far) (is_behind other front u payload far) order order_other past
]

-- bytes put in from an earlier start and a later one on: the same is held
pub put_same_from : (h g : Held) (from start other front u : ℕ) (s : Segment) → AreSameFrom from h g → other ≤ start → start ≤ front → HoldsAll g other front
    → AreSameFrom from (held_with h start front u s) (held_with g other front u s)
put_same_from h g from start other front u s same later order run q low =
    get-put_run h (place start front u) (taken_bytes start front u s.payload) s.frame q
    ∙ ap (λ (o : Option Cell). option_or o (run_cell (place start front u) (taken_bytes start front u s.payload) s.frame q)) (same q low)
    ∙ elim (cases_lt q front) [
      | inr past ↦ ap (option_or (get g q)) (put_cell start other front u s.payload s.frame q order (omega (arith, later, order)) past)
      | inl before ↦ elim (cases_lt q other) [
        | inl early ↦ ap (option_or (get g q))
            (run_cell-before (place start front u) (taken_bytes start front u s.payload) s.frame q (let far = place_low start front u order in omega (arith, far, early, later))
            ∙ sym (run_cell-before (place other front u) (taken_bytes other front u s.payload) s.frame q (let far = place_low other front u (omega (arith, later, order)) in omega (arith, far, early))))
        | inr there ↦ some_or (get g q) _ (run q there before) ∙ sym (some_or (get g q) _ (run q there before))
      ]
    ]
    ∙ sym (get-put_run g (place other front u) (taken_bytes other front u s.payload) s.frame q)

-- ---- a segment more

pub kept_from : (w v : WayState) (kept : IsKeptOf w v) → kept.from ≤ v.start
kept_from w v kept = begin_last kept.from v.earlier (record { start = v.start; bytes = v.front }) kept.begin

pub held_later : (w v : WayState) → IsWay v → (kept : IsKeptOf w v) → AreSameFrom (end_of w) v.held w.held
held_later w v way kept = λ q low.
    let begins = kept_from w v kept in
    let order : v.start ≤ end_of v = way.place.order in
    kept.held q (omega (arith, low, begins, order, kept.end))

pub lost_same : (w v : WayState) → IsWay v → IsKeptOf w v → lost_in v ≡ lost_in w
lost_same w v way kept =
    ap (λ (n : ℕ). gaps_behind v.held n (end_of v)) kept.acked
    ∙ ap (gaps_behind v.held w.acked) kept.end
    ∙ gaps_same_from (w.acked - end_of w) v.held w.held w.acked (end_of w) (held_later w v way kept)

pub front_same : (w v : WayState) → IsWay w → IsWay v → IsKeptOf w v → front_for v ≡ front_for w
front_same w v way_w way kept =
    ap (end_past v.held (end_of v)) (lost_same w v way kept)
    ∙ ap (λ (n : ℕ). end_past v.held n (lost_in w)) kept.end
    ∙ end_same_from v.held w.held (end_of w) (end_of w) (lost_in w) (end_of w + window) (lost_between w way_w) (held_later w v way kept)

start_later : (a b : ℕ) (gs : List Lost) → a ≤ b → start_past a gs ≤ start_past b gs
start_later a b [] low = low
start_later a b (gap ∷ gs) low = omega arith

pub start_same : (w v : WayState) → IsWay v → IsKeptOf w v → start_for w ≤ start_for v
start_same w v way kept = subst (λ (gs : List Lost). start_for w ≤ start_past v.start gs) (sym (lost_same w v way kept)) (start_later w.start v.start (lost_in w) kept.low)

pub origin_same : (w v : WayState) (s : Segment) → IsKeptOf w v → origin_for v s ≡ origin_for w s
origin_same w v s kept = ap (λ (o : Option ℕ). unwrap_or o (first_number s)) kept.origin

pub held_same : (w v : WayState) (s : Segment) → IsWay w → IsWay v → (kept : IsKeptOf w v) → AreSameFrom kept.from (held_after v s) (held_after w s)
held_same w v s way_w way kept =
    let fronts = front_same w v way_w way kept in
    let past = place_past (w.acked - end_of w) w.held w.acked w.start (end_of w) way_w.place in
    let past_v = place_past (v.acked - end_of v) v.held v.acked v.start (end_of v) way.place in
    let u_same : ahead (origin_for v s) (front_for v) (first_number s) ≡ ahead (origin_for w s) (front_for w) (first_number s) =
    ap (λ (o : ℕ). ahead o (front_for v) (first_number s)) (origin_same w v s kept) ∙ ap (λ (f : ℕ). ahead (origin_for w s) f (first_number s)) fronts in
    let u = ahead (origin_for w s) (front_for w) (first_number s) in
    let order : start_for v ≤ front_for w = subst (λ (f : ℕ). start_for v ≤ f) fronts past_v.order in
    let moved : held_after v s ≡ held_with v.held (start_for v) (front_for w) u s =
    ap (λ (f : ℕ). held_with v.held (start_for v) f (ahead (origin_for v s) (front_for v) (first_number s)) s) fronts
    ∙ ap (λ (n : ℕ). held_with v.held (start_for v) (front_for w) n s) u_same in
    λ q low. ap (λ (h : Held). get h q) moved
    ∙ put_same_from v.held w.held kept.from (start_for v) (start_for w) (front_for w) u s kept.held (start_same w v way kept) order past.run q low

-- where a step's last stretch ends
step_end : (w : WayState) (s : Segment) → IsWay w → end_of (own_step w s) ≡ first_free (held_after w s) (front_for w)
unfolding own_step
step_end w s way =
    let gaps_past = place_past (w.acked - end_of w) w.held w.acked w.start (end_of w) way.place in
    let u = ahead (origin_for w s) (front_for w) (first_number s) in
    let after = place_put w.held (start_for w) (front_for w) (place (start_for w) (front_for w) u) (taken_bytes (start_for w) (front_for w) u s.payload) s.frame gaps_past
    (taken_short (start_for w) (front_for w) u s.payload) in
    let order : start_for w ≤ first_free (held_after w s) (front_for w) = after.order in
    omega (arith, length-bytes_at (held_after w s) (start_for w) (first_free (held_after w s) (front_for w) - start_for w), order)

-- a last stretch begins no earlier once gaps are passed
past_low : (start to : ℕ) (gs : List Lost) (high : ℕ) → AreBetween to gs high → start ≤ to → start ≤ start_past to gs
past_low start to [] high between low = low
past_low start to (gap ∷ gs) high between low = past_low start gap.to gs high between.1.1 (omega (arith, low, between.0, between.1.0))

past_begin : (start end : ℕ) (gs : List Lost) (high : ℕ) → AreBetween end gs high → start ≤ end → start ≤ start_past start gs
past_begin start end [] high between order = omega arith
past_begin start end (gap ∷ gs) high between order = past_low start gap.to gs high between.1.1 (omega (arith, order, between.0, between.1.0))

pub start_on : (v : WayState) → IsWay v → v.start ≤ start_for v
start_on v way = past_begin v.start (end_of v) (lost_in v) (end_of v + window) (lost_between v way) way.place.order

pub free_same_after : (w v : WayState) (s : Segment) → IsWay w → IsWay v → IsKeptOf w v → first_free (held_after v s) (front_for v) ≡ first_free (held_after w s) (front_for w)
free_same_after w v s way_w way kept =
    let begins = kept_from w v kept in
    let past_v = place_past (v.acked - end_of v) v.held v.acked v.start (end_of v) way.place in
    let order : v.start ≤ start_for v = start_on v way in
    let fronts = front_same w v way_w way kept in
    ap (first_free (held_after v s)) fronts
    ∙ free_same_from window (held_after v s) (held_after w s) (front_for w) (λ q low. held_same w v s way_w way kept q (omega (arith, low, fronts, begins, order, past_v.order)))

-- the bytes in order
front_after : (w v : WayState) (s : Segment) → IsWay w → IsWay v → IsKeptOf w v
    → bytes_at (held_after v s) (start_for v) (first_free (held_after v s) (front_for v) - start_for v)
    ≡ drop (start_for v - start_for w) (bytes_at (held_after w s) (start_for w) (first_free (held_after w s) (front_for w) - start_for w))
front_after w v s way_w way kept =
    let last = first_free (held_after w s) (front_for w) in
    let early : start_for w ≤ start_for v = start_same w v way kept in
    let begins : start_for w + (start_for v - start_for w) ≡ start_for v = omega (arith, early) in
    let count : (last - start_for w) - (start_for v - start_for w) ≡ last - start_for v = omega (arith, early) in
    let from : kept.from ≤ v.start = kept_from w v kept in
    let later : v.start ≤ start_for v = start_on v way in
    ap (λ (n : ℕ). bytes_at (held_after v s) (start_for v) (n - start_for v)) (free_same_after w v s way_w way kept)
    ∙ bytes_same_from (held_after v s) (held_after w s) (start_for v) (last - start_for v) (λ q low. held_same w v s way_w way kept q (omega (arith, low, from, later)))
    ∙ ap (bytes_at (held_after w s) (start_for v)) (sym count)
    ∙ ap (λ (p : ℕ). bytes_at (held_after w s) p ((last - start_for w) - (start_for v - start_for w))) (sym begins)
    ∙ sym (drop-bytes_at (held_after w s) (start_for v - start_for w) (start_for w) (last - start_for w))

pub own_begin : (from : ℕ) (v : WayState) (s : Segment) → IsWay v → AllBegin from (stretches v) → AllBegin from (stretches (own_step v s))
unfolding own_step
own_begin from v s way begin =
    let first : from ≤ v.start = begin_last from v.earlier (record { start = v.start; bytes = v.front }) begin in
    let order : v.start ≤ end_of v = way.place.order in
    let later : v.start ≤ start_for v = start_on v way in
    begin_append from (v.earlier ++ left_behind v.held v.start (lost_in v)) _
    (begin_append from v.earlier (left_behind v.held v.start (lost_in v)) (begin_init from v.earlier _ begin)
    (begin_left from v.held v.start (end_of v) (lost_in v) (end_of v + window) (lost_between v way) first (omega (arith, first, order))))
    (omega (arith, first, later), tt)

own_origin : (w v : WayState) (s : Segment) → IsKeptOf w v → (own_step v s).origin ≡ (own_step w s).origin
unfolding own_step
own_origin w v s kept = ap Some (origin_same w v s kept)

own_acked : (w v : WayState) (s : Segment) → IsKeptOf w v → (own_step v s).acked ≡ (own_step w s).acked
unfolding own_step
own_acked w v s kept = kept.acked

own_low : (w v : WayState) (s : Segment) → IsWay v → IsKeptOf w v → (own_step w s).start ≤ (own_step v s).start
unfolding own_step
own_low w v s way kept = start_same w v way kept

own_front : (w v : WayState) (s : Segment) → IsWay w → IsWay v → IsKeptOf w v → (own_step v s).front ≡ drop ((own_step v s).start - (own_step w s).start) (own_step w s).front
unfolding own_step
own_front w v s way_w way kept = front_after w v s way_w way kept

own_held : (w v : WayState) (s : Segment) → IsWay w → IsWay v → (kept : IsKeptOf w v) → (q : ℕ) → kept.from ≤ q → get (own_step v s).held q ≡ get (own_step w s).held q
unfolding own_step
own_held w v s way_w way kept = held_same w v s way_w way kept

own_none : (w v : WayState) (s : Segment) → IsWay v → (kept : IsKeptOf w v) → (q : ℕ) → q < kept.from → get (own_step v s).held q ≡ None
unfolding own_step
own_none w v s way kept q less =
    let past_v = place_past (v.acked - end_of v) v.held v.acked v.start (end_of v) way.place in
    let u = ahead (origin_for v s) (front_for v) (first_number s) in
    let far = place_low (start_for v) (front_for v) u past_v.order in
    let from = kept_from w v kept in
    get-put_run v.held (place (start_for v) (front_for v) u) (taken_bytes (start_for v) (front_for v) u s.payload) s.frame q
    ∙ rw (kept.none q less) (run_cell-before (place (start_for v) (front_for v) u) (taken_bytes (start_for v) (front_for v) u s.payload) s.frame q (omega (arith, less, far, from, start_on v way)))

pub own_kept : (w v : WayState) (s : Segment) → IsWay w → IsWay v → IsKeptOf w v → IsKeptOf (own_step w s) (own_step v s)
own_kept w v s way_w way kept = record {
  origin = own_origin w v s kept;
  acked = own_acked w v s kept;
  low = own_low w v s way kept;
  end = step_end v s way ∙ free_same_after w v s way_w way kept ∙ sym (step_end w s way_w);
  front = own_front w v s way_w way kept;
  from = kept.from;
  held = own_held w v s way_w way kept;
  none = own_none w v s way kept;
  begin = own_begin kept.from v s way kept.begin;
  parts = step_held true v s way kept.parts;
}

pub other_kept : (w v : WayState) (s : Segment) → IsKeptOf w v → IsKeptOf (other_step w s) (other_step v s)
unfolding other_step
other_kept w v s kept = record {
  origin = kept.origin;
  acked =
      ap (λ (o : Option ℕ). acked_by v o s) kept.origin
      ∙ by w.origin;
  low = kept.low;
  end = kept.end;
  front = kept.front;
  from = kept.from;
  held = kept.held;
  none = kept.none;
  begin = kept.begin;
  parts = kept.parts;
}
  where
    by : (o : Option ℕ) → acked_by v o s ≡ acked_by w o s
    by None = kept.acked
    by (Some origin) =
        ap (λ (f : ℕ). cond s.acked (max v.acked (place 0 f (ahead origin f s.ack))) v.acked) kept.end
        ∙ ap (λ (a : ℕ). cond s.acked (max a (place 0 (end_of w) (ahead origin (end_of w) s.ack))) a) kept.acked

pub step_kept : (own : Bool) (w v : WayState) (s : Segment) → IsWay w → IsWay v → IsKeptOf w v → IsKeptOf (way_step own w s) (way_step own v s)
step_kept true w v s way_w way kept = own_kept w v s way_w way kept
step_kept false w v s way_w way kept = other_kept w v s kept

-- a segment is told the same
pub told_kept : (number : ℕ) (side : Bool) (w v other_w other_v : WayState) (s : Segment) → IsWay w → IsWay v → IsKeptOf w v → IsKeptOf other_w other_v
    → told number side v other_v s ≡ told number side w other_w s
unfolding told
told_kept number side w v other_w other_v s way_w way kept other =
    let origins = origin_same w v s kept in
    let fronts = front_same w v way_w way kept in
    let ends : end_of (own_step v s) ≡ end_of (own_step w s) = step_end v s way ∙ free_same_after w v s way_w way kept ∙ sym (step_end w s way_w) in
    λ i. record {
      stream = number;
      side = number_of_side side;
      seq = number_in (origins i) s.seq;
      ack = ack_in (other.origin i) s;
      position = position_ahead (fronts i) (ahead (origins i) (fronts i) (first_number s));
      front_before = kept.end i;
      front_after = ends i;
      lost = lost_same w v way kept i;
    }

-- ---- all of it

begin_all : (xs : List Stretch) → AllBegin 0 xs
begin_all [] = tt
begin_all (x ∷ xs) = (omega arith, begin_all xs)

pub kept_whole : (w v : WayState) → AreHeldIn w.held w.earlier → v ≡ w → IsKeptOf w v
kept_whole w v parts same = subst (IsKeptOf w) (sym same) (record {
  origin = refl;
  acked = refl;
  low = omega arith;
  end = refl;
  front = let none : w.start - w.start ≡ 0 = omega arith in ap (λ (n : ℕ). drop n w.front) (sym none);
  from = 0;
  held = λ q low. refl;
  none = λ q less. absurd (omega (arith, less));
  begin = begin_all (stretches w);
  parts = parts;
})

-- the parts that are held of what is kept
pub parts_kept : (w v : WayState) → IsWay v → IsKeptOf w v → AreHeldIn v.held (stretches v)
parts_kept w v way kept = held_append v.held v.earlier (record { start = v.start; bytes = v.front } ∷ []) kept.parts (record { run = way.place.run; is = way.bytes }, tt)

-- and what is held of it is held
pub holds_kept : (w v : WayState) (from n : ℕ) → (kept : IsKeptOf w v) → HoldsAll v.held from (from + n) → (n ≡ 0) ⊎ (kept.from ≤ from)
holds_kept w v from n kept run = elim (cases_lt 0 n) [
  | inr none ↦ inl (omega (arith, none))
  | inl some ↦ elim (cases_lt from kept.from) [
    | inr past ↦ inr past
    | inl early ↦ absurd (none_is_not_some (get v.held from) (run from (omega arith) (omega (arith, some))) (kept.none from early))
  ]
]

frames_same_from : (h g : Held) (from n : ℕ) → AreSameFrom from h g → frames_at h from n ≡ frames_at g from n
frames_same_from h g from zero same = refl
frames_same_from h g from (suc n) same =
    ap (λ (o : Option Cell). put_number (frame_of o) (frames_at h (from + 1) n)) (same from (omega arith))
    ∙ ap (put_number (frame_of (get g from))) (frames_same_from h g (from + 1) n (λ q low. same q (omega (arith, low))))

pub bytes_kept : (w v : WayState) (from n : ℕ) → IsKeptOf w v → HoldsAll v.held from (from + n) → bytes_at v.held from n ≡ bytes_at w.held from n
bytes_kept w v from n kept run = elim (holds_kept w v from n kept run) [
  | inl none ↦ ap (bytes_at v.held from) none ∙ sym (ap (bytes_at w.held from) none)
  | inr past ↦ bytes_same_from v.held w.held from n (λ q low. kept.held q (omega (arith, low, past)))
]

pub frames_kept : (w v : WayState) (from n : ℕ) → IsKeptOf w v → HoldsAll v.held from (from + n) → frames_at v.held from n ≡ frames_at w.held from n
frames_kept w v from n kept run = elim (holds_kept w v from n kept run) [
  | inl none ↦ ap (frames_at v.held from) none ∙ sym (ap (frames_at w.held from) none)
  | inr past ↦ frames_same_from v.held w.held from n (λ q low. kept.held q (omega (arith, low, past)))
]

pub frames_kept_at : (w v : WayState) (from to : ℕ) → IsKeptOf w v → HoldsAll v.held from to → frames_at v.held from (to - from) ≡ frames_at w.held from (to - from)
frames_kept_at w v from to kept run = frames_kept w v from (to - from) kept (λ q a b. run q a (omega (arith, a, b)))
