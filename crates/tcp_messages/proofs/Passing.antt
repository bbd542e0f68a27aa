-- The messages that a segment brings to its direction, and the cursor behind them.
use Rattle.std.proofs.Common.{◌≡◌, ℕ, zero, suc, ◌+◌, ◌-◌, ◌^◌, ◌<◌, ◌≤◌, Bool, true, List, [], ◌∷◌, ◌++◌, length, drop, slice_get, Some, Result, Ok, Err, IfOk, refl, sym, ap, subst, ◌∙◌, arith, append_assoc, append-nil, length-append}
use Rattle.std.specs.Prelude.{All}
use Rattle.std.proofs.lemmas.List.Elements.{All-cons, All-nil, All-drop, All-weaker}
use Rattle.pk_base.specs.declared.lost.Lost.{Lost}
use Rattle.pk_base.specs.declared.stretch.Stretch.{Stretch}
use Rattle.range_bytes.specs.Held.{Held, bytes_at}
use Rattle.tcp_streams.specs.declared.segment.Segment.{Segment}
use Rattle.tcp_streams.specs.Gaps.{first_free, start_past, left_behind, AreBetween}
use Rattle.tcp_streams.specs.LetGo.{IsKeptOf}
use Rattle.tcp_streams.specs.Numbers.{window}
use Rattle.tcp_streams.specs.Ways.{WayState, stretches, end_of, lost_in, start_for, front_for, held_after, own_step, IsWay, AreApart}
use Rattle.tcp_streams.proofs.Places.{length-bytes_at, apart_past}
use Rattle.tcp_streams.proofs.KeptLemmas.{AreSameFrom, held_later, left_same_from, lost_same, own_kept}
use Rattle.tcp_streams.proofs.WayLemmas.{lost_between, step_room}
use Rattle.stream_messages.specs.declared.framer.Framer.{Framer}
use Rattle.stream_messages.specs.declared.placed.Placed.{Placed}
use Rattle.stream_messages.specs.declared.cursor.Cursor.{Cursor}
use Rattle.stream_messages.specs.declared.cutting.Shown.{Shown}
use Rattle.stream_messages.specs.Moved.{bytes_from, IsBehindFrom, IsCutOn}
use Rattle.stream_messages.specs.Messages.{AgreeBelow, Asked, AllBefore, AllFrom, above, answered, of_front, of_stretches}
use Rattle.stream_messages.specs.Cursors.{AddsFew, AsksBetween, AsksFrom, CountsFor, IsBehind, IsQuiet, IsSound, IsWhole, IsWholeInOne, answers_before, bytes_in, with_last}
use Rattle.stream_messages.proofs.PassingLemmas.{whole_in}
use Rattle.tcp_streams.proofs.PartLemmas.{last_there}
use Rattle.stream_messages.proofs.StretchLemmas.{laws_of_new, of_stretches-append, answered-append}
use Rattle.tcp_messages.specs.Readers.{CutsWay, CutsWayFrom, IsBehindWayFrom, IsRight}
use Rattle.tcp_messages.specs.Reading.{CutsFrom}
use Rattle.tcp_messages.proofs.Bridging.{behind_from}
use Rattle.tcp_messages.proofs.Growing.{BeginAt, all_from, apart_order, begins_at, grows_on}

pub ok_both : {T E : Type 0} (r : Result T E) (P Q : T → Type 0) → IfOk r P → IfOk r Q → IfOk r (λ x. P x × Q x)
ok_both (Ok x) P Q p q = (p, q)
ok_both (Err e) P Q p q = tt

-- ---- stretches before a place

pub all_before : (end low : ℕ) (xs : List Stretch) (next : ℕ) → next ≤ end → AreApart low xs next → AllBefore end xs
all_before end low [] next within apart = tt
all_before end low (x ∷ xs) next within apart =
    let order = apart_order (x.start + length x.bytes + 1) xs next apart.1 in
    (omega (arith, order, within), all_before end (x.start + length x.bytes + 1) xs next within apart.1)

before_push : (end : ℕ) (xs : List Stretch) (x : Stretch) → AllBefore end xs → x.start + length x.bytes ≤ end → AllBefore end (xs ++ x ∷ [])
before_push end [] x before within = (within, tt)
before_push end (y ∷ xs) x before within = (before.0, before_push end xs x before.1 within)

abbrev IsShort : Stretch → Type 0
IsShort s = s.start + length s.bytes < 2 ^ 64

pub all_short : (low : ℕ) (xs : List Stretch) (next : ℕ) → next < 2 ^ 58 → AreApart low xs next → All (λ (s : Stretch). s.start + length s.bytes < 2 ^ 64) xs
all_short low [] next few apart = All-nil IsShort
all_short low (x ∷ xs) next few apart =
    let order = apart_order (x.start + length x.bytes + 1) xs next apart.1 in
    All-cons IsShort x xs (omega (arith, order, few)) (all_short (x.start + length x.bytes + 1) xs next few apart.1)

pub last_short : (w : WayState) (k : ℕ) → IsWay w → end_of w < 2 ^ 58 → All (λ (s : Stretch). s.start + length s.bytes < 2 ^ 64) (drop k w.earlier)
last_short w k way few = All-drop IsShort k w.earlier (all_short 0 w.earlier w.start (omega (arith, few)) way.apart)

-- ---- the last stretch grows

pub record IsGrown (w v : WayState) : Type 0 where
  pub earlier : v.earlier ≡ w.earlier
  pub start : v.start ≡ w.start
  pub more : List ℕ
  pub front : v.front ≡ w.front ++ more

pub own_grown : (w : WayState) (s : Segment) → IsWay w → lost_in w ≡ [] → IsGrown w (own_step w s)
unfolding own_step
own_grown w s way none =
    let grown = grows_on w s way none in
    record {
      earlier = ap (λ (xs : List Lost). w.earlier ++ left_behind w.held w.start xs) none ∙ append-nil w.earlier;
      start = ap (start_past w.start) none;
      more = grown.0;
      front = grown.1;
    }

-- what is cut of the bytes that are left of a stretch
abbrev pub FromAll : Framer → List Bool → ℕ → Cursor → List ℕ → Shown → Type 0
FromAll framer heads start cursor front shown = (asked later : Asked) (count first : ℕ) (old new : List ℕ) → front ≡ bytes_from first start (old ++ new) → AgreeBelow (first + length old) asked later
    → AsksBetween (first + length old) (first + length (old ++ new)) heads later → IsBehindFrom framer asked count first start cursor old → IsCutOn framer later count first start old (old ++ new) shown

pub cut_grown : (framer : Framer) (heads : List Bool) (asked : Asked) (w u : WayState) (s : Segment) (cursor : Cursor) (shown : Shown) → IsWay w → IsWay u → IsKeptOf w u → lost_in u ≡ []
    → FromAll framer heads (own_step u s).start cursor (own_step u s).front shown → AsksFrom (end_of w) heads asked → IsBehindWayFrom framer asked w u.start cursor
    → CutsWayFrom framer asked (end_of w) (own_step w s) (own_step u s).start shown
cut_grown framer heads asked w u s cursor shown way way_u kept none cuts asks behind =
    let v : WayState = own_step w s in
    let next : WayState = own_step u s in
    let count : ℕ = answered 0 (of_stretches framer asked 0 w.earlier) in
    let grown : IsGrown w v = own_grown w s way (sym (lost_same w u way_u kept) ∙ none) in
    let grown_u : IsGrown u next = own_grown u s way_u none in
    let after : IsKeptOf v next = own_kept w u s way way_u kept in
    let whole : List ℕ = w.front ++ grown.more in
    let last : Stretch = record { start = w.start; bytes = whole } in
    let front_is : next.front ≡ bytes_from w.start u.start whole =
    after.front ∙ ap (λ (n : ℕ). drop (n - v.start) v.front) grown_u.start ∙ ap (λ (n : ℕ). drop (u.start - n) v.front) grown.start ∙ ap (drop (u.start - w.start)) grown.front in
    let cut : IsCutOn framer asked count w.start u.start w.front whole shown =
    subst (λ (n : ℕ). FromAll framer heads n cursor next.front shown) grown_u.start cuts asked asked count w.start w.front grown.more front_is (λ at n below. refl) (λ at n above below. asks at n above) behind in
    let same : w.earlier ++ last ∷ [] ≡ stretches v =
    ap (λ (xs : List Stretch). xs ++ last ∷ []) (sym grown.earlier)
    ∙ ap (λ (n : ℕ). v.earlier ++ record { start = n; bytes = whole } ∷ []) (sym grown.start)
    ∙ ap (λ (bytes : List ℕ). v.earlier ++ record { start = v.start; bytes = bytes } ∷ []) (sym grown.front) in
    record {
      messages =
          cut.messages
          ∙ sym (laws_of_new.grown framer asked 0 (end_of w) w.earlier last (all_before (end_of w) 0 w.earlier w.start (omega arith) way.apart))
          ∙ ap (λ (xs : List Stretch). above (end_of w) (of_stretches framer asked 0 xs)) same;
      cursor = subst (λ (xs : List Stretch). IsBehindFrom framer asked (answered 0 (of_stretches framer asked 0 xs)) v.start next.start shown.cursor v.front) (sym grown.earlier)
          (subst (λ (n : ℕ). IsBehindFrom framer asked count n next.start shown.cursor v.front) (sym grown.start)
          (subst (λ (n : ℕ). IsBehindFrom framer asked count w.start n shown.cursor v.front) (sym grown_u.start)
          (subst (λ (bytes : List ℕ). IsBehindFrom framer asked count w.start u.start shown.cursor bytes) (sym grown.front) cut.cursor)));
    }

-- ---- others begin behind lost bytes

pub record IsNewest (w v : WayState) (passed : List Stretch) : Type 0 where
  pub earlier : v.earlier ≡ w.earlier ++ record { start = w.start; bytes = w.front } ∷ passed
  pub from : AllFrom (end_of w) (with_last passed v.start v.front)
  pub apart : AreApart (end_of w) passed v.start

apart_lower : (lower low : ℕ) (xs : List Stretch) (next : ℕ) → lower ≤ low → AreApart low xs next → AreApart lower xs next
apart_lower lower low [] next less apart = omega (arith, less, apart)
apart_lower lower low (x ∷ xs) next less apart = (omega (arith, less, apart.0), apart.1)

-- as many as gaps
left_length : (held : Held) (start : ℕ) (gaps : List Lost) → length (left_behind held start gaps) ≡ length gaps
left_length held start [] = refl
left_length held start (gap ∷ gaps) = ap suc (left_length held gap.to gaps)

drop_all_of : {X : Type 0} (xs ys : List X) → drop (length xs) (xs ++ ys) ≡ ys
drop_all_of [] ys = refl
drop_all_of (x ∷ xs) ys = drop_all_of xs ys

pub drop_before : {X : Type 0} (xs ys : List X) (n : ℕ) → n ≡ length ys → drop (length (xs ++ ys) - n) (xs ++ ys) ≡ ys
drop_before xs ys n same =
    let size = length-append xs ys in
    let place : length (xs ++ ys) - n ≡ length xs = omega (arith, size, same) in
    ap (λ (k : ℕ). drop k (xs ++ ys)) place ∙ drop_all_of xs ys

-- the last stretches of a direction that has passed gaps are those behind them
pub record HasPassed (w v : WayState) (count : ℕ) : Type 0 where
  pub passed : List Stretch
  pub is : IsNewest w v passed
  pub last : drop (length v.earlier - (count - 1)) v.earlier ≡ passed

own_newest : (w : WayState) (s : Segment) (gap : Lost) (gaps : List Lost) → IsWay w → lost_in w ≡ gap ∷ gaps → IsNewest w (own_step w s) (left_behind w.held gap.to gaps)
unfolding own_step
own_newest w s gap gaps way is =
    let begins : gap.from ≡ end_of w = subst (BeginAt (end_of w)) is (begins_at (w.acked - end_of w) w.held w.acked (end_of w)) in
    let size : gap.from - w.start ≡ length w.front = omega (arith, begins) in
    let left : bytes_at w.held w.start (gap.from - w.start) ≡ w.front = ap (bytes_at w.held w.start) size ∙ sym way.bytes in
    let far : length (bytes_at w.held w.start (gap.from - w.start)) ≡ gap.from - w.start = length-bytes_at w.held w.start (gap.from - w.start) in
    let last : Stretch = record { start = start_for w; bytes = bytes_at (held_after w s) (start_for w) (first_free (held_after w s) (front_for w) - start_for w) } in
    let apart : AreApart w.start (left_behind w.held w.start (gap ∷ gaps)) (start_past w.start (gap ∷ gaps)) =
    subst (λ (xs : List Lost). AreApart w.start (left_behind w.held w.start xs) (start_past w.start xs)) is
    (apart_past (w.acked - end_of w) w.held w.acked w.start (end_of w) w.start way.place (omega arith)) in
    let start : start_for w ≡ start_past gap.to gaps = ap (start_past w.start) is in
    record {
      earlier =
          ap (λ (xs : List Lost). w.earlier ++ left_behind w.held w.start xs) is
          ∙ ap (λ (b : List ℕ). w.earlier ++ record { start = w.start; bytes = b } ∷ left_behind w.held gap.to gaps) left;
      from = all_from (end_of w) (w.start + length (bytes_at w.held w.start (gap.from - w.start)) + 1) (left_behind w.held gap.to gaps) last (omega (arith, far, size))
          (subst (AreApart (w.start + length (bytes_at w.held w.start (gap.from - w.start)) + 1) (left_behind w.held gap.to gaps)) (sym start) apart.1);
      apart = apart_lower (end_of w) (w.start + length (bytes_at w.held w.start (gap.from - w.start)) + 1) (left_behind w.held gap.to gaps) (start_for w) (omega (arith, far, size))
          (subst (AreApart (w.start + length (bytes_at w.held w.start (gap.from - w.start)) + 1) (left_behind w.held gap.to gaps)) (sym start) apart.1);
    }

own_last : (w : WayState) (s : Segment) (gap : Lost) (gaps : List Lost) → IsWay w → lost_in w ≡ gap ∷ gaps
    → drop (length (own_step w s).earlier - (length (gap ∷ gaps) - 1)) (own_step w s).earlier ≡ left_behind w.held gap.to gaps
own_last w s gap gaps way is =
    let passed : List Stretch = left_behind w.held gap.to gaps in
    let old : Stretch = record { start = w.start; bytes = w.front } in
    let newest : IsNewest w (own_step w s) passed = own_newest w s gap gaps way is in
    let split : (own_step w s).earlier ≡ (w.earlier ++ old ∷ []) ++ passed = newest.earlier ∙ sym (append_assoc w.earlier (old ∷ []) passed) in
    let one : length (gap ∷ gaps) - 1 ≡ length gaps = omega arith in
    let many : length gaps ≡ length passed = sym (left_length w.held gap.to gaps) in
    ap (λ (k : ℕ). drop (length (own_step w s).earlier - k) (own_step w s).earlier) one
    ∙ ap (λ (xs : List Stretch). drop (length xs - length gaps) xs) split
    ∙ drop_before (w.earlier ++ old ∷ []) passed (length gaps) many

pub own_passed : (w : WayState) (s : Segment) (gap : Lost) (gaps : List Lost) → IsWay w → lost_in w ≡ gap ∷ gaps → HasPassed w (own_step w s) (length (gap ∷ gaps))
own_passed w s gap gaps way is = record {
  passed = left_behind w.held gap.to gaps;
  is = own_newest w s gap gaps way is;
  last = own_last w s gap gaps way is;
}

-- the answers before the last stretch, and in it
counts_all : (framer : Framer) (asked : Asked) (w : WayState) (start : ℕ) (cursor : Cursor) → IsBehindWayFrom framer asked w start cursor → CountsFor (answers_before cursor) (answered 0 (of_stretches framer asked 0 (stretches w)))
counts_all framer asked w start cursor behind =
    let old : Stretch = record { start = w.start; bytes = w.front } in
    let count : ℕ = answered 0 (of_stretches framer asked 0 w.earlier) in
    let is : answered 0 (of_stretches framer asked 0 (stretches w)) ≡ answered count (of_front framer asked count w.start w.front) =
    ap (answered 0) (of_stretches-append framer asked 0 w.earlier (old ∷ []))
    ∙ answered-append 0 (of_stretches framer asked 0 w.earlier) (of_stretches framer asked count (old ∷ []))
    ∙ ap (answered count) (append-nil (of_front framer asked count w.start w.front)) in
    subst (CountsFor (answers_before cursor)) (sym is) behind.counts

abbrev pub CutsNewest : Framer → List Bool → List Stretch → ℕ → List ℕ → Cursor → Shown → Type 0
CutsNewest framer heads passed start front cursor shown =
    (asked : Asked) (number from : ℕ) → CountsFor (answers_before cursor) number → AsksFrom from heads asked → AllFrom from (with_last passed start front)
    → shown.messages ≡ of_stretches framer asked number (with_last passed start front)

abbrev pub BehindNewest : Framer → List Bool → List Stretch → ℕ → List ℕ → Cursor → Shown → Type 0
BehindNewest framer heads passed start front cursor shown =
    (asked : Asked) (number from : ℕ) → CountsFor (answers_before cursor) number → AsksFrom from heads asked → AllFrom from (with_last passed start front)
    → IsBehind framer asked (answered number (of_stretches framer asked number passed)) start shown.cursor front

pub cut_behind : (framer : Framer) (heads : List Bool) (asked : Asked) (w v : WayState) (passed : List Stretch) (cursor : Cursor) (shown : Shown) → IsWay w → IsNewest w v passed
    → CutsNewest framer heads passed v.start v.front cursor shown → BehindNewest framer heads passed v.start v.front cursor shown
    → AsksFrom (end_of w) heads asked → CountsFor (answers_before cursor) (answered 0 (of_stretches framer asked 0 (stretches w))) → CutsWay framer asked (end_of w) v shown
cut_behind framer heads asked w v passed cursor shown way newest messages_are cursor_is asks counts =
    let old : Stretch = record { start = w.start; bytes = w.front } in
    let last : Stretch = record { start = v.start; bytes = v.front } in
    let count : ℕ = answered 0 (of_stretches framer asked 0 (stretches w)) in
    let split : v.earlier ≡ stretches w ++ passed = newest.earlier ∙ sym (append_assoc w.earlier (old ∷ []) passed) in
    let before : AllBefore (end_of w) (stretches w) =
    before_push (end_of w) w.earlier old (all_before (end_of w) 0 w.earlier w.start (omega arith) way.apart) (omega arith) in
    record {
      messages =
          messages_are asked count (end_of w) counts asks newest.from
          ∙ sym (laws_of_new.begun framer asked 0 (end_of w) (stretches w) (with_last passed v.start v.front) before newest.from)
          ∙ ap (λ (xs : List Stretch). above (end_of w) (of_stretches framer asked 0 xs)) (sym (append_assoc (stretches w) passed (last ∷ [])))
          ∙ ap (λ (xs : List Stretch). above (end_of w) (of_stretches framer asked 0 (xs ++ last ∷ []))) (sym split);
      cursor = subst (λ (n : ℕ). IsBehind framer asked n v.start shown.cursor v.front) (sym (
          ap (λ (xs : List Stretch). answered 0 (of_stretches framer asked 0 xs)) split
          ∙ ap (answered 0) (of_stretches-append framer asked 0 (stretches w) passed)
          ∙ answered-append 0 (of_stretches framer asked 0 (stretches w)) (of_stretches framer asked count passed)
          )) (cursor_is asked count (end_of w) counts asks newest.from);
    }

-- ---- by the lent stretches

pub nil_by : {X : Type 0} (xs : List X) → length xs ≡ 0 → xs ≡ []
nil_by [] none = refl
nil_by (x ∷ xs) none = absurd (omega (arith, none))

pub whole_last : (framer : Framer) (v : WayState) (start : ℕ) (front : List ℕ) (ms : List Placed) → start ≡ v.start → front ≡ v.front → All (IsWhole framer start front) ms → All (IsWholeInOne framer (stretches v)) ms
whole_last framer v start front ms starts is whole =
    whole_in framer (stretches v) (length v.earlier) (record { start = v.start; bytes = v.front }) ms (last_there v.earlier (record { start = v.start; bytes = v.front }))
    (subst (λ (b : List ℕ). All (IsWhole framer v.start b) ms) is (subst (λ (n : ℕ). All (IsWhole framer n front) ms) starts whole))

drop_there : (k i j : ℕ) (xs ys : List Stretch) (s : Stretch) → j ≡ k + i → k ≤ length xs → slice_get (drop k xs ++ ys) i ≡ Some s → slice_get (xs ++ ys) j ≡ Some s
drop_there zero i j xs ys s place low = let is : j ≡ i = omega (arith, place) in λ e. ap (slice_get (xs ++ ys)) is ∙ e
drop_there (suc k) i j [] ys s place low = absurd (omega (arith, low))
drop_there (suc k) i zero (x ∷ xs) ys s place low = absurd (omega (arith, place))
drop_there (suc k) i (suc j) (x ∷ xs) ys s place low = λ e. drop_there k i j xs ys s (omega (arith, place)) (omega (arith, low)) e

pub whole_behind : (framer : Framer) (v : WayState) (passed : List Stretch) (n start : ℕ) (front : List ℕ) (ms : List Placed) → passed ≡ drop (length v.earlier - n) v.earlier → start ≡ v.start → front ≡ v.front
    → All (IsWholeInOne framer (with_last passed start front)) ms → All (IsWholeInOne framer (stretches v)) ms
whole_behind framer v passed n start front ms passed_is starts is whole =
    let here : All (IsWholeInOne framer (with_last (drop (length v.earlier - n) v.earlier) v.start v.front)) ms =
    subst (λ (b : List ℕ). All (IsWholeInOne framer (with_last (drop (length v.earlier - n) v.earlier) v.start b)) ms) is
    (subst (λ (k : ℕ). All (IsWholeInOne framer (with_last (drop (length v.earlier - n) v.earlier) k front)) ms) starts
    (subst (λ (xs : List Stretch). All (IsWholeInOne framer (with_last xs start front)) ms) passed_is whole)) in
    All-weaker (IsWholeInOne framer (with_last (drop (length v.earlier - n) v.earlier) v.start v.front)) (IsWholeInOne framer (stretches v))
    (λ m one. (
      (length v.earlier - n) + one.0,
      one.1,
      drop_there (length v.earlier - n) one.0 ((length v.earlier - n) + one.0) v.earlier (record { start = v.start; bytes = v.front } ∷ []) one.1 refl (omega arith) one.2,
      one.3,
    ))
    ms here

pub grown_case : (framer : Framer) (heads : List Bool) (v : WayState) (start : ℕ) (front : List ℕ) (lost : List Lost) (cursor : Cursor) (shown : Shown) → start ≡ v.start → front ≡ v.front
    → length lost ≡ 0 → FromAll framer heads start cursor front shown → CutsFrom framer heads v lost cursor shown
grown_case framer heads v start front lost cursor shown starts is none cuts asked w u s way way_u kept step lost_is asks behind =
    let here : FromAll framer heads v.start cursor v.front shown =
    subst (λ (b : List ℕ). FromAll framer heads v.start cursor b shown) is (subst (λ (n : ℕ). FromAll framer heads n cursor front shown) starts cuts) in
    let own : FromAll framer heads (own_step u s).start cursor (own_step u s).front shown = subst (λ (x : WayState). FromAll framer heads x.start cursor x.front shown) step here in
    subst (λ (x : WayState). CutsWayFrom framer asked (end_of w) (own_step w s) x.start shown) (sym step)
    (cut_grown framer heads asked w u s cursor shown way way_u kept (sym lost_is ∙ nil_by lost none) own asks behind)

record BothNewest (framer : Framer) (heads : List Bool) (passed : List Stretch) (start : ℕ) (front : List ℕ) (cursor : Cursor) (shown : Shown) : Type 0 where
  cuts : CutsNewest framer heads passed start front cursor shown
  behind : BehindNewest framer heads passed start front cursor shown

-- where gaps are passed, the stretches behind them are the same in what is kept
past_start : (w : WayState) (s : Segment) (gap : Lost) (gaps : List Lost) → lost_in w ≡ gap ∷ gaps → (own_step w s).start ≡ start_past gap.to gaps
unfolding own_step
past_start w s gap gaps is = ap (start_past w.start) is

record IsSameBehind (w u : WayState) (s : Segment) (gap : Lost) (gaps : List Lost) : Type 0 where
  passed : left_behind u.held gap.to gaps ≡ left_behind w.held gap.to gaps
  start : (own_step u s).start ≡ (own_step w s).start
  front : (own_step u s).front ≡ (own_step w s).front

same_behind : (w u : WayState) (s : Segment) (gap : Lost) (gaps : List Lost) → IsWay w → IsWay u → IsKeptOf w u → lost_in u ≡ gap ∷ gaps → lost_in w ≡ gap ∷ gaps → IsSameBehind w u s gap gaps
same_behind w u s gap gaps way way_u kept is is_w =
    let between : AreBetween (end_of w) (gap ∷ gaps) (end_of w + window) = subst (λ (gs : List Lost). AreBetween (end_of w) gs (end_of w + window)) is_w (lost_between w way) in
    let later : AreSameFrom gap.to u.held w.held = λ q low. held_later w u way_u kept q (omega (arith, low, between.0, between.1.0)) in
    let start : (own_step u s).start ≡ (own_step w s).start = past_start u s gap gaps is ∙ sym (past_start w s gap gaps is_w) in
    let after : IsKeptOf (own_step w s) (own_step u s) = own_kept w u s way way_u kept in
    let none : (own_step w s).start - (own_step w s).start ≡ 0 = omega arith in
    record {
      passed = left_same_from u.held w.held gap.to gap.to gaps (end_of w + window) between.1.1 later later;
      start = start;
      front = after.front ∙ ap (λ (n : ℕ). drop (n - (own_step w s).start) (own_step w s).front) start ∙ ap (λ (n : ℕ). drop n (own_step w s).front) none;
    }

pub newest_case : (framer : Framer) (heads : List Bool) (v : WayState) (passed : List Stretch) (start : ℕ) (front : List ℕ) (lost : List Lost) (cursor : Cursor) (shown : Shown)
    → passed ≡ drop (length v.earlier - (length lost - 1)) v.earlier → start ≡ v.start → front ≡ v.front → (length lost ≡ 0 → ⊥)
    → CutsNewest framer heads passed start front cursor shown → BehindNewest framer heads passed start front cursor shown → CutsFrom framer heads v lost cursor shown
newest_case framer heads v passed start front [] cursor shown passed_is starts is some cuts behind_is asked w u s way way_u kept step lost_is asks behind = absurd (some refl)
newest_case framer heads v passed start front (gap ∷ gaps) cursor shown passed_is starts is some cuts behind_is asked w u s way way_u kept step lost_is asks behind =
    let next : WayState = own_step w s in
    let lost_w : lost_in w ≡ gap ∷ gaps = sym (lost_same w u way_u kept) ∙ sym lost_is in
    let same = same_behind w u s gap gaps way way_u kept (sym lost_is) lost_w in
    let here : passed ≡ left_behind w.held gap.to gaps =
    passed_is ∙ ap (λ (x : WayState). drop (length x.earlier - (length (gap ∷ gaps) - 1)) x.earlier) step ∙ own_last u s gap gaps way_u (sym lost_is) ∙ same.passed in
    let both : BothNewest framer heads (left_behind w.held gap.to gaps) next.start next.front cursor shown =
    subst (λ (b : List ℕ). BothNewest framer heads (left_behind w.held gap.to gaps) next.start b cursor shown) (is ∙ ap (λ (x : WayState). x.front) step ∙ same.front)
    (subst (λ (n : ℕ). BothNewest framer heads (left_behind w.held gap.to gaps) n front cursor shown) (starts ∙ ap (λ (x : WayState). x.start) step ∙ same.start)
    (subst (λ (xs : List Stretch). BothNewest framer heads xs start front cursor shown) here (record { cuts = cuts; behind = behind_is }))) in
    let cut = cut_behind framer heads asked w next (left_behind w.held gap.to gaps) cursor shown way (own_newest w s gap gaps way lost_w) both.cuts both.behind asks (counts_all framer asked w u.start cursor behind) in
    record {
      messages = cut.messages;
      cursor = subst (λ (n : ℕ). IsBehindWayFrom framer asked next n shown.cursor) (sym (ap (λ (x : WayState). x.start) step ∙ same.start))
          (behind_from framer asked (answered 0 (of_stretches framer asked 0 next.earlier)) next.start shown.cursor next.front cut.cursor);
    }

-- ---- each message has a byte of its own

pub right_by : (framer : Framer) (v : WayState) (front : List ℕ) (c : Cursor) → front ≡ v.front → IsSound framer c front → IsQuiet framer c front → IsRight framer c v.front
right_by framer v front c is sound quiet = subst (IsRight framer c) is (record { sound = sound; quiet = quiet })

pub grown_few : (framer : Framer) (w v : WayState) (s : Segment) (front : List ℕ) (lost : List Lost) (cursor : Cursor) (ms : List Placed) → front ≡ v.front → length lost ≡ 0
    → AddsFew framer cursor front ms → IsWay w → v ≡ own_step w s → lost ≡ lost_in w → IsQuiet framer cursor w.front → length ms ≤ 2 ^ 25
grown_few framer w v s front lost cursor ms is none adds way step lost_is quiet =
    let grown = own_grown w s way (sym lost_is ∙ nil_by lost none) in
    let here : front ≡ w.front ++ grown.more = is ∙ ap (λ (u : WayState). u.front) step ∙ grown.front in
    let few : length ms ≤ length grown.more = adds w.front grown.more here quiet in
    let room : (own_step w s).start + length (own_step w s).front ≤ (w.start + length w.front) + 2 ^ 25 = step_room true w s way in
    let start : (own_step w s).start ≡ w.start = grown.start in
    let size : length (own_step w s).front ≡ length w.front + length grown.more = ap length grown.front ∙ length-append w.front grown.more in
    omega (arith, few, room, start, size)

bytes_apart : (low : ℕ) (xs : List Stretch) (next : ℕ) → AreApart low xs next → low + bytes_in xs ≤ next
bytes_apart low [] next apart = omega (arith, apart)
bytes_apart low (x ∷ xs) next apart = omega (arith, apart.0, bytes_apart (x.start + length x.bytes + 1) xs next apart.1)

pub newest_few : (framer : Framer) (w v : WayState) (s : Segment) (passed : List Stretch) (front : List ℕ) (lost : List Lost) (ms : List Placed)
    → passed ≡ drop (length v.earlier - (length lost - 1)) v.earlier → front ≡ v.front → (length lost ≡ 0 → ⊥) → length ms ≤ bytes_in passed + length front
    → IsWay w → v ≡ own_step w s → lost ≡ lost_in w → length ms ≤ 2 ^ 25
newest_few framer w v s passed front [] ms passed_is is some few way step lost_is = absurd (some refl)
newest_few framer w v s passed front (gap ∷ gaps) ms passed_is is some few way step lost_is =
    let has = own_passed w s gap gaps way (sym lost_is) in
    let here : bytes_in passed ≡ bytes_in has.passed =
    ap bytes_in (passed_is ∙ ap (λ (u : WayState). drop (length u.earlier - (length (gap ∷ gaps) - 1)) u.earlier) step ∙ has.last) in
    let size : length front ≡ length (own_step w s).front = ap length (is ∙ ap (λ (u : WayState). u.front) step) in
    let apart : (w.start + length w.front) + bytes_in has.passed ≤ (own_step w s).start = bytes_apart (end_of w) has.passed (own_step w s).start has.is.apart in
    let room : (own_step w s).start + length (own_step w s).front ≤ (w.start + length w.front) + 2 ^ 25 = step_room true w s way in
    omega (arith, few, here, size, apart, room)
