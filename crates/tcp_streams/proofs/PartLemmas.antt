-- The stretch in which a range lies.
use Rattle.std.proofs.Common.{◌≡◌, ◌↔◌, IsSome, IfSome, take, drop, slice_range, eqb, ℕ, zero, suc, ◌+◌, ◌-◌, ◌<◌, ◌≤◌, Bool, true, false, List, [], ◌∷◌, ◌++◌, length, Option, None, Some, unwrap_or, is_some, slice_get, slice_index_or, nat_le, refl, sym, ap, ◌∙◌, subst, inl, inr, arith}
use Rattle.std.specs.List.Sorted.{IsPartitionPoint, IsPartitionedBy}
use Rattle.std.proofs.lemmas.Bool.{false≢true, cases_lt, cases_order, le-leb, leb-true}
use Rattle.std.proofs.lemmas.Option.{get_or_from_slice_get, slice_get_within, IfSome_then}
use Rattle.pk_base.specs.declared.stretch.Stretch.{Stretch}
use Rattle.range_bytes.specs.Held.{Held, HoldsAll, put_run, bytes_at}
use Rattle.tcp_streams.specs.declared.segment.Segment.{Segment}
use Rattle.tcp_streams.specs.declared.streams.Streams.{Streams}
use Rattle.tcp_streams.specs.Numbers.{first_number, ahead, place, taken_bytes}
use Rattle.tcp_streams.specs.Gaps.{first_free, next_from, gaps_on, gaps, left_behind}
use Rattle.tcp_streams.specs.Ways.{WayState, Sided, stretches, end_of, lost_in, start_for, front_for, origin_for, own_step, other_step, way_step, way_after, same_side, IsPlace, IsWay, AreApart}
use Rattle.tcp_streams.specs.Labels.{labels, sided_of}
use Rattle.tcp_streams.specs.Standing.{StandsFor, stream_count, way_in, way_for}
use Rattle.tcp_streams.proofs.Places.{next_is, place_jump, length-bytes_at, put_stays}
use Rattle.tcp_streams.proofs.WayLemmas.{bytes_stay, after_is}
use Rattle.tcp_streams.proofs.ReadLemmas.{stands_way}
use Rattle.tcp_streams.specs.LetGo.{AreHeldIn, IsHeldIn}
use Rattle.tcp_streams.specs.Parts.{LiesIn, LiesInOne, bytes_in, IsPart}

-- stretches that are apart end before what is behind them
apart_order : (low : ℕ) (xs : List Stretch) (next : ℕ) → AreApart low xs next → low ≤ next
apart_order low [] next apart = apart
apart_order low (x ∷ xs) next apart = omega (arith, apart.0, apart_order (x.start + length x.bytes + 1) xs next apart.1)

same_here : (x y : Stretch) → Some x ≡ Some y → x ≡ y
same_here x y e = ap (λ (o : Option Stretch). unwrap_or o x) e

apart_ends : (low : ℕ) (xs : List Stretch) (next i : ℕ) (x : Stretch) → AreApart low xs next → slice_get xs i ≡ Some x → x.start + length x.bytes + 1 ≤ next
apart_ends low [] next i x apart = λ e. absurd (false≢true (ap is_some e))
apart_ends low (y ∷ xs) next zero x apart = λ e. subst (λ (s : Stretch). s.start + length s.bytes + 1 ≤ next) (same_here y x e) (apart_order (y.start + length y.bytes + 1) xs next apart.1)
apart_ends low (y ∷ xs) next (suc i) x apart = λ e. apart_ends (y.start + length y.bytes + 1) xs next i x apart.1 e

apart_begins : (low : ℕ) (xs : List Stretch) (next i : ℕ) (x : Stretch) → AreApart low xs next → slice_get xs i ≡ Some x → low ≤ x.start
apart_begins low [] next i x apart = λ e. absurd (false≢true (ap is_some e))
apart_begins low (y ∷ xs) next zero x apart = λ e. subst (λ (s : Stretch). low ≤ s.start) (same_here y x e) apart.0
apart_begins low (y ∷ xs) next (suc i) x apart = λ e. omega (arith, apart.0, apart_begins (y.start + length y.bytes + 1) xs next i x apart.1 e)

apart_pair : (low : ℕ) (xs : List Stretch) (next i j : ℕ) (x y : Stretch) → AreApart low xs next → i < j → slice_get xs i ≡ Some x → slice_get xs j ≡ Some y
    → x.start + length x.bytes + 1 ≤ y.start
apart_pair low [] next i j x y apart less = λ ex ey. absurd (false≢true (ap is_some ex))
apart_pair low (z ∷ xs) next i zero x y apart less = absurd (omega (arith, less))
apart_pair low (z ∷ xs) next zero (suc j) x y apart less = λ ex ey.
    subst (λ (s : Stretch). s.start + length s.bytes + 1 ≤ y.start) (same_here z x ex) (apart_begins (z.start + length z.bytes + 1) xs next j y apart.1 ey)
apart_pair low (z ∷ xs) next (suc i) (suc j) x y apart less = λ ex ey. apart_pair (z.start + length z.bytes + 1) xs next i j x y apart.1 (omega (arith, less)) ex ey

-- what stands at a place of a list
record IsAt (xs : List Stretch) (i : ℕ) (d : Stretch) : Type 0 where
  here : Stretch
  there : slice_get xs i ≡ Some here
  is : slice_index_or xs i d ≡ here

at : (xs : List Stretch) (i : ℕ) (d : Stretch) → i < length xs → IsAt xs i d
at [] i d low = absurd (omega (arith, low))
at (x ∷ xs) zero d low = record { here = x; there = refl; is = refl }
at (x ∷ xs) (suc i) d low = let rest = at xs i d (omega (arith, low)) in record { here = rest.here; there = rest.there; is = rest.is }

-- the stretches that start at or before a position stand before those that don't
pub parted : (low : ℕ) (xs : List Stretch) (next p : ℕ) → AreApart low xs next → IsPartitionedBy (λ (s : Stretch). nat_le s.start p) xs
parted low xs next p apart i j d order within passes = elim (cases_order i j) [
  | inl same ↦ subst (λ (k : ℕ). nat_le (slice_index_or xs k d).start p ≡ true) (sym same) passes
  | inr (inr more) ↦ absurd (omega (arith, order, more))
  | inr (inl less) ↦
      let x = at xs i d (omega (arith, less, within)) in
      let y = at xs j d within in
      let apart_is = apart_pair low xs next i j x.here y.here apart less x.there y.there in
      let before : y.here.start ≤ p = leb-true _ p (subst (λ (s : Stretch). nat_le s.start p ≡ true) y.is passes) in
      subst (λ (s : Stretch). nat_le s.start p ≡ true) (sym x.is) (le-leb x.here.start p (omega (arith, apart_is, before)))
]

abbrev pub IsPoint : List Stretch → ℕ → ℕ → Type 0
IsPoint xs p place = IsPartitionPoint (λ (s : Stretch). nat_le s.start p ≡ true) (λ (s : Stretch). nat_le s.start p ≡ false) xs place

-- a stretch in which a range lies is the last one that starts at or before the range
pub point_past : (xs : List Stretch) (p place i : ℕ) (x : Stretch) → IsPoint xs p place → slice_get xs i ≡ Some x → x.start ≤ p → i < place
point_past xs p place i x point there low = elim (cases_lt i place) [
  | inl less ↦ less
  | inr more ↦
      let fails = point.1 i x more (slice_get_within xs i x there) in
      let passes : nat_le (slice_index_or xs i x).start p ≡ true = subst (λ (s : Stretch). nat_le s.start p ≡ true) (sym (get_or_from_slice_get xs i x x there)) (le-leb x.start p low) in
      absurd (false≢true (sym fails ∙ passes))
]

pub point_next : (low : ℕ) (xs : List Stretch) (next p to place i : ℕ) (x : Stretch) → AreApart low xs next → IsPoint xs p place → place ≤ length xs
    → slice_get xs i ≡ Some x → LiesIn x p to → i + 1 ≡ place
point_next low xs next p to place i x apart point within there lies =
    let past : i < place = point_past xs p place i x point there lies.low in
    elim (cases_lt (i + 1) place) [
      | inr last ↦ omega (arith, past, last)
      | inl more ↦
          let y = at xs (place - 1) x (omega (arith, past, within)) in
          let passes = point.0 (place - 1) x (omega arith) (omega (arith, past)) in
          let before : y.here.start ≤ p = leb-true _ p (subst (λ (s : Stretch). nat_le s.start p ≡ true) y.is passes) in
          absurd (omega (arith, apart_pair low xs next i (place - 1) x y.here apart (omega (arith, more)) there y.there, before, lies.order, lies.high))
    ]

-- with one stretch behind them
last_is : {X : Type 0} (xs : List X) (x y : X) (i : ℕ) → slice_get (xs ++ x ∷ []) i ≡ Some y → length xs ≤ i → Some x ≡ Some y
last_is [] x y zero = λ e high. e
last_is [] x y (suc i) = λ e high. absurd (false≢true (ap is_some e))
last_is (z ∷ xs) x y zero = λ e high. absurd (omega (arith, high))
last_is (z ∷ xs) x y (suc i) = λ e high. last_is xs x y i e (omega (arith, high))

before_is : {X : Type 0} (xs : List X) (x y : X) (i : ℕ) → slice_get (xs ++ x ∷ []) i ≡ Some y → i < length xs → slice_get xs i ≡ Some y
before_is [] x y i = λ e low. absurd (omega (arith, low))
before_is (z ∷ xs) x y zero = λ e low. e
before_is (z ∷ xs) x y (suc i) = λ e low. before_is xs x y i e (omega (arith, low))

-- a range at or behind the start of the last stretch lies in that one, and in no other
pub in_last : (low : ℕ) (xs : List Stretch) (x y : Stretch) (i from to : ℕ) → AreApart low xs x.start → x.start ≤ from → slice_get (xs ++ x ∷ []) i ≡ Some y → LiesIn y from to → x ≡ y
in_last low xs x y i from to apart behind there lies = elim (cases_lt i (length xs)) [
  | inr last ↦ same_here x y (last_is xs x y i there last)
  | inl before ↦ absurd (omega (arith, apart_ends low xs x.start i y apart (before_is xs x y i there before), behind, lies.order, lies.high))
]

-- and one that begins before it lies in another
pub in_earlier : (xs : List Stretch) (x y : Stretch) (i from to : ℕ) → from < x.start → slice_get (xs ++ x ∷ []) i ≡ Some y → LiesIn y from to → slice_get xs i ≡ Some y
in_earlier xs x y i from to before there lies = elim (cases_lt i (length xs)) [
  | inl within ↦ before_is xs x y i there within
  | inr last ↦
      let same : y.start ≡ x.start = ap (λ (s : Stretch). s.start) (sym (same_here x y (last_is xs x y i there last))) in
      absurd (omega (arith, same, before, lies.low))
]

pub last_there : {X : Type 0} (xs : List X) (x : X) → slice_get (xs ++ x ∷ []) (length xs) ≡ Some x
last_there [] x = refl
last_there (z ∷ xs) x = last_there xs x

pub still_there : {X : Type 0} (xs : List X) (x y : X) (i : ℕ) → slice_get xs i ≡ Some y → slice_get (xs ++ x ∷ []) i ≡ Some y
still_there [] x y i = λ e. absurd (false≢true (ap is_some e))
still_there (z ∷ xs) x y zero = λ e. e
still_there (z ∷ xs) x y (suc i) = λ e. still_there xs x y i e

-- what is found in the one stretch in which a range may lie
pub record Finds {R : Type 0} (now : R → List ℕ) (xs : List Stretch) (from to : ℕ) (r : Option R) : Type 0 where
  pub some : IfSome r (λ b. IsPart xs from to (now b))
  pub lies : IsSome r ↔ LiesInOne xs from to

pub finds : {R : Type 0} (now : R → List ℕ) (xs : List Stretch) (from to i : ℕ) (x : Stretch) (bytes : List ℕ) (r : Option R) → slice_get xs i ≡ Some x → x.start ≤ from → bytes ≡ x.bytes
    → ((j : ℕ) (y : Stretch) → slice_get xs j ≡ Some y → LiesIn y from to → x ≡ y)
    → IfSome r (λ b. now b ≡ slice_range bytes (from - x.start) (to - x.start)) → IsSome r ↔ ((from ≤ to) × (to ≤ x.start + length bytes)) → Finds now xs from to r
finds now xs from to i x bytes r there low same only some lies = record {
  some = IfSome_then r some (λ b is j y at in_y. is ∙ ap (λ (bs : List ℕ). slice_range bs (from - x.start) (to - x.start)) same ∙ ap (λ (s : Stretch). bytes_in s from to) (only j y at in_y));
  lies = (
    λ is. let fits = lies.0 is in let size = ap length same in (i, x, there, record { low = low; order = fits.0; high = omega (arith, fits.1, size) }),
    λ one.
        let within = subst (λ (s : Stretch). LiesIn s from to) (sym (only one.0 one.1 one.2 one.3)) one.3 in
        let size = ap length same in
        lies.1 (within.order, omega (arith, within.high, size)),
  );
}

-- ---- stretches whose bytes are held

held_stay : (held : Held) (p : ℕ) (bytes : List ℕ) (frame : ℕ) (xs : List Stretch) → AreHeldIn held xs → AreHeldIn (put_run held p bytes frame) xs
held_stay held p bytes frame [] all = tt
held_stay held p bytes frame (x ∷ xs) all = (
  record {
    run = λ q a b. put_stays held p bytes frame q (all.0.run q a b);
    is = all.0.is ∙ sym (bytes_stay held p bytes frame x.start (length x.bytes) all.0.run);
  },
  held_stay held p bytes frame xs all.1,
)

pub held_append : (held : Held) (xs ys : List Stretch) → AreHeldIn held xs → AreHeldIn held ys → AreHeldIn held (xs ++ ys)
held_append held [] ys before after = after
held_append held (x ∷ xs) ys before after = (before.0, held_append held xs ys before.1 after)

held_past : (n : ℕ) (held : Held) (acked start front : ℕ) → IsPlace held start front → AreHeldIn held (left_behind held start (gaps n held acked front))
held_past zero held acked start front place = tt
held_past (suc n) held acked start front place =
    elim (next_from (acked - front) held (front + 1)) as (λ o. next_from (acked - front) held (front + 1) ≡ o → AreHeldIn held (left_behind held start (gaps_on (gaps n held acked) held front o))) [
      | None ↦ λ e. tt
      | Some next ↦ λ e.
          let size = length-bytes_at held start (front - start) in
          let order : start ≤ front = place.order in (
            record {
              run = λ q a b. place.run q a (omega (arith, size, order, b));
              is = ap (bytes_at held start) (sym size);
            },
            held_past n held acked next (first_free held next) (place_jump held start front next place (next_is (acked - front) held (front + 1) next e).first),
          )
    ] refl

pub step_held : (own : Bool) (w : WayState) (s : Segment) → IsWay w → AreHeldIn w.held w.earlier → AreHeldIn (way_step own w s).held (way_step own w s).earlier
unfolding own_step other_step
step_held true w s way all =
    let u = ahead (origin_for w s) (front_for w) (first_number s) in
    held_stay w.held (place (start_for w) (front_for w) u) (taken_bytes (start_for w) (front_for w) u s.payload) s.frame (w.earlier ++ left_behind w.held w.start (lost_in w))
    (held_append w.held w.earlier (left_behind w.held w.start (lost_in w)) all (held_past (w.acked - end_of w) w.held w.acked w.start (end_of w) way.place))
step_held false w s way all = all

pub after_held : (side : Bool) (ls : List Sided) → AreHeldIn (way_after side ls).held (way_after side ls).earlier
after_held side [] = tt
after_held side (l ∷ ls) = step_held (same_side side l.side) (way_after side ls) l.segment (after_is side ls) (after_held side ls)

stretches_held : (side : Bool) (ls : List Sided) → AreHeldIn (way_after side ls).held (stretches (way_after side ls))
stretches_held side ls =
    let way = after_is side ls in
    held_append (way_after side ls).held (way_after side ls).earlier _ (after_held side ls) (record { run = way.place.run; is = way.bytes }, tt)

pub held_at : (held : Held) (xs : List Stretch) (i : ℕ) (x : Stretch) → AreHeldIn held xs → slice_get xs i ≡ Some x → IsHeldIn held x
held_at held [] i x all = λ e. absurd (false≢true (ap is_some e))
held_at held (y ∷ xs) zero x all = λ e. subst (IsHeldIn held) (same_here y x e) all.0
held_at held (y ∷ xs) (suc i) x all = λ e. held_at held xs i x all.1 e

-- some of the bytes from a position on
first_bytes : (held : Held) (from n m : ℕ) → m ≤ n → take m (bytes_at held from n) ≡ bytes_at held from m
first_bytes held from n zero few = refl
first_bytes held from zero (suc m) few = absurd (omega (arith, few))
first_bytes held from (suc n) (suc m) few = rw (first_bytes held (from + 1) n m (omega (arith, few))) refl

some_bytes : (held : Held) (from n a m : ℕ) → a + m ≤ n → take m (drop a (bytes_at held from n)) ≡ bytes_at held (from + a) m
some_bytes held from n zero m few =
    let same : from + 0 ≡ from = omega arith in
    first_bytes held from n m (omega (arith, few)) ∙ ap (λ (p : ℕ). bytes_at held p m) (sym same)
some_bytes held from zero (suc a) m few = absurd (omega (arith, few))
some_bytes held from (suc n) (suc a) m few =
    let same : from + suc a ≡ (from + 1) + a = omega arith in
    some_bytes held (from + 1) n a m (omega (arith, few)) ∙ ap (λ (p : ℕ). bytes_at held p m) (sym same)

pub bytes_in_are : (held : Held) (x : Stretch) (from to : ℕ) → IsHeldIn held x → LiesIn x from to → bytes_in x from to ≡ bytes_at held from (to - from)
bytes_in_are held x from to is lies =
    let low = lies.low in
    let order = lies.order in
    let place : x.start + (from - x.start) ≡ from = omega (arith, low) in
    let size : (to - x.start) - (from - x.start) ≡ to - from = omega (arith, low, order) in
    ap (λ (b : List ℕ). slice_range b (from - x.start) (to - x.start)) is.is
    ∙ some_bytes held x.start (length x.bytes) (from - x.start) ((to - x.start) - (from - x.start)) (omega (arith, low, order, lies.high))
    ∙ ap (λ (p : ℕ). bytes_at held p ((to - x.start) - (from - x.start))) place
    ∙ ap (bytes_at held from) size

-- a part is what is held there
pub part_held : (past : List Segment) (streams : Streams) (stream side from to : ℕ) (bytes : List ℕ) → StandsFor past streams → stream < stream_count streams
    → LiesInOne (stretches (way_in streams stream side)) from to → IsPart (stretches (way_for past stream side)) from to bytes
    → bytes ≡ bytes_at (way_for past stream side).held from (to - from)
part_held past streams stream side from to bytes stands low lies part =
    let here = subst (λ (w : WayState). LiesInOne (stretches w) from to) (stands_way past streams stream side stands low) lies in
    let held = held_at (way_for past stream side).held (stretches (way_for past stream side)) here.0 here.1 (stretches_held (eqb side 1) (sided_of stream (labels past))) here.2 in
    part here.0 here.1 here.2 here.3 ∙ bytes_in_are (way_for past stream side).held here.1 from to held here.3

-- and all of it is held
pub part_holds : (past : List Segment) (streams : Streams) (stream side from to : ℕ) → StandsFor past streams → stream < stream_count streams
    → LiesInOne (stretches (way_in streams stream side)) from to → HoldsAll (way_in streams stream side).held from to
part_holds past streams stream side from to stands low lies =
    let is = stands_way past streams stream side stands low in
    let here = subst (λ (w : WayState). LiesInOne (stretches w) from to) is lies in
    let held = held_at (way_for past stream side).held (stretches (way_for past stream side)) here.0 here.1 (stretches_held (eqb side 1) (sided_of stream (labels past))) here.2 in
    subst (λ (w : WayState). HoldsAll w.held from to) (sym is) (λ q a b. held.run q (omega (arith, here.3.low, a)) (omega (arith, here.3.high, b)))
