-- Where the bytes of a shown message lie: by the positions that its direction held before, and by those that the segment brought.
use Rattle.std.proofs.Common.{◌≡◌, ◌↔◌, ℕ, zero, suc, ◌+◌, ◌-◌, ◌^◌, ◌<◌, ◌≤◌, max, Bool, nat_eq, List, [], ◌∷◌, length, take, drop, slice_index, Contains, Option, Some, None, IsSome, refl, sym, ap, subst, ◌∙◌, ◌⊎◌, inl, inr, arith, ℤ, pos, ◌+ℤ◌, ◌-ℤ◌, length-take}
use Rattle.std.specs.FinMap.{get}
use Rattle.std.specs.Option.{option_or}
use Rattle.std.specs.List.{slice_index_or}
use Rattle.std.specs.List.Sorted.{IsStrictlyIncreasing}
use Rattle.std.specs.Cmp.Lexicographic.{bytes_decides, pointwise}
use Rattle.std.proofs.lemmas.Bool.{false≢true, cond-true, cond-false, lt-ltb, le-ltb, cases_Bool, cases_eq, cases_lt, cases_order}
use Rattle.std.proofs.lemmas.Int.{ints}
use Rattle.std.proofs.lemmas.List.{drop-take, drop-drop, take-take}
use Rattle.range_bytes.specs.Held.{Held, Cell, HoldsAll, put_run, run_cell, byte_of, frame_of, bytes_at, frames_at, put_number}
use Rattle.range_bytes.proofs.Runs.{get-put_run, run_cell-in, run_cell-before, run_cell-after, none_is_not_some, some_or, bytes_at-run}
use Rattle.range_bytes.proofs.Ascending.{RisesFrom, put_twice}
use Rattle.tcp_streams.specs.declared.segment.Segment.{Segment}
use Rattle.tcp_streams.specs.Numbers.{first_number, ahead, place, position_ahead, skipped, taken_bytes, window}
use Rattle.tcp_streams.specs.Ways.{WayState, Sided, front_for, held_after, origin_for, own_step, start_for, way_after}
use Rattle.tcp_streams.specs.Isolation.{AreSameSided, IsPair, IsSameCell}
use Rattle.tcp_streams.proofs.Places.{length-bytes_at}
use Rattle.tcp_streams.proofs.FramesAside.{frames_aside}
use Rattle.stream_messages.specs.declared.placed.Placed.{Placed}
use Rattle.stream_messages.specs.Tellings.{end_of}
use Rattle.stream_messages.specs.Messages.{end_at}
use Rattle.tcp_messages.specs.declared.met.Gathered.{Gathered}
use Rattle.tcp_messages.specs.declared.met.Source.TheVariants as sources
use Rattle.tcp_messages.specs.Shown.{distance, gathered, located, place_of, source_at, source_of}
use Rattle.tcp_messages.specs.Places.{HasBrought, HasPosition, IsGathered, LiesInSegment, LiesWhereBrought}
use Rattle.tcp_messages.proofs.Renumbering.{AllFrames, put_before, put_same, put_behind}

-- ---- the numbers of frames

abbrev IsIn : ℕ → List ℕ → Type 0
IsIn z [] = ⊥
IsIn z (x ∷ xs) = (z ≡ x) ⊎ IsIn z xs

in_at : (z : ℕ) (xs : List ℕ) (k : ℕ) → k < length xs → slice_index_or xs k z ≡ z → IsIn z xs
in_at z [] k low e = absurd (omega (arith, low))
in_at z (x ∷ xs) zero low e = inl (sym e)
in_at z (x ∷ xs) (suc k) low e = inr (in_at z xs k (omega (arith, low)) e)

contained : (z : ℕ) (xs : List ℕ) → IsIn z xs → Contains xs z
contained z [] there = absurd there
contained z (x ∷ xs) (inl here) = (0, omega arith, sym here)
contained z (x ∷ xs) (inr there) = let rest = contained z xs there in (suc rest.0, omega (arith, rest.1), rest.2)

put_in : (x z : ℕ) (xs : List ℕ) → (z ≡ x) ⊎ IsIn z xs → IsIn z (put_number x xs)
put_in x z [] there = there
put_in x z (y ∷ ys) (inl here) = elim (cases_order x y) [
  | inl same ↦ subst (IsIn z) (sym (put_same x y ys same)) (inl (here ∙ same))
  | inr (inl low) ↦ subst (IsIn z) (sym (put_before x y ys low)) (inl here)
  | inr (inr high) ↦ subst (IsIn z) (sym (put_behind x y ys high)) (inr (put_in x z ys (inl here)))
]
put_in x z (y ∷ ys) (inr (inl first)) = elim (cases_order x y) [
  | inl same ↦ subst (IsIn z) (sym (put_same x y ys same)) (inl first)
  | inr (inl low) ↦ subst (IsIn z) (sym (put_before x y ys low)) (inr (inl first))
  | inr (inr high) ↦ subst (IsIn z) (sym (put_behind x y ys high)) (inl first)
]
put_in x z (y ∷ ys) (inr (inr rest)) = elim (cases_order x y) [
  | inl same ↦ subst (IsIn z) (sym (put_same x y ys same)) (inr rest)
  | inr (inl low) ↦ subst (IsIn z) (sym (put_before x y ys low)) (inr (inr rest))
  | inr (inr high) ↦ subst (IsIn z) (sym (put_behind x y ys high)) (inr (put_in x z ys (inr rest)))
]

first_or : (x z y : ℕ) (ys : List ℕ) → (IsIn z (put_number x ys) → (z ≡ x) ⊎ IsIn z ys) → IsIn z (y ∷ put_number x ys) → (z ≡ x) ⊎ IsIn z (y ∷ ys)
first_or x z y ys rest (inl first) = inr (inl first)
first_or x z y ys rest (inr there) = elim (rest there) [
  | inl here ↦ inl here
  | inr old ↦ inr (inr old)
]

put_only : (x z : ℕ) (xs : List ℕ) → IsIn z (put_number x xs) → (z ≡ x) ⊎ IsIn z xs
put_only x z [] there = there
put_only x z (y ∷ ys) there = elim (cases_order x y) [
  | inl same ↦ inr (subst (IsIn z) (put_same x y ys same) there)
  | inr (inl low) ↦ subst (IsIn z) (put_before x y ys low) there
  | inr (inr high) ↦ first_or x z y ys (put_only x z ys) (subst (IsIn z) (put_behind x y ys high) there)
]

in_frames : (held : Held) (from n frame q : ℕ) → from ≤ q → q < from + n → frame_of (get held q) ≡ frame → IsIn frame (frames_at held from n)
in_frames held from zero frame q low high e = absurd (omega (arith, low, high))
in_frames held from (suc n) frame q low high e = elim (cases_eq q from) [
  | inl same ↦ put_in (frame_of (get held from)) frame (frames_at held (from + 1) n) (inl (sym (subst (λ (p : ℕ). frame_of (get held p) ≡ frame) same e)))
  | inr other ↦
      put_in (frame_of (get held from)) frame (frames_at held (from + 1) n) (inr (in_frames held (from + 1) n frame q (omega (arith, low, other)) (omega (arith, high)) e))
]

abbrev IsOneOf : Held → ℕ → ℕ → ℕ → Type 0
IsOneOf held from n frame = (q : ℕ) × (from ≤ q) × (q < from + n) × (frame_of (get held q) ≡ frame)

one_frame : (held : Held) (from n frame : ℕ) → IsIn frame (frames_at held from n) → IsOneOf held from n frame
one_frame held from zero frame there = absurd there
one_frame held from (suc n) frame there = elim (put_only (frame_of (get held from)) frame (frames_at held (from + 1) n) there) [
  | inl here ↦ (from, omega arith, omega arith, sym here)
  | inr rest ↦ let one = one_frame held (from + 1) n frame rest in (one.0, omega (arith, one.1), omega (arith, one.2), one.3)
]

rises_put : (low x : ℕ) (ys : List ℕ) → RisesFrom low ys → low ≤ x → RisesFrom low (put_number x ys)
rises_put low x [] rises less = (less, tt)
rises_put low x (y ∷ ys) rises less = elim (cases_order x y) [
  | inl same ↦ subst (RisesFrom low) (sym (put_same x y ys same)) rises
  | inr (inl low_x) ↦ subst (RisesFrom low) (sym (put_before x y ys low_x)) (less, (omega (arith, low_x), rises.1))
  | inr (inr high_x) ↦ subst (RisesFrom low) (sym (put_behind x y ys high_x)) (rises.0, rises_put (y + 1) x ys rises.1 (omega (arith, high_x)))
]

rises_frames : (held : Held) (from n : ℕ) → RisesFrom 0 (frames_at held from n)
rises_frames held from zero = tt
rises_frames held from (suc n) = rises_put 0 (frame_of (get held from)) (frames_at held (from + 1) n) (rises_frames held (from + 1) n) (omega arith)

increasing : (low : ℕ) (xs : List ℕ) → RisesFrom low xs → IsStrictlyIncreasing xs
increasing low [] rises k within = absurd (omega (arith, within))
increasing low (x ∷ []) rises k within = absurd (omega (arith, within))
increasing low (x ∷ y ∷ ys) rises zero within = let next : RisesFrom (x + 1) (y ∷ ys) = rises.1 in let less : x < y = omega (arith, next.0) in less
increasing low (x ∷ y ∷ ys) rises (suc k) within =
    let on : suc k + 1 ≡ suc (k + 1) = omega arith in
    subst (λ (n : ℕ). slice_index (x ∷ y ∷ ys) (suc k) < slice_index (x ∷ y ∷ ys) n) (sym on) (increasing (x + 1) (y ∷ ys) rises.1 k (omega (arith, within)))

one_alone : (held : Held) (frame from n : ℕ) → ((q : ℕ) → from ≤ q → q < from + suc n → frame_of (get held q) ≡ frame) → frames_at held from (suc n) ≡ frame ∷ []
one_alone held frame from zero all = ap (λ (f : ℕ). f ∷ []) (all from (omega arith) (omega arith))
one_alone held frame from (suc n) all =
    let first : frame_of (get held from) ≡ frame = all from (omega arith) (omega arith) in
    let rest = one_alone held frame (from + 1) n (λ q low high. all q (omega (arith, low)) (omega (arith, high))) in
    (λ i. put_number (first i) (rest i)) ∙ put_twice frame []

-- ---- positions that nothing held before

record IsNewRun (held : Held) (at : ℕ) (bytes : List ℕ) (frame from n : ℕ) : Type 0 where
  low : at ≤ from
  high : from + n ≤ at + length bytes
  frames : frames_at held from n ≡ frame ∷ []
  is : bytes_at held from n ≡ take n (drop (from - at) bytes)

new_run : (before : Held) (at : ℕ) (bytes : List ℕ) (frame from n : ℕ) → 0 < n → HoldsAll (put_run before at bytes frame) from (from + n)
    → ((q : ℕ) → from ≤ q → q < from + n → get before q ≡ None) → IsNewRun (put_run before at bytes frame) at bytes frame from n
new_run before at bytes frame from zero some run none = absurd (omega (arith, some))
new_run before at bytes frame from (suc n) some run none =
    let held : Held = put_run before at bytes frame in
    let cells : ((q : ℕ) → from ≤ q → q < from + suc n → get held q ≡ run_cell at bytes frame q) =
    λ q a b. get-put_run before at bytes frame q ∙ ap (λ (o : Option Cell). option_or o (run_cell at bytes frame q)) (none q a b) in
    let there : ((q : ℕ) → from ≤ q → q < from + suc n → IsSome (run_cell at bytes frame q)) =
    λ q a b. subst (λ (o : Option Cell). IsSome o) (cells q a b) (run q a b) in
    let low : at ≤ from = elim (cases_lt from at) [
      | inl less ↦ absurd (none_is_not_some (run_cell at bytes frame from) (there from (omega arith) (omega arith)) (run_cell-before at bytes frame from less))
      | inr more ↦ more
    ] in
    let high : from + suc n ≤ at + length bytes = elim (cases_lt (from + n) (at + length bytes)) [
      | inl less ↦ omega (arith, less)
      | inr more ↦ absurd (none_is_not_some (run_cell at bytes frame (from + n)) (there (from + n) (omega arith) (omega arith)) (run_cell-after at bytes frame (from + n) more))
    ] in
    record {
      low = low;
      high = high;
      frames = one_alone held frame from n (λ q a b. ap frame_of (cells q a b ∙ run_cell-in at bytes frame q (omega (arith, low, a)) (omega (arith, high, b))));
      is = bytes_at-run held bytes at frame from (suc n) low high cells;
    }

-- the position of a payload's first byte, and the place that another position has in it
turn_back : (front behind k at : ℕ) → front + k ≡ at + behind → (pos front -ℤ pos behind) +ℤ pos k ≡ pos at
turn_back front behind k at sum = omega (arith, ints, sum)

apart_by : (position : ℤ) (k at : ℕ) → position +ℤ pos k ≡ pos at → pos at -ℤ position ≡ pos k
apart_by position k at sum = omega (arith, ints, sum)

place_at : (start front u at : ℕ) → place start front u ≤ at → position_ahead front u +ℤ pos (skipped start front u + (at - place start front u)) ≡ pos at
place_at start front u at low =
    let k : ℕ = skipped start front u + (at - place start front u) in
    elim (cases_lt u (2 ^ 31)) [
      | inl less ↦
          let is : position_ahead front u ≡ pos (front + u) = cond-true _ _ _ (lt-ltb u (2 ^ 31) less) in
          let begins : place start front u ≡ front + u = cond-true _ _ _ (lt-ltb u (2 ^ 31) less) in
          let none : skipped start front u ≡ 0 = cond-true _ _ _ (lt-ltb u (2 ^ 31) less) in
          let sum : (front + u) + k ≡ at = omega (arith, begins, none, low) in
          ap (λ (z : ℤ). z +ℤ pos k) is ∙ ap pos sum
      | inr more ↦
          let is : position_ahead front u ≡ (pos front -ℤ pos (2 ^ 32 - u)) = cond-false _ _ _ (le-ltb u (2 ^ 31) more) in
          let begins : place start front u ≡ max start (front - (2 ^ 32 - u)) = cond-false _ _ _ (le-ltb u (2 ^ 31) more) in
          let some : skipped start front u ≡ (start + (2 ^ 32 - u)) - front = cond-false _ _ _ (le-ltb u (2 ^ 31) more) in
          let sum : front + k ≡ at + (2 ^ 32 - u) = omega (arith, begins, some, low) in
          ap (λ (z : ℤ). z +ℤ pos k) is ∙ turn_back front (2 ^ 32 - u) k at sum
    ]

-- a part of a part
part_of_part : (xs : List ℕ) (n i most skip : ℕ) → i + n ≤ most → take n (drop i (take most (drop skip xs))) ≡ take n (drop (skip + i) xs)
part_of_part xs n i most skip within =
    let rest : ℕ = most - i in
    let size : most ≡ i + rest = omega (arith, within) in
    ap (λ (m : ℕ). take n (drop i (take m (drop skip xs)))) size
    ∙ ap (take n) (drop-take i rest (drop skip xs))
    ∙ take-take n rest (drop i (drop skip xs)) (omega (arith, within))
    ∙ ap (take n) (drop-drop i skip xs)

-- ---- the source

in_place : (payload : List ℕ) (frame k : ℕ) (g : Gathered) (o : Option ℕ) → g.frames ≡ frame ∷ [] → o ≡ Some k → g.bytes ≡ take (length g.bytes) (drop k payload)
    → source_of payload frame g o ≡ sources.Segment k
in_place payload frame k g o frames there bytes =
    let one : source_of payload frame g o ≡ source_at g (place_of payload g.bytes o) = cond-true _ _ _ ((bytes_decides g.frames (frame ∷ [])).1 frames) in
    let at : place_of payload g.bytes (Some k) ≡ Some k = cond-true _ _ _ ((bytes_decides g.bytes (take (length g.bytes) (drop k payload))).1 bytes) in
    one ∙ ap (λ (p : Option ℕ). source_at g (place_of payload g.bytes p)) there ∙ ap (source_at g) at

not_alone : (payload : List ℕ) (frame : ℕ) (g : Gathered) (o : Option ℕ) → (g.frames ≡ frame ∷ [] → ⊥) → source_of payload frame g o ≡ sources.Gathered g
not_alone payload frame g o others = elim (cases_Bool (pointwise nat_eq g.frames (frame ∷ []))) [
  | inl alone ↦ absurd (others ((bytes_decides g.frames (frame ∷ [])).0 alone))
  | inr apart ↦ cond-false _ _ _ apart
]

cell_is : (o : Option Cell) (frame : ℕ) → IsSome o → frame_of o ≡ frame → o ≡ Some (byte_of o, frame)
cell_is None frame some e = absurd (false≢true some)
cell_is (Some cell) frame some e = ap (λ (f : ℕ). Some (cell.0, f)) e

frames_are : (held : Held) (m : Placed) (frame : ℕ) → HoldsAll held m.at (end_at m) → Contains (frames_at held m.at (end_of m.told)) frame ↔ HasBrought held m frame
frames_are held m frame run = (
  λ there.
      let one = one_frame held m.at (end_of m.told) frame (in_at frame (frames_at held m.at (end_of m.told)) there.0 there.1 there.2) in
      (one.0, byte_of (get held one.0), (one.1, one.2), cell_is (get held one.0) frame (run one.0 one.1 one.2) one.3),
  λ brought. contained frame (frames_at held m.at (end_of m.told)) (in_frames held m.at (end_of m.told) frame brought.0 brought.2.0 brought.2.1 (ap frame_of brought.3)),
)

gathered_is : (held : Held) (s : Segment) (position : ℤ) (m : Placed) → HoldsAll held m.at (end_at m) → (frames_at held m.at (end_of m.told) ≡ s.frame ∷ [] → ⊥)
    → IsGathered held (located held s position m)
gathered_is held s position m run others = record {
  buffer = gathered held m;
  is = not_alone s.payload s.frame (gathered held m) (distance (pos m.at -ℤ position)) others;
  bytes = refl;
  frames = λ frame. frames_are held m frame run;
  ascend = increasing 0 (frames_at held m.at (end_of m.told)) (rises_frames held m.at (end_of m.told));
}

-- by the position of the segment in its direction
abbrev pub position_in : WayState → Segment → ℤ
position_in w s = position_ahead (front_for w) (ahead (origin_for w s) (front_for w) (first_number s))

segment_is : (w : WayState) (s : Segment) (m : Placed) → 0 < end_of m.told → HoldsAll (held_after w s) m.at (end_at m) → ((q : ℕ) → HasPosition m q → get w.held q ≡ None)
    → LiesInSegment (held_after w s) s (position_in w s) (located (held_after w s) s (position_in w s) m)
segment_is w s m some run none =
    let u : ℕ = ahead (origin_for w s) (front_for w) (first_number s) in
    let at : ℕ = place (start_for w) (front_for w) u in
    let skip : ℕ = skipped (start_for w) (front_for w) u in
    let most : ℕ = front_for w + window - at in
    let n : ℕ = end_of m.told in
    let held : Held = held_after w s in
    let k : ℕ = skip + (m.at - at) in
    let new = new_run w.held at (take most (drop skip s.payload)) s.frame m.at n some run (λ q low high. none q (low, high)) in
    let on : position_in w s +ℤ pos k ≡ pos m.at = place_at (start_for w) (front_for w) u m.at new.low in
    let within : (m.at - at) + n ≤ most = omega (arith, new.low, new.high, length-take most (drop skip s.payload)) in
    let part : bytes_at held m.at n ≡ take n (drop k s.payload) = new.is ∙ part_of_part s.payload n (m.at - at) most skip within in
    let size : length (bytes_at held m.at n) ≡ n = length-bytes_at held m.at n in
    let same : (k + n) - k ≡ n = omega arith in
    record {
      place = k;
      is = in_place s.payload s.frame k (gathered held m) (distance (pos m.at -ℤ position_in w s)) new.frames (ap distance (apart_by (position_in w s) k m.at on))
          (part ∙ ap (λ (j : ℕ). take j (drop k s.payload)) (sym size));
      at = on;
      bytes = ap (λ (j : ℕ). take j (drop k s.payload)) same ∙ sym part;
    }

-- ---- the frames that brought what was held

same_self : (ls : List Sided) → AreSameSided ls ls
same_self [] = tt
same_self (l ∷ ls) = (record { segment = record { from = refl; to = refl; seq = refl; ack = refl; syn = refl; acked = refl; payload = refl }; side = refl }, same_self ls)

first_frame : (P : ℕ → Type 0) (ls ms : List Sided) (f g : ℕ) → AllFrames P ls → IsPair ls ms f g → P f
first_frame P [] ms f g all pair = absurd pair
first_frame P (l ∷ ls) [] f g all pair = absurd pair
first_frame P (l ∷ ls) (m ∷ ms) f g all (inl here) = subst P here.0 all.0
first_frame P (l ∷ ls) (m ∷ ms) f g all (inr there) = first_frame P ls ms f g all.1 there

pub frame_in : (P : ℕ → Type 0) (side : Bool) (ls : List Sided) (q : ℕ) (cell : Cell) → AllFrames P ls → get (way_after side ls).held q ≡ Some cell → P cell.1
frame_in P side ls q cell all e =
    let same = (frames_aside side ls ls (same_self ls)).held q in
    let here : IsSameCell ls ls (Some cell) (Some cell) = subst (λ (o : Option Cell). IsSameCell ls ls o o) e same in
    first_frame P ls ls cell.1 cell.1 all here.1

-- a position that was held keeps its frame
kept_frame : (before : Held) (at : ℕ) (bytes : List ℕ) (frame q : ℕ) → IsSome (get before q) → get (put_run before at bytes frame) q ≡ get before q
kept_frame before at bytes frame q there =
    get-put_run before at bytes frame q ∙ some_or (get before q) (run_cell at bytes frame q) there

apart_frame : (o : Option Cell) (frame : ℕ) → IsSome o → ((cell : Cell) → o ≡ Some cell → cell.1 ≡ frame → ⊥) → frame_of o ≡ frame → ⊥
apart_frame None frame some other e = absurd (false≢true some)
apart_frame (Some cell) frame some other e = other cell refl e

only_first : (z x : ℕ) → IsIn z (x ∷ []) → z ≡ x
only_first z x (inl here) = here
only_first z x (inr there) = absurd there

held_frames : (before : Held) (at : ℕ) (bytes : List ℕ) (frame from n q : ℕ) → from ≤ q → q < from + n → IsSome (get before q) → (frame_of (get before q) ≡ frame → ⊥)
    → frames_at (put_run before at bytes frame) from n ≡ frame ∷ [] → ⊥
held_frames before at bytes frame from n q low high there other alone =
    let same : frame_of (get (put_run before at bytes frame) q) ≡ frame_of (get before q) = ap frame_of (kept_frame before at bytes frame q there) in
    other (only_first (frame_of (get before q)) frame (subst (IsIn (frame_of (get before q))) alone (in_frames (put_run before at bytes frame) from n (frame_of (get before q)) q low high same)))

pub lies_where : (w : WayState) (s : Segment) (m : Placed) → 0 < end_of m.told → HoldsAll (own_step w s).held m.at (end_at m)
    → ((q : ℕ) (cell : Cell) → get w.held q ≡ Some cell → cell.1 ≡ s.frame → ⊥)
    → LiesWhereBrought w.held (own_step w s).held s (position_in w s) (located (own_step w s).held s (position_in w s) m)
unfolding own_step
lies_where w s m some run other =
    let u : ℕ = ahead (origin_for w s) (front_for w) (first_number s) in
    record {
      whole = run;
      alone = segment_is w s m some run;
      others = λ q has there. gathered_is (held_after w s) s (position_in w s) m run
          (held_frames w.held (place (start_for w) (front_for w) u) (taken_bytes (start_for w) (front_for w) u s.payload) s.frame m.at (end_of m.told) q has.0 has.1 there
          (apart_frame (get w.held q) s.frame there (other q)));
    }
