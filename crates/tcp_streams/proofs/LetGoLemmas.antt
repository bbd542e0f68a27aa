-- Bytes of one direction that are let go: what is kept of it, and of all others.
use Rattle.std.proofs.Common.{◌≡◌, ◌⊎◌, ℕ, zero, suc, ◌+◌, ◌-◌, ◌*◌, ◌^◌, ◌<◌, ◌≤◌, Bool, true, false, not, Result, Ok, Err, OnOk, List, [], length, drop, Option, None, Some, IsSome, unwrap_or, slice_get, slice_set, refl, sym, ap, ◌∙◌, subst, inl, inr, arith}
use Rattle.std.specs.FinMap.{get}
use Rattle.std.proofs.lemmas.Bool.{false≢true, cases_lt, eq-eqb}
use Rattle.std.proofs.lemmas.Bool.Decides.{eqb_tells}
use Rattle.std.proofs.lemmas.List.{length-drop, drop-drop}
use Rattle.std.proofs.Math.ListN.{length-set}
use Rattle.pk_base.specs.declared.stretch.Stretch.{Stretch}
use Rattle.range_bytes.specs.Held.{Cell, Held, bytes_at, held_below, one_if_held}
use Rattle.range_bytes.specs.Joined.{Joined, front_end}
use Rattle.range_bytes.specs.LetGo.{IsLetGo}
use Rattle.tcp_streams.specs.declared.newest.Newest.{Newest}
use Rattle.tcp_streams.specs.declared.stream.Stream.{Stream}
use Rattle.tcp_streams.specs.LetGo.{AgreesKept, AreLetGo, GoesTo, IsKeptOf, IsLetGoTo, IsStreamKept, IsStreamLetGo}
use Rattle.tcp_streams.specs.Labels.{Label, way_of}
use Rattle.tcp_streams.specs.Stands.{AreFilled, IsFilled, IsSound, IsSoundStream}
use Rattle.tcp_streams.specs.declared.streams.Streams.{Streams}
use Rattle.tcp_streams.specs.Standing.{AreReady, bytes_so_far, streams_of, way_kept}
use Rattle.tcp_streams.proofs.Filling.{stretches_short, ways_filled}
use Rattle.tcp_streams.specs.States.{state_of}
use Rattle.tcp_streams.specs.Ways.{WayState, end_of, HoldsAtMost, IsWay}
use Rattle.tcp_streams.proofs.KeptLemmas.{bytes_same_from, drop-bytes_at, kept_from}
use Rattle.tcp_streams.proofs.StandsLemmas.{set_same, set_other}
use Rattle.tcp_streams.proofs.Stepping.{set_here, set_else}
use Rattle.tcp_streams.proofs.TakeLemmas.{at_stream}

-- ---- one direction

abbrev pub joined_way : Option ℕ → Joined → List Stretch → ℕ → WayState
joined_way origin j earlier acked = record { origin = origin; held = j.held; earlier = earlier; start = j.start; front = j.front; acked = acked }

below_less : (n : ℕ) (h g : Held) → ((q : ℕ) → (get h q ≡ None) ⊎ (get h q ≡ get g q)) → held_below n h ≤ held_below n g
below_less zero h g less = omega arith
below_less (suc n) h g less =
    let rest : held_below n h ≤ held_below n g = below_less n h g less in
    elim (less n) [
      | inl none ↦ let here : one_if_held (get h n) ≡ 0 = ap one_if_held none in omega (arith, rest, here)
      | inr same ↦ let here : one_if_held (get h n) ≡ one_if_held (get g n) = ap one_if_held same in omega (arith, rest, here)
    ]

kept_on : (origin : Option ℕ) (earlier : List Stretch) (acked to : ℕ) (j k : Joined) → IsLetGo j k to → (w : WayState) → IsKeptOf w (joined_way origin j earlier acked) → IsKeptOf w (joined_way origin k [] acked)
kept_on origin earlier acked to j k go w kept =
    let from : kept.from ≤ j.start = kept_from w (joined_way origin j earlier acked) kept in
    let low : w.start ≤ j.start = kept.low in
    let later : j.start ≤ k.start = go.low in
    let sum : (j.start - w.start) + (k.start - j.start) ≡ k.start - w.start = omega (arith, low, later) in
    record {
      origin = kept.origin;
      acked = kept.acked;
      low = omega (arith, low, later);
      end = go.end ∙ kept.end;
      front = go.front ∙ ap (drop (k.start - j.start)) kept.front ∙ drop-drop (k.start - j.start) (j.start - w.start) w.front ∙ ap (λ (n : ℕ). drop n w.front) sum;
      from = k.start;
      held = λ q past. go.same q past ∙ kept.held q (omega (arith, past, later, from));
      none = go.gone;
      begin = (omega arith, tt);
      parts = tt;
    }

way_on : (origin : Option ℕ) (earlier : List Stretch) (acked at : ℕ) (j k : Joined) → IsWay (joined_way origin j earlier acked) → at ≤ front_end j - 1 → IsLetGo j k at
    → IsWay (joined_way origin k [] acked)
way_on origin earlier acked at j k way early go =
    let later : j.start ≤ k.start = go.low in
    let end : front_end k ≡ front_end j = go.end in
    let size : length k.front ≡ length j.front - (k.start - j.start) = ap length go.front ∙ length-drop (k.start - j.start) j.front in
    let count : length j.front - (k.start - j.start) ≡ length k.front = sym size in
    let place : j.start + (k.start - j.start) ≡ k.start = omega (arith, later) in
    let base : k.start ≡ front_end k → k.start ≡ 0 = λ same. elim (cases_lt 0 (front_end j)) [
      | inr none ↦ omega (arith, none, end, same)
      | inl some ↦ elim (cases_lt j.start (front_end j)) [
        | inl less ↦ absurd (omega (arith, some, less, end, same, early, go.most))
        | inr all ↦ let first : j.start ≡ 0 = way.place.base (omega (arith, all, way.place.order)) in absurd (omega (arith, some, all, first))
      ]
    ] in
    record {
      place = record {
        order = omega arith;
        run = λ q a b. subst (λ (o : Option Cell). IsSome o) (sym (go.same q a)) (way.place.run q (omega (arith, a, later)) (omega (arith, b, end)));
        free = go.same (front_end k) (omega arith) ∙ ap (get j.held) end ∙ way.place.free;
        base = base;
        window_is = λ q past. go.same q (omega (arith, past)) ∙ way.place.window_is q (omega (arith, past, end));
      };
      bytes =
          go.front ∙ ap (drop (k.start - j.start)) way.bytes ∙ drop-bytes_at j.held (k.start - j.start) j.start (length j.front)
          ∙ ap (λ (p : ℕ). bytes_at j.held p (length j.front - (k.start - j.start))) place ∙ ap (bytes_at j.held k.start) count
          ∙ sym (bytes_same_from k.held j.held k.start (length k.front) go.same);
      apart = omega arith;
    }

pub way_let_go : (origin : Option ℕ) (earlier : List Stretch) (acked to at : ℕ) (j k : Joined) → IsWay (joined_way origin j earlier acked) → at ≤ to → at ≤ front_end j - 1 → IsLetGo j k at
    → IsLetGoTo to (joined_way origin j earlier acked) (joined_way origin k [] acked)
way_let_go origin earlier acked to at j k way within early go = record {
  most = omega (arith, go.most, within);
  kept = kept_on origin earlier acked at j k go;
  low = go.low;
  end = go.end;
  front = go.front;
  way = way_on origin earlier acked at j k way early go;
  filled = λ bytes filled. record {
    held = λ position. omega (
      arith,
      filled.held position,
      below_less position k.held j.held (λ q. elim (cases_lt q k.start) [
        | inl before ↦ inl (go.gone q before)
        | inr past ↦ inr (go.same q past)
      ]),
    );
    earlier = tt;
  };
}

pub way_let_go_on : {T E : Type 0} (origin : Option ℕ) (earlier : List Stretch) (acked to at : ℕ) (j k : Joined) (r : Result T E) → IsWay (joined_way origin j earlier acked) → at ≤ to → at ≤ front_end j - 1
    → OnOk r (IsLetGo j k at) → OnOk r (IsLetGoTo to (joined_way origin j earlier acked) (joined_way origin k [] acked))
way_let_go_on origin earlier acked to at j k (Ok u) way within early go = way_let_go origin earlier acked to at j k way within early go
way_let_go_on origin earlier acked to at j k (Err e) way within early go = tt

-- ---- a stream

goes_by : (P : WayState → Type 0) (own : Bool) (to : ℕ) (old new : WayState) → GoesTo own to old new → (IsLetGoTo to old new → P new) → P old → P new
goes_by P true to old new goes go same = go goes
goes_by P false to old new goes go same = subst P (sym goes) same

pub stream_sound : (n : ℕ) (side : Bool) (to : ℕ) (old new : Stream) → IsSoundStream n old → IsStreamLetGo side to old new → IsSoundStream n new
stream_sound n side to old new sound goes = record {
  zero = goes_by IsWay (not side) to (state_of old.zero) (state_of new.zero) goes.zero (λ go. go.way) sound.zero;
  one = goes_by IsWay side to (state_of old.one) (state_of new.one) goes.one (λ go. go.way) sound.one;
  zero_room = goes_by (λ (w : WayState). end_of w ≤ 2 ^ 25 * n) (not side) to (state_of old.zero) (state_of new.zero) goes.zero (λ go. omega (arith, go.end, sound.zero_room)) sound.zero_room;
  one_room = goes_by (λ (w : WayState). end_of w ≤ 2 ^ 25 * n) side to (state_of old.one) (state_of new.one) goes.one (λ go. omega (arith, go.end, sound.one_room)) sound.one_room;
}

pub stream_filled : (bytes : ℕ) (side : Bool) (to : ℕ) (old new : Stream) → IsFilled bytes old → IsStreamLetGo side to old new → IsFilled bytes new
stream_filled bytes side to old new filled goes = record {
  zero = goes_by (HoldsAtMost bytes) (not side) to (state_of old.zero) (state_of new.zero) goes.zero (λ go. go.filled bytes filled.zero) filled.zero;
  one = goes_by (HoldsAtMost bytes) side to (state_of old.one) (state_of new.one) goes.one (λ go. go.filled bytes filled.one) filled.one;
}

pub stream_kept : (ls : List Label) (number : ℕ) (side : Bool) (to : ℕ) (old new : Stream) → IsStreamKept ls number old → IsStreamLetGo side to old new → IsStreamKept ls number new
stream_kept ls number side to old new is goes = record {
  first = is.first ∙ ap Some (sym goes.first);
  zero = goes_by (IsKeptOf (way_of number false ls)) (not side) to (state_of old.zero) (state_of new.zero) goes.zero (λ go. go.kept (way_of number false ls) is.zero) is.zero;
  one = goes_by (IsKeptOf (way_of number true ls)) side to (state_of old.one) (state_of new.one) goes.one (λ go. go.kept (way_of number true ls) is.one) is.one;
}

-- ---- all streams

abbrev pub LetGoIn : List Stream → ℕ → Bool → ℕ → List Stream → Type 0
LetGoIn streams number side to after =
    (old : Stream) → slice_get streams number ≡ Some old → (new : Stream) × (after ≡ slice_set streams number new) × IsStreamLetGo side to old new

pub let_go_followed : {T E : Type 0} (streams : List Stream) (number : ℕ) (side : Bool) (to : ℕ) (here new : Stream) (r : Result T E) → slice_get streams number ≡ Some here
    → OnOk r (IsStreamLetGo side to here new) → OnOk r (LetGoIn streams number side to (slice_set streams number new))
let_go_followed streams number side to here new (Ok u) there goes = λ old e.
    let same : here ≡ old = ap (λ (o : Option Stream). unwrap_or o here) (sym there ∙ e) in
    (new, refl, subst (λ (st : Stream). IsStreamLetGo side to st new) same goes)
let_go_followed streams number side to here new (Err e) there goes = tt

-- what holds of each stream, where the one that changes keeps it
each_on : (P : ℕ → Stream → Type 0) (streams : List Stream) (number : ℕ) (new : Stream) → P number new → ((k : ℕ) (stream : Stream) → slice_get streams k ≡ Some stream → P k stream)
    → (k : ℕ) (stream : Stream) → slice_get (slice_set streams number new) k ≡ Some stream → P k stream
each_on P streams number new here each k stream at = elim (eqb_tells number k) [
  | inl w ↦
      let same : Some new ≡ Some stream = set_same streams number new stream (subst (λ (j : ℕ). slice_get (slice_set streams number new) j ≡ Some stream) (sym w.1) at) in
      let this : new ≡ stream = ap (λ (o : Option Stream). unwrap_or o new) same in
      subst (P k) this (subst (λ (j : ℕ). P j new) w.1 here)
  | inr w ↦ each k stream (sym (set_other streams number k new (λ e. false≢true (sym w.0 ∙ eq-eqb number k e))) ∙ at)
]

pub sound_let_go : (n : ℕ) (newest : Newest) (streams after : List Stream) (number : ℕ) (side : Bool) (to : ℕ) → number < length streams → LetGoIn streams number side to after
    → IsSound newest streams n → IsSound newest after n
sound_let_go n newest streams after number side to low goes sound =
    let at = at_stream streams number low in
    let f = goes at.0 at.1 in
    let size = length-set streams number f.0 in
    subst (λ (xs : List Stream). IsSound newest xs n) (sym f.1) (record {
      count = omega (arith, size, sound.count);
      within = λ ends k e. omega (arith, size, sound.within ends k e);
      each = each_on (λ (k : ℕ) (stream : Stream). IsSoundStream n stream) streams number f.0 (stream_sound n side to at.0 f.0 (sound.each number at.0 at.1) f.2) sound.each;
    })

pub filled_let_go : (bytes : ℕ) (streams after : List Stream) (number : ℕ) (side : Bool) (to : ℕ) → number < length streams → LetGoIn streams number side to after
    → AreFilled bytes streams → AreFilled bytes after
filled_let_go bytes streams after number side to low goes filled =
    let at = at_stream streams number low in
    let f = goes at.0 at.1 in
    subst (AreFilled bytes) (sym f.1)
    (each_on (λ (k : ℕ) (stream : Stream). IsFilled bytes stream) streams number f.0 (stream_filled bytes side to at.0 f.0 (filled number at.0 at.1) f.2) filled)

pub agrees_let_go : (ls : List Label) (newest : Newest) (streams after : List Stream) (number : ℕ) (side : Bool) (to : ℕ) → number < length streams → LetGoIn streams number side to after
    → AgreesKept ls newest streams → AgreesKept ls newest after
agrees_let_go ls newest streams after number side to low goes agrees =
    let at = at_stream streams number low in
    let f = goes at.0 at.1 in
    subst (AgreesKept ls newest) (sym f.1) (record {
      count = length-set streams number f.0 ∙ agrees.count;
      below = agrees.below;
      known = agrees.known;
      each = each_on (IsStreamKept ls) streams number f.0 (stream_kept ls number side to at.0 f.0 (agrees.each number at.0 at.1) f.2) agrees.each;
    })

own_goes : (side : Bool) (to : ℕ) (old new : Stream) → IsStreamLetGo side to old new → IsLetGoTo to (way_kept (Some old) side) (way_kept (Some new) side)
own_goes true to old new goes = goes.one
own_goes false to old new goes = goes.zero

other_stays : (side : Bool) (to : ℕ) (old new : Stream) → IsStreamLetGo side to old new → way_kept (Some new) (not side) ≡ way_kept (Some old) (not side)
other_stays true to old new goes = goes.zero
other_stays false to old new goes = goes.one

pub ways_let_go : (streams after : List Stream) (number : ℕ) (side : Bool) (to : ℕ) → number < length streams → LetGoIn streams number side to after → AreLetGo number side to streams after
ways_let_go streams after number side to low goes =
    let at = at_stream streams number low in
    let f = goes at.0 at.1 in
    let new = f.0 in
    let here = set_here streams number new low in
    subst (AreLetGo number side to streams) (sym f.1) (record {
      count = length-set streams number new;
      own = subst (λ (o : Option Stream). IsLetGoTo to (way_kept o side) (way_kept (slice_get (slice_set streams number new) number) side)) (sym at.1)
          (subst (λ (o : Option Stream). IsLetGoTo to (way_kept (Some at.0) side) (way_kept o side)) (sym here) (own_goes side to at.0 new f.2));
      other = ap (λ (o : Option Stream). way_kept o (not side)) here ∙ other_stays side to at.0 new f.2 ∙ ap (λ (o : Option Stream). way_kept o (not side)) (sym at.1);
      rest = λ k one apart. ap (λ (o : Option Stream). way_kept o one) (set_else streams number k new (λ e. apart (sym e)));
    })

-- what holds of each direction, where it is kept
same_or : (b one : Bool) → (one ≡ b) ⊎ (one ≡ not b)
same_or true true = inl refl
same_or true false = inr refl
same_or false false = inl refl
same_or false true = inr refl

each_way : (P : WayState → Type 0) (number : ℕ) (side : Bool) (to : ℕ) (old new : List Stream) → AreLetGo number side to old new → ((v w : WayState) → IsLetGoTo to v w → P v → P w)
    → ((k : ℕ) (one : Bool) → P (way_kept (slice_get old k) one)) → (k : ℕ) (one : Bool) → P (way_kept (slice_get new k) one)
each_way P number side to old new go on all k one = elim (eqb_tells k number) [
  | inr other ↦ subst P (sym (go.rest k one other.1)) (all k one)
  | inl here ↦ subst (λ (n : ℕ). P (way_kept (slice_get new n) one)) (sym here.1) (by (same_or side one))
]
  where
    by : (one ≡ side) ⊎ (one ≡ not side) → P (way_kept (slice_get new number) one)
    by (inl e) = subst (λ (b : Bool). P (way_kept (slice_get new number) b)) (sym e) (on (way_kept (slice_get old number) side) (way_kept (slice_get new number) side) go.own (all number side))
    by (inr e) = subst (λ (b : Bool). P (way_kept (slice_get new number) b)) (sym e) (subst P (sym go.other) (all number (not side)))

pub ready_let_go : (old new : Streams) (number : ℕ) (side : Bool) (to : ℕ) → AreReady old → AreLetGo number side to (streams_of old) (streams_of new) → new.kept.spent ≡ false
    → bytes_so_far new ≡ bytes_so_far old → AreFilled (bytes_so_far new) (streams_of new) → AreReady new
ready_let_go old new number side to ready go fresh bytes filled =
    let ways : (k : ℕ) (one : Bool) → IsWay (way_kept (slice_get (streams_of new) k) one) = each_way IsWay number side to (streams_of old) (streams_of new) go (λ v w is was. is.way) ready.ways in
    record {
      fresh = fresh;
      few = omega (arith, ready.few, bytes);
      ways = ways;
      room = each_way (λ (w : WayState). end_of w < 2 ^ 58) number side to (streams_of old) (streams_of new) go (λ v w is was. omega (arith, is.end, was)) ready.room;
      short = λ k one. stretches_short (bytes_so_far new) (way_kept (slice_get (streams_of new) k) one) (ways k one) (ways_filled (bytes_so_far new) (streams_of new) k one filled);
    }
