-- What a segment does to each direction of each stream.
use Rattle.std.proofs.Common.{◌≡◌, ℕ, zero, suc, ◌^◌, ◌<◌, Bool, true, false, not, List, [], ◌∷◌, ◌++◌, length, Option, None, Some, slice_get, slice_set, cond, eqb, refl, sym, ap, ◌∙◌, subst, inl, inr, arith, length-append}
use Rattle.std.proofs.lemmas.Bool.{cond-true, cond-false}
use Rattle.std.proofs.lemmas.Bool.Decides.{eqb_tells}
use Rattle.std.proofs.Math.ListN.{length-set}
use Rattle.tcp_streams.specs.declared.newest.Newest.{Newest}
use Rattle.tcp_streams.specs.declared.segment.Segment.{Segment}
use Rattle.tcp_streams.specs.declared.segment.Taken.{Taken}
use Rattle.tcp_streams.specs.declared.stream.Stream.{Stream}
use Rattle.tcp_streams.specs.declared.streams.Streams.{Streams}
use Rattle.tcp_streams.specs.Ways.{WayState, nothing, end_of, way_step, same_side, IsWay}
use Rattle.tcp_streams.specs.States.{state_of}
use Rattle.tcp_streams.specs.Labels.{told, side_from}
use Rattle.tcp_streams.specs.Stands.{IsSound, IsSoundStream, AreFilled, IsStepped, IsOpened}
use Rattle.tcp_streams.specs.Standing.{AreStepped, AreSteppedAt, AreReady, bytes_so_far, streams_of, way_kept}
use Rattle.tcp_streams.proofs.WayLemmas.{nothing_is}
use Rattle.tcp_streams.proofs.Filling.{stretches_short, ways_filled}
use Rattle.tcp_streams.proofs.TakeLemmas.{Followed, Started, at_stream}

pub set_here : {X : Type 0} (xs : List X) (i : ℕ) (x : X) → i < length xs → slice_get (slice_set xs i x) i ≡ Some x
set_here [] i x low = absurd (omega (arith, low))
set_here (z ∷ zs) zero x low = refl
set_here (z ∷ zs) (suc i) x low = set_here zs i x (omega (arith, low))

pub set_else : {X : Type 0} (xs : List X) (i j : ℕ) (x : X) → (i ≡ j → ⊥) → slice_get (slice_set xs i x) j ≡ slice_get xs j
set_else [] i j x apart = refl
set_else (z ∷ zs) zero zero x apart = absurd (apart refl)
set_else (z ∷ zs) zero (suc j) x apart = refl
set_else (z ∷ zs) (suc i) zero x apart = refl
set_else (z ∷ zs) (suc i) (suc j) x apart = set_else zs i j x (λ e. apart (ap suc e))

push_here : {X : Type 0} (xs : List X) (x : X) → slice_get (xs ++ x ∷ []) (length xs) ≡ Some x
push_here [] x = refl
push_here (z ∷ zs) x = push_here zs x

push_else : {X : Type 0} (xs : List X) (j : ℕ) (x : X) → (j ≡ length xs → ⊥) → slice_get (xs ++ x ∷ []) j ≡ slice_get xs j
push_else [] zero x apart = absurd (apart refl)
push_else [] (suc j) x apart = refl
push_else (z ∷ zs) zero x apart = refl
push_else (z ∷ zs) (suc j) x apart = push_else zs j x (λ e. apart (ap suc e))

none_behind : {X : Type 0} (xs : List X) → slice_get xs (length xs) ≡ None
none_behind [] = refl
none_behind (z ∷ zs) = none_behind zs

apart_from : (k n : ℕ) → (k ≡ n → ⊥) → eqb k n ≡ false
apart_from k n apart = elim (eqb_tells k n) [
  | inl same ↦ absurd (apart same.1)
  | inr other ↦ other.0
]

same_as : (n : ℕ) → eqb n n ≡ true
same_as n = elim (eqb_tells n n) [
  | inl same ↦ same.0
  | inr other ↦ absurd (other.1 refl)
]

stream_is : (number : ℕ) (side : Bool) (own other : WayState) (s : Segment) (taken : Taken) → taken ≡ told number side own other s → taken.stream ≡ number
unfolding told
stream_is number side own other s taken is = ap (λ (t : Taken). t.stream) is

stepped_by : (s : Segment) (taken : Taken) (number : ℕ) (side : Bool) (old new : List Stream) → AreSteppedAt s taken number side old new → AreStepped s taken old new
stepped_by s taken number side old new at =
    (side, subst (λ (n : ℕ). AreSteppedAt s taken n side old new) (sym (stream_is number side (way_kept (slice_get old number) side) (way_kept (slice_get old number) (not side)) s taken at.told_is)) at)

-- a stream that is there
told_both : (number : ℕ) (side : Bool) (s : Segment) (old : Stream) (taken : Taken)
    → taken ≡ cond side (told number true (state_of old.one) (state_of old.zero) s) (told number false (state_of old.zero) (state_of old.one) s)
    → taken ≡ told number side (way_kept (Some old) side) (way_kept (Some old) (not side)) s
told_both number true s old taken is = is
told_both number false s old taken is = is

ways_both : (number : ℕ) (side : Bool) (s : Segment) (old new : Stream) (taken : Taken) (one : Bool) → IsStepped number side s old new taken
    → way_kept (Some new) one ≡ way_step (same_side one side) (way_kept (Some old) one) s
ways_both number side s old new taken true is = is.one
ways_both number side s old new taken false is = is.zero

stepped_at : (streams : List Stream) (number : ℕ) (side : Bool) (s : Segment) (old new : Stream) (taken : Taken) → number < length streams
    → slice_get streams number ≡ Some old → IsStepped number side s old new taken → AreSteppedAt s taken number side streams (slice_set streams number new)
stepped_at streams number side s old new taken low there is = record {
  within = omega (arith, low, length-set streams number new);
  count = length-set streams number new ∙ sym (cond-false _ _ _ (apart_from number (length streams) (λ e. absurd (omega (arith, low, e)))));
  told_is = subst (λ (o : Option Stream). taken ≡ told number side (way_kept o side) (way_kept o (not side)) s) (sym there) (told_both number side s old taken is.told_is);
  ways = λ k one. elim (eqb_tells k number) [
    | inl here ↦
        ap (λ (i : ℕ). way_kept (slice_get (slice_set streams number new) i) one) here.1
        ∙ ap (λ (o : Option Stream). way_kept o one) (set_here streams number new low)
        ∙ ways_both number side s old new taken one is
        ∙ ap (λ (o : Option Stream). way_step (same_side one side) (way_kept o one) s) (sym there)
        ∙ ap (λ (i : ℕ). way_step (same_side one side) (way_kept (slice_get streams i) one) s) (sym here.1)
        ∙ sym (cond-true _ _ _ here.0)
    | inr other ↦
        ap (λ (o : Option Stream). way_kept o one) (set_else streams number k new (λ e. other.1 (sym e)))
        ∙ sym (cond-false _ _ _ other.0)
  ];
}

pub stepped_followed : (streams after : List Stream) (s : Segment) (number : ℕ) (taken : Taken) → number < length streams → Followed streams number s taken after
    → AreStepped s taken streams after
stepped_followed streams after s number taken low followed =
    let at = at_stream streams number low in
    let f = followed at.0 at.1 in
    subst (AreStepped s taken streams) (sym f.1) (stepped_by s taken number (side_from at.0.first s) streams (slice_set streams number f.0)
    (stepped_at streams number (side_from at.0.first s) s at.0 f.0 taken low at.1 f.2))

-- a new one
opened_ways : (number : ℕ) (s : Segment) (new : Stream) (taken : Taken) (one : Bool) → IsOpened number s new taken
    → way_kept (Some new) one ≡ way_step (same_side one false) nothing s
opened_ways number s new taken true is = is.one
opened_ways number s new taken false is = is.zero

opened_at : (streams : List Stream) (s : Segment) (new : Stream) (taken : Taken) → IsOpened (length streams) s new taken
    → AreSteppedAt s taken (length streams) false streams (streams ++ new ∷ [])
opened_at streams s new taken is = record {
  within = omega (arith, length-append streams (new ∷ []));
  count = length-append streams (new ∷ []) ∙ sym (cond-true _ _ _ (same_as (length streams)));
  told_is = subst (λ (o : Option Stream). taken ≡ told (length streams) false (way_kept o false) (way_kept o true) s) (sym (none_behind streams)) is.told_is;
  ways = λ k one. elim (eqb_tells k (length streams)) [
    | inl here ↦
        ap (λ (i : ℕ). way_kept (slice_get (streams ++ new ∷ []) i) one) here.1
        ∙ ap (λ (o : Option Stream). way_kept o one) (push_here streams new)
        ∙ opened_ways (length streams) s new taken one is
        ∙ ap (λ (o : Option Stream). way_step (same_side one false) (way_kept o one) s) (sym (none_behind streams))
        ∙ ap (λ (i : ℕ). way_step (same_side one false) (way_kept (slice_get streams i) one) s) (sym here.1)
        ∙ sym (cond-true _ _ _ here.0)
    | inr other ↦
        ap (λ (o : Option Stream). way_kept o one) (push_else streams k new other.1)
        ∙ sym (cond-false _ _ _ other.0)
  ];
}

pub stepped_started : (newest more : Newest) (streams after : List Stream) (s : Segment) (taken : Taken) → Started streams newest s taken after more
    → AreStepped s taken streams after
stepped_started newest more streams after s taken f =
    subst (AreStepped s taken streams) (sym f.1) (stepped_by s taken (length streams) false streams (streams ++ f.0 ∷ []) (opened_at streams s f.0 taken f.2))

-- ---- streams that are ready

abbrev IsFine : Option Stream → Bool → Type 0
IsFine o one = IsWay (way_kept o one) × (end_of (way_kept o one) < 2 ^ 58)

fine_at : (newest : Newest) (streams : List Stream) (taken k : ℕ) (one : Bool) → IsSound newest streams taken → taken < 2 ^ 32 → IsFine (slice_get streams k) one
fine_at newest streams taken k one sound few = elim (slice_get streams k) as (λ (o : Option Stream). slice_get streams k ≡ o → IsFine o one) [
  | None ↦ λ none. (nothing_is, omega arith)
  | Some stream ↦ λ there. by stream (sound.each k stream there) one
] refl
  where
    by : (stream : Stream) → IsSoundStream taken stream → (one : Bool) → IsFine (Some stream) one
    by stream is true = (is.one, omega (arith, is.one_room, few))
    by stream is false = (is.zero, omega (arith, is.zero_room, few))

pub ways_sound : (newest : Newest) (streams : List Stream) (taken : ℕ) → IsSound newest streams taken → taken < 2 ^ 32 → (k : ℕ) (one : Bool) → IsWay (way_kept (slice_get streams k) one)
ways_sound newest streams taken sound few k one = (fine_at newest streams taken k one sound few).0

pub are_ready : (streams : Streams) → streams.kept.spent ≡ false → IsSound streams.kept.newest (streams_of streams) streams.kept.taken → AreFilled streams.kept.bytes (streams_of streams)
    → streams.kept.taken < 2 ^ 32 → bytes_so_far streams < 2 ^ 32 → AreReady streams
are_ready streams fresh sound filled few bytes_few = record {
  fresh = fresh;
  few = bytes_few;
  ways = ways_sound streams.kept.newest (streams_of streams) streams.kept.taken sound few;
  room = λ k one. (fine_at streams.kept.newest (streams_of streams) streams.kept.taken k one sound few).1;
  short = λ k one. stretches_short (bytes_so_far streams) (way_kept (slice_get (streams_of streams) k) one)
      (ways_sound streams.kept.newest (streams_of streams) streams.kept.taken sound few k one) (ways_filled (bytes_so_far streams) (streams_of streams) k one filled);
}
