-- What is kept is right for the bytes that the streams have, whatever was taken.
use Rattle.std.proofs.Common.{◌≡◌, ℕ, ◌+◌, ◌^◌, ◌<◌, ◌≤◌, Bool, true, false, not, eqb, List, [], ◌∷◌, length, Option, None, Some, option_map, unwrap_or, slice_get, slice_set, refl, sym, ap, subst, ◌∙◌, inl, inr, arith, length-append}
use Rattle.std.specs.Prelude.{◌⊎◌, All}
use Rattle.std.proofs.lemmas.Bool.{cond-true, cond-false}
use Rattle.std.proofs.lemmas.Bool.Decides.{eqb_tells}
use Rattle.std.proofs.lemmas.List.Elements.{All-nil, All-weaker}
use Rattle.std.proofs.lemmas.Option.{none-some}
use Rattle.std.proofs.Math.ListN.{length-set}
use Rattle.tcp_streams.specs.declared.segment.Segment.{Segment}
use Rattle.tcp_streams.specs.declared.segment.Taken.{Taken}
use Rattle.tcp_streams.specs.declared.stream.Stream.{Stream}
use Rattle.tcp_streams.specs.declared.streams.Streams.{Streams}
use Rattle.tcp_streams.specs.Labels.{told}
use Rattle.tcp_streams.specs.Ways.{WayState, stretches, lost_in, own_step, other_step, way_step, same_side}
use Rattle.tcp_streams.specs.Standing.{AreReady, AreStepped, AreSteppedAt, stream_count, streams_of, way_in, way_kept}
use Rattle.stream_messages.specs.declared.framer.Framer.{Framer}
use Rattle.stream_messages.specs.declared.placed.Placed.{Placed}
use Rattle.stream_messages.specs.declared.cursor.Cursor.{Cursor}
use Rattle.stream_messages.specs.Cursors.{IsQuiet, IsSound, IsWholeInOne}
use Rattle.stream_messages.proofs.CursorLemmas.{sound_longer}
use Rattle.tcp_messages.specs.declared.readers.Reader.{Reader}
use Rattle.tcp_messages.specs.declared.readers.Readers.{Readers}
use Rattle.tcp_messages.specs.Readers.{AreSound, IsBegun, IsRight, reader_of}
use Rattle.tcp_messages.specs.Reading.{AreWholeIn, IsNew, IsOpenedAt, IsReadAt, IsReadFrom, IsReadOn, IsSomeWhole, side_of}
use Rattle.tcp_messages.proofs.Passing.{own_grown}
use Rattle.tcp_messages.proofs.Streaming.{get_push, get_set, get_there}

-- the side that a segment is told to have
pub told_side : (number : ℕ) (side : Bool) (own other : WayState) (s : Segment) (taken : Taken) → taken ≡ told number side own other s → side_of taken ≡ side
unfolding told
told_side number true own other s taken is = ap (λ (t : Taken). eqb t.side 1) is
told_side number false own other s taken is = ap (λ (t : Taken). eqb t.side 1) is

told_low : (number : ℕ) (side : Bool) (own other : WayState) (s : Segment) (taken : Taken) → taken ≡ told number side own other s → taken.side < 2
unfolding told
told_low number true own other s taken is = subst (λ (t : Taken). t.side < 2) (sym is) (omega arith)
told_low number false own other s taken is = subst (λ (t : Taken). t.side < 2) (sym is) (omega arith)

pub told_lost : (number : ℕ) (side : Bool) (own other : WayState) (s : Segment) (taken : Taken) → taken ≡ told number side own other s → taken.lost ≡ lost_in own
unfolding told
told_lost number side own other s taken is = ap (λ (t : Taken). t.lost) is

pub own_way : (b : Bool) (w : WayState) (s : Segment) → way_step (same_side b b) w s ≡ own_step w s
own_way true w s = refl
own_way false w s = refl

pub other_way : (b : Bool) (w : WayState) (s : Segment) → way_step (same_side (not b) b) w s ≡ other_step w s
other_way true w s = refl
other_way false w s = refl

pub self_eqb : (n : ℕ) → eqb n n ≡ true
self_eqb n = elim (eqb_tells n n) [
  | inl same ↦ same.0
  | inr other ↦ absurd (other.1 refl)
]

-- a segment, by its stream and its side
pub record IsStep (s : Segment) (taken : Taken) (side : Bool) (old new : List Stream) : Type 0 where
  pub side_is : side_of taken ≡ side
  pub low : taken.side < 2
  pub within : taken.stream < length new
  pub opens : taken.stream ≡ length old → length new ≡ length old + 1
  pub stays : (taken.stream ≡ length old → ⊥) → length new ≡ length old
  pub lost : taken.lost ≡ lost_in (way_kept (slice_get old taken.stream) side)
  pub own : way_kept (slice_get new taken.stream) side ≡ own_step (way_kept (slice_get old taken.stream) side) s
  pub other : way_kept (slice_get new taken.stream) (not side) ≡ other_step (way_kept (slice_get old taken.stream) (not side)) s
  pub else : (k : ℕ) (one : Bool) → (k ≡ taken.stream → ⊥) → way_kept (slice_get new k) one ≡ way_kept (slice_get old k) one

step_of : (s : Segment) (taken : Taken) (side : Bool) (old new : List Stream) → AreSteppedAt s taken taken.stream side old new → IsStep s taken side old new
step_of s taken side old new at = record {
  side_is = told_side taken.stream side (way_kept (slice_get old taken.stream) side) (way_kept (slice_get old taken.stream) (not side)) s taken at.told_is;
  low = told_low taken.stream side (way_kept (slice_get old taken.stream) side) (way_kept (slice_get old taken.stream) (not side)) s taken at.told_is;
  within = at.within;
  opens = λ same. at.count ∙ cond-true _ _ _ (ap (λ (n : ℕ). eqb n (length old)) same ∙ self_eqb (length old));
  stays = λ apart. at.count ∙ elim (eqb_tells taken.stream (length old)) [
    | inl same ↦ absurd (apart same.1)
    | inr other ↦ cond-false _ _ _ other.0
  ];
  lost = told_lost taken.stream side (way_kept (slice_get old taken.stream) side) (way_kept (slice_get old taken.stream) (not side)) s taken at.told_is;
  own = at.ways taken.stream side ∙ cond-true _ _ _ (self_eqb taken.stream) ∙ own_way side (way_kept (slice_get old taken.stream) side) s;
  other = at.ways taken.stream (not side) ∙ cond-true _ _ _ (self_eqb taken.stream) ∙ other_way side (way_kept (slice_get old taken.stream) (not side)) s;
  else = λ k one apart. at.ways k one ∙ elim (eqb_tells k taken.stream) [
    | inl same ↦ absurd (apart same.1)
    | inr other ↦ cond-false _ _ _ other.0
  ];
}

pub other_front : (w : WayState) (s : Segment) → (other_step w s).front ≡ w.front
unfolding other_step
other_front w s = refl

-- each cursor is right for the bytes that its direction had
abbrev pub IsSoundWith : List Stream → ℕ → Readers → Type 0
IsSoundWith streams number r = (one : Bool) → IsRight r.framer (reader_of r one).cursor (way_kept (slice_get streams number) one).front

pub get_past : (xs : List Stream) → slice_get xs (length xs) ≡ None
get_past [] = refl
get_past (x ∷ xs) = get_past xs

-- so are the readers of a new stream, which had none
begun_right : (streams : List Stream) (number : ℕ) (r : Readers) → number ≡ length streams → ((side : Bool) → IsBegun (reader_of r side)) → IsSoundWith streams number r
begun_right streams number r is begins one =
    let none : slice_get streams number ≡ None = ap (slice_get streams) is ∙ get_past streams in
    subst (λ (o : Option Stream). IsRight r.framer (reader_of r one).cursor (way_kept o one).front) (sym none)
    (subst (λ (c : Cursor). IsRight r.framer c []) (sym (begins one).cursor) (record { sound = tt; quiet = omega arith }))

pub record AreOpened (s : Segment) (taken : Taken) (side : Bool) (old new : List Stream) (mid : List (Option Readers)) : Type 0 where
  pub step : IsStep s taken side old new
  pub count : length mid ≡ length new
  pub each : (number : ℕ) (r : Readers) → slice_get mid number ≡ Some (Some r) → IsSoundWith old number r

pub are_opened : (framer : Option Framer) (s : Segment) (taken : Taken) (side : Bool) (old : Streams) (new : List Stream) (readers mid : List (Option Readers)) → AreSound old readers
    → IsStep s taken side (streams_of old) new → IsOpenedAt framer taken.stream readers mid → AreOpened s taken side (streams_of old) new mid
are_opened framer s taken side old new readers mid sound step opened = elim (eqb_tells taken.stream (length readers)) [
  | inl here ↦
      let last = opened.0 here.1 in
      let size : length new ≡ stream_count old + 1 = step.opens (here.1 ∙ sound.count) in
      record {
        step = step;
        count = ap length last.2 ∙ length-append readers (last.0 ∷ []) ∙ ap (λ (n : ℕ). n + 1) sound.count ∙ sym size;
        each = λ number r there. by last.0 last.1 number r (get_push readers last.0 (Some r) number (ap (λ (xs : List (Option Readers)). slice_get xs number) (sym last.2) ∙ there));
      }
  | inr other ↦
      let same : mid ≡ readers = opened.1 other.1 in
      record {
        step = step;
        count = ap length same ∙ sound.count ∙ sym (step.stays (λ is. other.1 (is ∙ sym sound.count)));
        each = λ number r there. sound.each number r (ap (λ (xs : List (Option Readers)). slice_get xs number) (sym same) ∙ there);
      }
]
  where
    by : (x : Option Readers) → IsNew framer x → (number : ℕ) (r : Readers) → (slice_get readers number ≡ Some (Some r)) ⊎ ((number ≡ length readers) × (x ≡ Some r))
        → IsSoundWith (streams_of old) number r
    by x new number r (inl there) = sound.each number r there
    by x new number r (inr last) = begun_right (streams_of old) number r (last.0 ∙ sound.count) (begun framer r (subst (IsNew framer) last.1 new))
      where
        begun : (framer : Option Framer) (r : Readers) → IsNew framer (Some r) → (side : Bool) → IsBegun (reader_of r side)
        begun None r new = absurd (none-some r (sym new))
        begun (Some framer) r new = new.1

-- before a segment is read
pub own_sound : (s : Segment) (taken : Taken) (side : Bool) (old : Streams) (new : List Stream) (mid : List (Option Readers)) (r : Readers) → AreReady old → AreOpened s taken side (streams_of old) new mid
    → slice_get mid taken.stream ≡ Some (Some r) → taken.lost ≡ [] → IsSound r.framer (reader_of r side).cursor (way_kept (slice_get new taken.stream) side).front
own_sound s taken side old new mid r ready are there none =
    let w : WayState = way_kept (slice_get (streams_of old) taken.stream) side in
    let grown = own_grown w s (ready.ways taken.stream side) (sym are.step.lost ∙ none) in
    subst (λ (v : WayState). IsSound r.framer (reader_of r side).cursor v.front) (sym are.step.own)
    (subst (λ (b : List ℕ). IsSound r.framer (reader_of r side).cursor b) (sym grown.front) (sound_longer r.framer (reader_of r side).cursor w.front grown.more (are.each taken.stream r there side).sound))

-- other readers
kept_sound : (s : Segment) (taken : Taken) (side : Bool) (old new : List Stream) (mid : List (Option Readers)) (number : ℕ) (r : Readers) (one : Bool) → AreOpened s taken side old new mid
    → slice_get mid number ≡ Some (Some r) → (way_kept (slice_get new number) one).front ≡ (way_kept (slice_get old number) one).front
    → IsRight r.framer (reader_of r one).cursor (way_kept (slice_get new number) one).front
kept_sound s taken side old new mid number r one are there same = subst (IsRight r.framer (reader_of r one).cursor) (sym same) (are.each number r there one)

pub same_or : (b one : Bool) → (one ≡ b) ⊎ (one ≡ not b)
same_or true true = inl refl
same_or true false = inr refl
same_or false false = inl refl
same_or false true = inr refl

both_sound : (s : Segment) (taken : Taken) (side : Bool) (old new : List Stream) (mid : List (Option Readers)) (messages : List Placed) (x y : Readers) → AreOpened s taken side old new mid
    → slice_get mid taken.stream ≡ Some (Some x) → IsReadOn (way_kept (slice_get new taken.stream) side) taken x y messages → (one : Bool)
    → IsRight y.framer (reader_of y one).cursor (way_kept (slice_get new taken.stream) one).front
both_sound s taken side old new mid messages x y are there on one = by (same_or side one)
  where
    is : side_of taken ≡ side
    is = are.step.side_is

    by : (one ≡ side) ⊎ (one ≡ not side) → IsRight y.framer (reader_of y one).cursor (way_kept (slice_get new taken.stream) one).front
    by (inl e) =
        let here : IsRight x.framer (reader_of y side).cursor (way_kept (slice_get new taken.stream) side).front =
        subst (λ (b : Bool). IsRight x.framer (reader_of y b).cursor (way_kept (slice_get new taken.stream) side).front) is on.own.right in
        subst (λ (o : Bool). IsRight y.framer (reader_of y o).cursor (way_kept (slice_get new taken.stream) o).front) (sym e)
        (subst (λ (a : Framer). IsRight a (reader_of y side).cursor (way_kept (slice_get new taken.stream) side).front) (sym on.framer) here)
    by (inr e) =
        let kept : reader_of y (not side) ≡ reader_of x (not side) = subst (λ (b : Bool). reader_of y (not b) ≡ reader_of x (not b)) is on.other in
        let front : (way_kept (slice_get new taken.stream) (not side)).front ≡ (way_kept (slice_get old taken.stream) (not side)).front =
        ap (λ (w : WayState). w.front) are.step.other ∙ other_front (way_kept (slice_get old taken.stream) (not side)) s in
        let was : IsRight x.framer (reader_of x (not side)).cursor (way_kept (slice_get new taken.stream) (not side)).front =
        kept_sound s taken side old new mid taken.stream x (not side) are there front in
        subst (λ (o : Bool). IsRight y.framer (reader_of y o).cursor (way_kept (slice_get new taken.stream) o).front) (sym e)
        (subst (λ (a : Framer). IsRight a (reader_of y (not side)).cursor (way_kept (slice_get new taken.stream) (not side)).front) (sym on.framer)
        (subst (λ (r : Reader). IsRight x.framer r.cursor (way_kept (slice_get new taken.stream) (not side)).front) (sym kept) was))

-- behind a segment that was read
record IsKept (new : List Stream) (left : List (Option Readers)) : Type 0 where
  count : length left ≡ length new
  each : (number : ℕ) (r : Readers) → slice_get left number ≡ Some (Some r) → IsSoundWith new number r

read_kept : (s : Segment) (taken : Taken) (side : Bool) (old new : List Stream) (mid left : List (Option Readers)) (messages : List Placed) → AreOpened s taken side old new mid
    → IsReadAt (way_kept (slice_get new taken.stream) side) taken mid left messages → IsKept new left
read_kept s taken side old new mid left messages are read = by at.0 at.1 (read at.0 at.1)
  where
    at : (r : Option Readers) × (slice_get mid taken.stream ≡ Some r)
    at = get_there mid taken.stream (omega (arith, are.step.within, are.count))

    else_sound : (number : ℕ) (r : Readers) → (number ≡ taken.stream → ⊥) → slice_get mid number ≡ Some (Some r) → IsSoundWith new number r
    else_sound number r apart there = λ one. kept_sound s taken side old new mid number r one are there (ap (λ (w : WayState). w.front) (are.step.else number one apart))

    by : (r : Option Readers) → slice_get mid taken.stream ≡ Some r → IsReadFrom (way_kept (slice_get new taken.stream) side) taken mid left messages r → IsKept new left
    by None there from = subst (IsKept new) (sym from.0) (record {
      count = are.count;
      each = λ number r here. elim (eqb_tells number taken.stream) [
        | inl same ↦ absurd (none-some r (ap (λ (o : Option (Option Readers)). unwrap_or o None) (sym there ∙ ap (slice_get mid) (sym same.1) ∙ here)))
        | inr other ↦ else_sound number r other.1 here
      ];
    })
    by (Some x) there from = subst (IsKept new) (sym from.1) (record {
      count = length-set mid taken.stream (Some from.0) ∙ are.count;
      each = λ number r here. set_sound x from.0 there from.2 number r (get_set mid taken.stream number (Some from.0) (Some r) here);
    })
      where
        set_sound : (x y : Readers) → slice_get mid taken.stream ≡ Some (Some x) → IsReadOn (way_kept (slice_get new taken.stream) side) taken x y messages → (number : ℕ) (r : Readers)
            → ((taken.stream ≡ number → ⊥) × (slice_get mid number ≡ Some (Some r))) ⊎ ((taken.stream ≡ number) × (Some y ≡ Some r)) → IsSoundWith new number r
        set_sound x y there on number r (inl other) = else_sound number r (λ e. other.0 (sym e)) other.1
        set_sound x y there on number r (inr here) =
            let same : y ≡ r = ap (λ (o : Option Readers). unwrap_or o y) here.1 in
            subst (λ (k : ℕ). IsSoundWith new k r) here.0 (subst (IsSoundWith new taken.stream) same (λ one. both_sound s taken side old new mid messages x y are there on one))

pub read_sound : (s : Segment) (taken : Taken) (old new : Streams) (mid left : List (Option Readers)) (messages : List Placed) → AreReady new → AreOpened s taken (side_of taken) (streams_of old) (streams_of new) mid
    → IsReadAt (way_in new taken.stream taken.side) taken mid left messages → AreSound new left
read_sound s taken old new mid left messages ready are read =
    let kept = read_kept s taken (side_of taken) (streams_of old) (streams_of new) mid left messages are read in
    record { fresh = ready.fresh; count = kept.count; each = kept.each }

pub step_by : (s : Segment) (taken : Taken) (old new : List Stream) → AreStepped s taken old new → IsStep s taken (side_of taken) old new
step_by s taken old new stepped =
    let step = step_of s taken stepped.0 old new stepped.1 in
    subst (λ (b : Bool). IsStep s taken b old new) (sym step.side_is) step

-- what was read is whole
pub read_whole : (v : WayState) (taken : Taken) (mid left : List (Option Readers)) (messages : List Placed) → taken.stream < length mid → IsReadAt v taken mid left messages → All (IsSomeWhole (stretches v)) messages
read_whole v taken mid left messages low read = by at.0 (read at.0 at.1)
  where
    at : (r : Option Readers) × (slice_get mid taken.stream ≡ Some r)
    at = get_there mid taken.stream low

    by : (r : Option Readers) → IsReadFrom v taken mid left messages r → All (IsSomeWhole (stretches v)) messages
    by None from = subst (All (IsSomeWhole (stretches v))) (sym from.1) (All-nil (IsSomeWhole (stretches v)))
    by (Some x) from = All-weaker (IsWholeInOne x.framer (stretches v)) (IsSomeWhole (stretches v)) (λ m is. (x.framer, is)) messages from.2.own.whole

-- as its stream is framed
pub read_framed : (v : WayState) (taken : Taken) (mid left : List (Option Readers)) (messages : List Placed) (r : Option Readers) → IsReadFrom v taken mid left messages r
    → AreWholeIn (option_map (λ (x : Readers). x.framer) r) (stretches v) messages
read_framed v taken mid left messages None from = from.1
read_framed v taken mid left messages (Some x) from = from.2.own.whole

-- a stream's readers, by the place where they are kept
pub read_at_some : (v : WayState) (taken : Taken) (mid left : List (Option Readers)) (x y : Readers) (messages : List Placed) → slice_get mid taken.stream ≡ Some (Some x) → left ≡ slice_set mid taken.stream (Some y)
    → IsReadOn v taken x y messages → IsReadAt v taken mid left messages
read_at_some v taken mid left x y messages there set on r at =
    let same : Some x ≡ r = ap (λ (o : Option (Option Readers)). unwrap_or o r) (sym there ∙ at) in
    subst (IsReadFrom v taken mid left messages) same (y, set, on)

pub read_at_none : (v : WayState) (taken : Taken) (mid left : List (Option Readers)) (messages : List Placed) → slice_get mid taken.stream ≡ Some None → left ≡ mid → messages ≡ []
    → IsReadAt v taken mid left messages
read_at_none v taken mid left messages there kept none r at =
    let same : None ≡ r = ap (λ (o : Option (Option Readers)). unwrap_or o r) (sym there ∙ at) in
    subst (IsReadFrom v taken mid left messages) same (kept, none)

-- and few
pub read_few : (s : Segment) (taken : Taken) (side : Bool) (old : Streams) (new : List Stream) (mid left : List (Option Readers)) (messages : List Placed) → AreReady old → side_of taken ≡ side
    → AreOpened s taken side (streams_of old) new mid → IsReadAt (way_kept (slice_get new taken.stream) side) taken mid left messages → length messages ≤ 2 ^ 25
read_few s taken side old new mid left messages ready side_is are read = by at.0 at.1 (read at.0 at.1)
  where
    at : (r : Option Readers) × (slice_get mid taken.stream ≡ Some r)
    at = get_there mid taken.stream (omega (arith, are.step.within, are.count))

    w : WayState
    w = way_kept (slice_get (streams_of old) taken.stream) side

    by : (r : Option Readers) → slice_get mid taken.stream ≡ Some r → IsReadFrom (way_kept (slice_get new taken.stream) side) taken mid left messages r → length messages ≤ 2 ^ 25
    by None there from = let none : length messages ≡ 0 = ap length from.1 in omega (arith, none)
    by (Some x) there from =
        from.2.own.few w s (ready.ways taken.stream side) are.step.own are.step.lost
        (subst (λ (b : Bool). IsQuiet x.framer (reader_of x b).cursor w.front) (sym side_is) (are.each taken.stream x there side).quiet)
